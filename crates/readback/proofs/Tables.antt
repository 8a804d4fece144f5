-- Tables that are usable for a writer hold statements that it takes; the long form of tables is the text of their statements.
use mathlib.Core.Path.{◌≡◌, refl, subst, ap, ap₂, ◌∙◌}
use mathlib.Core.Logic.{⊎_elim}
use mathlib.Core.Bool.{Bool, true, false, ◌&&◌, ◌||◌}
use mathlib.Core.List.{◌++◌}
use mathlib.Core.Option.{Option, none, some}
use Prim.Native.Nat.{ℕ, zero, suc, ◌+◌, ◌≤◌, ◌<◌}
use native.Mathlib.Omega.{arith}
use borrow.Author.Tests.{eqb-true, leb-true, ltb-true, le-leb}
use lib.Dec.{eqb, leb, ltb, eqb-suc-zero}
use lib.ListN.{drop, length-take}
use Rattle.text.specs.Text.{Text, ascii, cond, is_none}
use Rattle.text.proofs.Compare.{and_left, and_right}
use Rattle.limits.specs.Limits.{iri_limit}
use Rattle.utf8.specs.Utf8.{first_bad}
use Rattle.utf8.proofs.Tests.{by, split, between_true}
use Rattle.dataset.specs.Terms.{numbered, Term, iri, blank, literal, tagged}
use Rattle.table.specs.Layout.{Row, row_at, iri_kind, blank_kind, literal_kind, tagged_kind, Slices}
use Rattle.table.specs.Usable.{each, Takes, the, text, tag, inside, counts_fit, has_kind, good_iri, good_datatype, good_tag, good_term, present, resource, good_row, usable, term, graph, quad, quads_from, quads_held}
use Rattle.table.specs.LongForm.{term_form, triple_form, line, lines_from, long_form}
use Rattle.readback.proofs.Forms.{GoodIri, Good, GoodPredicate, GoodResource, GoodGraph, GoodQuad, GoodQuads, form, triple_text, line_text, text_of}

-- ---- The long form as a text of statements

cond_form : (b : Bool) (t u : Term) → cond b (form t) (form u) ≡ form (cond b t u)
cond_form true t u = refl
cond_form false t u = refl

module _ (s : Slices) where
  term_text : (n : ℕ) → term_form s n ≡ form (term s n)
  unfolding term_form
  term_text n =
      ap (λ (x : Text). cond (has_kind s iri_kind n) (form (iri (text s n))) x)
      (ap (λ (x : Text). cond (has_kind s blank_kind n) (form (blank (numbered (the s n).fourth))) x)
      (cond_form (has_kind s literal_kind n) (literal (text s n) (text s (the s n).fourth)) (tagged (text s n) (tag s n)))
      ∙ cond_form (has_kind s blank_kind n) (blank (numbered (the s n).fourth)) (cond (has_kind s literal_kind n) (literal (text s n) (text s (the s n).fourth)) (tagged (text s n) (tag s n))))
      ∙ cond_form (has_kind s iri_kind n) (iri (text s n))
      (cond (has_kind s blank_kind n) (blank (numbered (the s n).fourth)) (cond (has_kind s literal_kind n) (literal (text s n) (text s (the s n).fourth)) (tagged (text s n) (tag s n))))

  row_triple : (r : Row) → triple_form s r ≡ triple_text (quad s r).triple
  unfolding triple_form
  row_triple r =
      ap₂ (λ (a b : Text). a ++ ascii " " ++ b ++ ascii " " ++ term_form s r.object ++ ascii " .") (term_text r.subject) (term_text r.predicate)
      ∙ ap (λ (c : Text). form (term s r.subject) ++ ascii " " ++ form (term s r.predicate) ++ ascii " " ++ c ++ ascii " .") (term_text r.object)

  row_line : (r : Row) → line s r ≡ line_text (quad s r).graph (quad s r).triple
  unfolding line
  row_line r = go r.graph
    where
      go : (g : ℕ) → cond (eqb g 0) (triple_form s r) (term_form s g ++ ascii " { " ++ triple_form s r ++ ascii " }") ++ ascii "\n" ≡ line_text (graph s g) (quad s r).triple
      go zero = ap (λ (x : Text). x ++ ascii "\n") (row_triple r)
      go (suc g) = rw (eqb-suc-zero g) (ap₂ (λ (a b : Text). (a ++ ascii " { " ++ b ++ ascii " }") ++ ascii "\n") (term_text (suc g)) (row_triple r))

  lines_text : (n i : ℕ) → lines_from s i n ≡ text_of (quads_from s i n)
  unfolding lines_from quads_from text_of
  lines_text zero i = refl
  lines_text (suc n) i = ap₂ (λ (a b : Text). a ++ b) (row_line (row_at s.rows i)) (lines_text n (suc i))

  pub long_form_text : long_form s ≡ text_of (quads_held s)
  unfolding long_form quads_held
  long_form_text = lines_text s.row_count 0

-- ---- Usable tables

each_at : (p : ℕ → Bool) (n from : ℕ) → each p from n ≡ true → (i : ℕ) → from ≤ i → i < from + n → p i ≡ true
unfolding each
each_at p zero from e i l u = absurd (omega arith)
each_at p (suc n) from e i l u =
    ⊎_elim (λ h. each_at p n (suc from) (and_right (p from) (each p (suc from) n) e) i h (omega arith))
    (λ h. let f : from ≡ i = omega arith in subst (λ (x : ℕ). p x ≡ true) f (and_left (p from) (each p (suc from) n) e))
    (split from i)

-- What one of four kinds says.
module _ (a b c : Bool) where
  abbrev kinds_good : ℕ → Bool
  kinds_good k = (eqb k iri_kind && a) || eqb k blank_kind || (eqb k literal_kind && b) || (eqb k tagged_kind && c)

  or_right_false : (x : Bool) → (x || false) ≡ x
  or_right_false true = refl
  or_right_false false = refl

  kind_iri : (k : ℕ) → kinds_good k ≡ true → eqb k iri_kind ≡ true → a ≡ true
  kind_iri k e h = let f : kinds_good 1 ≡ true = subst (λ (x : ℕ). kinds_good x ≡ true) (eqb-true k 1 h) e in simp or_right_false at f

  kind_literal : (k : ℕ) → kinds_good k ≡ true → eqb k literal_kind ≡ true → b ≡ true
  kind_literal k e h = let f : kinds_good 3 ≡ true = subst (λ (x : ℕ). kinds_good x ≡ true) (eqb-true k 3 h) e in simp or_right_false at f

  kind_tagged : (k : ℕ) → kinds_good k ≡ true → eqb k iri_kind ≡ false → eqb k blank_kind ≡ false → eqb k literal_kind ≡ false → c ≡ true
  kind_tagged k e f g h = and_right (eqb k tagged_kind) c (rw (f, g, h) at e)

pub none_bad : (o : Option ℕ) → is_none o ≡ true → o ≡ none
none_bad none e = refl
none_bad (some n) e = let z : ◌≡◌ {A = ℕ} 0 1 = cc in absurd (omega arith)

module _ (v : Takes) (s : Slices) (u : usable v s ≡ true) where
  terms_good : (n : ℕ) → present s n ≡ true → good_term v s n ≡ true
  unfolding usable
  terms_good n p =
      let b = between_true 1 s.term_count n p in
      let l = b.0 in
      let m = b.1 in
      each_at (good_term v s) s.term_count 1
      (and_right (counts_fit s) (each (good_term v s) 1 s.term_count) (and_left (counts_fit s && each (good_term v s) 1 s.term_count) (each (λ i. good_row s (row_at s.rows i)) 0 s.row_count) u))
      n l (omega arith)

  module _ (n : ℕ) (g : good_term v s n ≡ true) where
    abbrev kinds : Bool
    kinds = kinds_good (good_iri v s n) (good_datatype s n) (good_tag v s n) (the s n).kind

    front : (inside s (the s n).start (the s n).size && is_none (first_bad (text s n))) ≡ true
    unfolding good_term
    front = and_left (inside s (the s n).start (the s n).size && is_none (first_bad (text s n))) kinds g

    text_utf8 : first_bad (text s n) ≡ none
    text_utf8 = none_bad (first_bad (text s n)) (and_right (inside s (the s n).start (the s n).size) (is_none (first_bad (text s n))) front)

    kinds_true : kinds ≡ true
    unfolding good_term
    kinds_true = and_right (inside s (the s n).start (the s n).size && is_none (first_bad (text s n))) kinds g

    iri_good : has_kind s iri_kind n ≡ true → GoodIri v (text s n)
    iri_good h =
        let e = kind_iri (good_iri v s n) (good_datatype s n) (good_tag v s n) (the s n).kind kinds_true h in
        let l = leb-true (the s n).size iri_limit (and_right (v.iri (text s n)) (leb (the s n).size iri_limit) e) in
        let m = length-take (the s n).size (drop (the s n).start s.store) in
        record { taken = and_left (v.iri (text s n)) (leb (the s n).size iri_limit) e; short = omega arith; utf8 = text_utf8 }

  type_good : (n : ℕ) → present s n ≡ true → good_datatype s n ≡ true → GoodIri v (text s (the s n).fourth)
  type_good n p e =
      let d = (the s n).fourth in
      let f = and_left (leb 1 d && ltb d n) (has_kind s iri_kind d) e in
      let l = leb-true 1 d (and_left (leb 1 d) (ltb d n) f) in
      let m = ltb-true d n (and_right (leb 1 d) (ltb d n) f) in
      let b = (between_true 1 s.term_count n p).1 in
      iri_good d (terms_good d (simp (le-leb 1 d l, le-leb d s.term_count (omega arith)))) (and_right (leb 1 d && ltb d n) (has_kind s iri_kind d) e)

  term_good : (n : ℕ) → present s n ≡ true → Good v (term s n)
  term_good n p =
      let g = terms_good n p in
      by (has_kind s iri_kind n) (λ a. rw a (iri_good n g a))
      (λ a.
      by (has_kind s blank_kind n) (λ b. rw (a, b) tt)
      (λ b.
      by (has_kind s literal_kind n)
      (λ c.
      rw (a, b, c)
      (text_utf8 n g, type_good n p (kind_literal (good_iri v s n) (good_datatype s n) (good_tag v s n) (the s n).kind (kinds_true n g) c)))
      (λ c.
      rw (a, b, c) (
        text_utf8 n g,
        and_right (inside s (the s n).fourth (the s n).fifth) (v.tag (tag s n))
            (kind_tagged (good_iri v s n) (good_datatype s n) (good_tag v s n) (the s n).kind (kinds_true n g) a b c),
      ))))

  predicate_good : (n : ℕ) → (present s n && has_kind s iri_kind n) ≡ true → GoodPredicate v (term s n)
  predicate_good n e =
      let p = and_left (present s n) (has_kind s iri_kind n) e in
      let a = and_right (present s n) (has_kind s iri_kind n) e in
      rw a (iri_good n (terms_good n p) a)

  resource_good : (n : ℕ) → resource s n ≡ true → GoodResource v (term s n)
  resource_good n e =
      let p = and_left (present s n) (has_kind s iri_kind n || has_kind s blank_kind n) e in
      let k = and_right (present s n) (has_kind s iri_kind n || has_kind s blank_kind n) e in
      by (has_kind s iri_kind n) (λ a. rw a (iri_good n (terms_good n p) a)) (λ a. let b : has_kind s blank_kind n ≡ true = rw a at k in rw (a, b) tt)

  graph_good : (n : ℕ) → (eqb n 0 || resource s n) ≡ true → GoodGraph v (graph s n)
  graph_good zero e = tt
  graph_good (suc n) e = resource_good (suc n) (rw (eqb-suc-zero n) at e)

  row_good : (r : Row) → good_row s r ≡ true → GoodQuad v (quad s r)
  unfolding good_row
  row_good r e =
      let P = present s r.predicate && has_kind s iri_kind r.predicate in
      let G = eqb r.graph 0 || resource s r.graph in
      let S = resource s r.subject in
      let O = present s r.object in
      let f = and_left (G && S && P) O e in
      let h = and_left (G && S) P f in
      record {
        graph = graph_good r.graph (and_left G S h);
        subject = resource_good r.subject (and_right G S h);
        predicate = predicate_good r.predicate (and_right (G && S) P f);
        object = term_good r.object (and_right (G && S && P) O e);
      }

  rows_good : (n from : ℕ) → each (λ i. good_row s (row_at s.rows i)) from n ≡ true → GoodQuads v (quads_from s from n)
  unfolding each quads_from
  rows_good zero from e = tt
  rows_good (suc n) from e =
      let p : ℕ → Bool = λ i. good_row s (row_at s.rows i) in
      (row_good (row_at s.rows from) (and_left (p from) (each p (suc from) n) e), rows_good n (suc from) (and_right (p from) (each p (suc from) n) e))

  pub held_good : GoodQuads v (quads_held s)
  unfolding usable quads_held
  held_good = rows_good s.row_count 0 (and_right (counts_fit s && each (good_term v s) 1 s.term_count) (each (λ i. good_row s (row_at s.rows i)) 0 s.row_count) u)
