-- What the terms and rows of usable tables have.
use mathlib.Core.Path.{◌≡◌, sym}
use mathlib.Core.Bool.{Bool, true, ◌&&◌, ◌||◌}
use Prim.Native.Nat.{ℕ, ◌+◌, ◌≤◌}
use native.Mathlib.Omega.{arith}
use borrow.Author.Tests.{leb-true, le-leb, ltb-true, eqb-true, ne_eqb}
use lib.Dec.{eqb, leb, ltb}
use Rattle.text.specs.Text.{between, is_none}
use Rattle.text.proofs.Compare.{by, and_left, and_right, contrary}
use Rattle.utf8.specs.Utf8.{first_bad}
use Rattle.utf8.proofs.Tests.{between_true}
use Rattle.table.specs.Layout.{Row, Slices, row_at, iri_kind, blank_kind, literal_kind, tagged_kind}
use Rattle.table.specs.Usable.{Takes, the, text, tag, inside, has_kind, good_iri, good_datatype, good_tag, good_term, good_row, present, resource, usable}
use Rattle.usable.specs.Lent.{Stands, SpanIn, readable, right_kind, drawn, bare, Sound, SoundRows}
use Rattle.usable.proofs.Facts.{usable_fits, usable_term, usable_row}

between_in : (lo hi c : ℕ) → lo ≤ c → c ≤ hi → between lo hi c ≡ true
between_in lo hi c h k = rw (le-leb lo c h, le-leb c hi k)

-- A test by kind holds: what it says of the kinds that ask for more than a text.
module _ (k : ℕ) (a b c : Bool) (t : ((eqb k iri_kind && a) || eqb k blank_kind || (eqb k literal_kind && b) || (eqb k tagged_kind && c)) ≡ true) where
  pub first : k ≡ iri_kind → a ≡ true
  first h = by a (λ e. e) (λ e. contrary (sym (rw (h, e) at t)))

  pub third : k ≡ literal_kind → b ≡ true
  third h = by b (λ e. e) (λ e. contrary (sym (rw (h, e) at t)))

  pub fourth : (k ≡ iri_kind → ⊥) → (k ≡ blank_kind → ⊥) → (k ≡ literal_kind → ⊥) → c ≡ true
  fourth h i j = and_right (eqb k tagged_kind) c (rw (ne_eqb k iri_kind h, ne_eqb k blank_kind i, ne_eqb k literal_kind j) at t)

  pub kinds : (iri_kind ≤ k) × (k ≤ tagged_kind)
  kinds =
      by (eqb k iri_kind) (λ e. let q = eqb-true k iri_kind e in (omega arith, omega arith))
      (λ e.
      by (eqb k blank_kind) (λ f. let q = eqb-true k blank_kind f in (omega arith, omega arith))
      (λ f.
      by (eqb k literal_kind) (λ g. let q = eqb-true k literal_kind g in (omega arith, omega arith))
      (λ g. let q = eqb-true k tagged_kind (and_left (eqb k tagged_kind) c (rw (e, f, g) at t)) in (omega arith, omega arith))))

-- ---- Terms

module _ (w : Takes) (s : Slices) (e : usable w s ≡ true) (n : ℕ) (p : present s n ≡ true) where
  pub bounds : (1 ≤ n) × (n ≤ s.term_count)
  bounds = between_true 1 s.term_count n p

  pub stands : Stands s.terms n
  stands = let f = (usable_fits w s e).terms in let b = bounds.0 in let c = bounds.1 in (b, omega arith)

  good : good_term w s n ≡ true
  good = usable_term w s e n bounds.0 bounds.1

  text_good : readable s n ≡ true
  unfolding good_term
  text_good = and_left (readable s n) (right_kind w s n) good

  pub kind_good : right_kind w s n ≡ true
  unfolding good_term
  kind_good = and_right (readable s n) (right_kind w s n) good

  pub text_within : (the s n).start + (the s n).size ≤ s.store_count
  text_within = leb-true ((the s n).start + (the s n).size) s.store_count (and_left (inside s (the s n).start (the s n).size) (is_none (first_bad (text s n))) text_good)

  pub text_stands : SpanIn s n
  text_stands = let f = (usable_fits w s e).store in let t = text_within in omega arith

  pub typed : (the s n).kind ≡ literal_kind → present s (the s n).fourth ≡ true
  typed k =
      let d = (the s n).fourth in
      let t = third (the s n).kind (good_iri w s n) (good_datatype s n) (good_tag w s n) kind_good k in
      let u = and_left (leb 1 d && ltb d n) (has_kind s iri_kind d) t in
      let l = leb-true 1 d (and_left (leb 1 d) (ltb d n) u) in
      let m = ltb-true d n (and_right (leb 1 d) (ltb d n) u) in
      let b = bounds.1 in
      between_in 1 s.term_count d l (omega arith)

  pub tagged : ((the s n).kind ≡ iri_kind → ⊥) → ((the s n).kind ≡ blank_kind → ⊥) → ((the s n).kind ≡ literal_kind → ⊥) → (the s n).fourth + (the s n).fifth ≤ s.store_count
  tagged i b l =
      leb-true ((the s n).fourth + (the s n).fifth) s.store_count
      (and_left (inside s (the s n).fourth (the s n).fifth) (w.tag (tag s n))
      (fourth (the s n).kind (good_iri w s n) (good_datatype s n) (good_tag w s n) kind_good i b l))

module _ (w : Takes) (s : Slices) (e : usable w s ≡ true) (n : ℕ) (p : present s n ≡ true) where
  pub sound : Sound (bare s) n
  sound = record {
    stands = stands w s e n p;
    text_in = text_stands w s e n p;
    low = (kinds (the s n).kind (good_iri w s n) (good_datatype s n) (good_tag w s n) (kind_good w s e n p)).0;
    high = (kinds (the s n).kind (good_iri w s n) (good_datatype s n) (good_tag w s n) (kind_good w s e n p)).1;
    type_stands = λ k. stands w s e (the s n).fourth (typed w s e n p k);
    type_in = λ k. text_stands w s e (the s n).fourth (typed w s e n p k);
    tag_in = λ i b l. let f = (usable_fits w s e).store in let t = tagged w s e n p i b l in omega arith;
  }

-- ---- Rows

module _ (s : Slices) where
  resource_in : (n : ℕ) → resource s n ≡ true → present s n ≡ true
  resource_in n t = and_left (present s n) (has_kind s iri_kind n || has_kind s blank_kind n) t

  module _ (r : Row) (t : good_row s r ≡ true) where
    labelled : Bool
    labelled = eqb r.graph 0 || resource s r.graph

    subjected : Bool
    subjected = resource s r.subject

    predicated : Bool
    predicated = present s r.predicate && has_kind s iri_kind r.predicate

    triple_good : (labelled && subjected && predicated) ≡ true
    unfolding good_row labelled subjected predicated
    triple_good = and_left (labelled && subjected && predicated) (present s r.object) t

    pub object_in : present s r.object ≡ true
    unfolding good_row labelled subjected predicated
    object_in = and_right (labelled && subjected && predicated) (present s r.object) t

    pub predicate_in : present s r.predicate ≡ true
    unfolding predicated
    predicate_in = and_left (present s r.predicate) (has_kind s iri_kind r.predicate) (and_right (labelled && subjected) predicated triple_good)

    pub subject_in : present s r.subject ≡ true
    unfolding subjected
    subject_in = resource_in r.subject (and_right labelled subjected (and_left (labelled && subjected) predicated triple_good))

    pub graph_in : (r.graph ≡ 0 → ⊥) → present s r.graph ≡ true
    unfolding labelled
    graph_in n = resource_in r.graph (rw (ne_eqb r.graph 0 n) at (and_left labelled subjected (and_left (labelled && subjected) predicated triple_good)))

module _ (w : Takes) (s : Slices) (e : usable w s ≡ true) where
  pub sound_rows : SoundRows (drawn s.rows s.terms s.store) s.row_count
  sound_rows i h =
      let r = row_at s.rows i in
      let t = usable_row w s e i h in
      record {
        stands = let f = (usable_fits w s e).rows in omega arith;
        graph = λ n. sound w s e r.graph (graph_in s r t n);
        subject = sound w s e r.subject (subject_in s r t);
        predicate = sound w s e r.predicate (predicate_in s r t);
        object = sound w s e r.object (object_in s r t);
      }
