-- The demands, C-16, C-17, C-21 and C-22, over the contract of the reader's call.
use mathlib.Core.Path.{◌≡◌, refl, sym, ap, subst, ◌∙◌}
use mathlib.Core.List.{List, [], ◌∷◌, map}
use mathlib.Core.Bool.{true}
use mathlib.Core.Logic.{◌↔◌}
use Prim.Native.Nat.{ℕ, zero, suc, ◌≤◌}
use native.Mathlib.Omega.{arith}
use lib.ListN.{length, take, length-map}
use Rattle.text.specs.Text.{Text}
use Rattle.limits.specs.Limits.{iri_limit}
use Rattle.token.specs.Tokens.{lexemes, place_of}
use Rattle.dataset.specs.Terms.{Blank, Term, iri, blank, literal, tagged, Quad}
use Rattle.dataset.specs.Statements.{statements}
use Rattle.table.specs.Layout.{Slices}
use Rattle.table.specs.Usable.{for_long_form, usable}
use Rattle.table.proofs.Written.{fits_zero}
use Rattle.std.specs.Prelude.{Ok}
use Rattle.look_up.specs.declared.Rows.{Rows}
use Rattle.look_up.specs.Look.{look}
use Rattle.subject_index.specs.Index.{index, check}
use Rattle.subject_index.specs.Index.{write as write_index}
use Rattle.subject_index.specs.About.{iri_text, subject_of, about}
use Rattle.subject_index.proofs.Expected.{written_yes}
use Rattle.subject_index.proofs.Looked.{look_tables}
use Rattle.subject_index.proofs.About.{walk_same, walk_held}
use Rattle.comparison.specs.Comparison.{lefts, rights, legal, told, compare}
use Rattle.comparison.proofs.Sets.{taken_told}
use Rattle.machine.specs.Read.{Answer, mode_of, read}
use Rattle.machine.specs.Demand.{Meets}
use Rattle.machine.proofs.Demands.{accepted_iff_meets}
use Rattle.reader.specs.Reader.{LentSlices, lengths, Gives, Contract, Reading}
use Rattle.reader.proofs.Counts.{rows_small}
use Rattle.readback.specs.ReadBack.{with_blanks_term, with_blanks, slices_after, RoundTrip}
use Rattle.readback.specs.HandedOver.{HandedOver}
use Rattle.readback.proofs.RoundTrip.{written_again}
use Rattle.readback.proofs.HandedOver.{handed_over}
use Rattle.completions.specs.FailsFirst.{grammar_refusal, FailsFirst}
use Rattle.completions.specs.Refused.{Refused}
use Rattle.completions.specs.Answered.{Answered}
use Rattle.completions.proofs.FailsFirst.{fails_answer, eight_fails_first}
use Rattle.completions.proofs.Refused.{refused_answer, refused_only, answered, answered_once}
use Rattle.appended.specs.Appended.{with_text_added, Begins}
use Rattle.appended.specs.Parts.{MeetsBehind}
use Rattle.appended.proofs.Appended.{appended}
use Rattle.appended.proofs.Parts.{told_from_parts}
use Rattle.calls.specs.Calls.{accepted, handed}

-- Other names for blank nodes change nothing of what statements say about an IRI.
module _ (f : Blank → Blank) where
  same_iri : (t : Term) → iri_text (with_blanks_term f t) ≡ iri_text t
  same_iri (iri t) = refl
  same_iri (blank b) = refl
  same_iri (literal t d) = refl
  same_iri (tagged t g) = refl

  same_subject : (qs : List Quad) (i : ℕ) → subject_of (map (with_blanks f) qs) i ≡ subject_of qs i
  same_subject [] i = refl
  same_subject (q ∷ qs) zero = same_iri q.triple.subject
  same_subject (q ∷ qs) (suc i) = same_subject qs i

  about_renamed : (qs : List Quad) (t : Text) → about (map (with_blanks f) qs) t ≡ about qs t
  about_renamed qs t = rw (length-map qs (with_blanks f)) (walk_same (subject_of (map (with_blanks f) qs)) (subject_of qs) t (length qs) (λ i h. same_subject qs i))

-- One call.
module _ (doc : Text) (mode : ℕ) (base : Text) (old new : LentSlices) (r : Reading) (c : Contract doc mode base old new r) where
  -- The slices after it are those that the answer leaves.
  same_slices : slices_after (read doc mode base (lengths old)) old.rows old.terms old.store ≡ handed new r
  same_slices =
      λ i. record {
        rows = sym c.rows i;
        row_count = sym c.row_count i;
        terms = sym c.terms i;
        term_count = sym c.term_count i;
        store = sym c.store i;
        store_count = sym c.store_count i;
      }

  -- "every call ends with its number, its byte position and exactly known contents of all lent memory": there is an answer,
  pub some_answer : (a : Answer) × Answered doc mode base (lengths old) a × Gives a old new r
  some_answer = (read doc mode base (lengths old), answered doc mode base (lengths old), c)

  -- and whatever the papers say is the answer is what the call gives and leaves.
  pub the_answer : (a : Answer) → Answered doc mode base (lengths old) a → Gives a old new r
  the_answer a x = subst (λ (b : Answer). Gives b old new r) (sym (answered_once doc mode base (lengths old) a x)) c

  -- "A document is accepted exactly when the published rules say so"
  pub accepted_exactly : (r.number ≡ accepted) ↔ Meets doc mode base (lengths old)
  accepted_exactly =
      let (f, g) = accepted_iff_meets doc mode base (lengths old) in
      (λ e. f (sym c.number ∙ e), λ x. c.number ∙ g x)

  -- "The statements handed over are those that the RDF 1.1 TriG and Turtle Recommendations construct"
  pub handed_statements : r.number ≡ accepted → HandedOver doc mode base (handed new r)
  handed_statements e = subst (HandedOver doc mode base) same_slices (handed_over doc mode base (lengths old) (sym c.number ∙ e) old.rows old.terms old.store)

  -- "the long form, read again, gives the same statements up to renaming of blank nodes"
  pub read_again : r.number ≡ accepted → RoundTrip doc mode base (handed new r)
  read_again e = subst (RoundTrip doc mode base) same_slices (written_again doc mode base (lengths old) (sym c.number ∙ e) old.rows old.terms old.store)

  -- "18 for unusable tables": never for what the reader leaves. The builder writes the index of it where the output holds that, and what it wrote the check accepts.
  pub indexed : r.number ≡ accepted → (out : Text) → length (index (handed new r)) ≤ length out
      → ((write_index (handed new r) out).number ≡ accepted) × (check (handed new r) (take (write_index (handed new r) out).position (write_index (handed new r) out).output) ≡ Ok true)
  unfolding write_index
  indexed e out l =
      let s = handed new r in
      let u = (read_again e).usable in
      let z = fits_zero 22 (usable for_long_form s) (index s) out u l in
      (z, written_yes s out z)

  -- C-17: for bytes that the check accepts, the look-up says how many of the document's statements have the address as their subject, and which is the first.
  pub looked_up : (e : r.number ≡ accepted) (bytes : Text) → check (handed new r) bytes ≡ Ok true → (address : Text)
      → look iri_limit address bytes ≡ Ok (about (statements (mode_of mode) (handed_statements e).derivation base) address)
  looked_up e bytes said address =
      let s = handed new r in
      let h = handed_statements e in
      let few = rows_small doc mode base old new r c in
      look_tables s (omega arith) bytes said iri_limit (omega arith) (omega arith) address
      ∙ ap (λ (w : Rows). Ok w) (walk_held s address ∙ (ap (λ (qs : List Quad). about qs address) h.same ∙ about_renamed h.rename (statements (mode_of mode) h.derivation base) address))

  -- "a grammar refusal stands at the first token with which the tokens so far begin no grammatical text", and only there
  pub refused_there : (i : ℕ) → FailsFirst doc mode base (lengths old) i → (r.number ≡ grammar_refusal) × (r.position ≡ place_of (length doc) (lexemes doc) i)
  refused_there i f =
      let e = fails_answer doc mode base (lengths old) i f in
      (c.number ∙ ap (λ (a : Answer). a.number) e, c.position ∙ ap (λ (a : Answer). a.position) e)

  pub only_there : r.number ≡ grammar_refusal → (i : ℕ) × FailsFirst doc mode base (lengths old) i × (r.position ≡ place_of (length doc) (lexemes doc) i)
  only_there e = let (i, f, p) = eight_fails_first doc mode base (lengths old) (sym c.number ∙ e) in (i, f, c.position ∙ p)

  -- "token by token; at each token 6 to 16 in number order": a refusal from 6 on is given exactly where it stands
  pub refused_exactly : (i n : ℕ) → Refused doc mode base (lengths old) i n → (r.number ≡ n) × (r.position ≡ place_of (length doc) (lexemes doc) i)
  refused_exactly i n f =
      let e = refused_answer doc mode base (lengths old) i n f in
      (c.number ∙ ap (λ (a : Answer). a.number) e, c.position ∙ ap (λ (a : Answer). a.position) e)

  pub refused_nowhere_else : 6 ≤ r.number → (i : ℕ) × Refused doc mode base (lengths old) i r.number × (r.position ≡ place_of (length doc) (lexemes doc) i)
  refused_nowhere_else h =
      let (i, f, p) = refused_only doc mode base (lengths old) (subst (λ n. 6 ≤ n) c.number h) in
      (i, subst (Refused doc mode base (lengths old) i) (sym c.number) f, c.position ∙ p)

-- Two calls with one mode and one base, whatever each is lent: the second reads the first's document, a line feed and further text.
module _ (doc more : Text) (mode : ℕ) (base : Text) (old new old' new' : LentSlices) (r r' : Reading) (c : Contract doc mode base old new r)
    (d : Contract (with_text_added doc more) mode base old' new' r') where
  -- "the rows, terms, store bytes .. of the first are the beginning of those of the second"
  pub text_added : r.number ≡ accepted → r'.number ≡ accepted → Begins (handed new r) (handed new' r')
  text_added e f =
      subst (λ (s : Slices). Begins s (handed new' r')) (same_slices doc mode base old new r c)
      (subst (Begins (slices_after (read doc mode base (lengths old)) old.rows old.terms old.store)) (same_slices (with_text_added doc more) mode base old' new' r' d)
      (appended doc more mode base (lengths old) (lengths old') (sym c.number ∙ e) (sym d.number ∙ f) old.rows old'.rows old.terms old'.terms old.store old'.store))

  -- The second is accepted exactly if the further text meets the conditions under the first's prefixes and base.
  pub text_accepted : r.number ≡ accepted → (r'.number ≡ accepted) ↔ MeetsBehind doc more mode base (lengths old')
  text_accepted e =
      let (f, g) = told_from_parts doc more mode base (lengths old) (lengths old') (sym c.number ∙ e) in
      (λ a. f (sym d.number ∙ a), λ z. d.number ∙ g z)

-- C-21: any two calls. "18 for either side": never for what the reader leaves, so that a legal pairing and lists with room are all that a comparison needs.
module _ (doc doc' : Text) (mode mode' : ℕ) (base base' : Text) (old new old' new' : LentSlices) (r r' : Reading) (c : Contract doc mode base old new r) (d : Contract doc' mode' base' old' new' r') where
  pub compared : r.number ≡ accepted → r'.number ≡ accepted → (p left_list right_list : List ℕ) → legal (handed new r) (handed new' r') p ≡ true
      → length (lefts (handed new r) (handed new' r') p) ≤ length left_list → length (rights (handed new r) (handed new' r') p) ≤ length right_list
      → compare (handed new r) (handed new' r') p left_list right_list ≡ told (lefts (handed new r) (handed new' r') p) (rights (handed new r) (handed new' r') p) left_list right_list
  compared e e' p left_list right_list lawful x y =
      taken_told (handed new r) (handed new' r') p left_list right_list
      (record {
        left_usable = (read_again doc mode base old new r c e).usable;
        right_usable = (read_again doc' mode' base' old' new' r' d e').usable;
        legal = lawful;
        left_room = x;
        right_room = y;
      })
