-- What the reader leaves of an accepted document the writer takes, and its long form, read again, gives the document's statements.
use mathlib.Core.Path.{◌≡◌, refl, sym, ap, ◌∙◌, subst}
use mathlib.Core.Logic.{◌⊎◌, inl, inr}
use mathlib.Core.Bool.{Bool, true, false, not, ◌||◌}
use mathlib.Core.List.{List, [], ◌∷◌, map}
use Prim.Native.Nat.{ℕ, ◌*◌, ◌≤◌, ◌<◌}
use native.Mathlib.Omega.{arith}
use borrow.Author.Tests.{ltb-false}
use lib.Dec.{ltb}
use lib.ListN.{length, take}
use Rattle.text.specs.Text.{Text, is_none, some_byte}
use Rattle.text.proofs.Compare.{contrary}
use Rattle.limits.specs.Limits.{document_limit, iri_limit, work_size}
use Rattle.utf8.specs.Utf8.{first_bad}
use Rattle.utf8.proofs.Tests.{or_false}
use Rattle.token.specs.Tokens.{lexemes}
use Rattle.iri.specs.Iri.{has_scheme, forbidden}
use Rattle.dataset.specs.Terms.{Quad}
use Rattle.table.specs.Layout.{row_size, term_size, word_limit, Slices}
use Rattle.table.specs.Tables.{store_size}
use Rattle.table.specs.Usable.{for_long_form, usable}
use Rattle.table.specs.LongForm.{long_form, write}
use Rattle.table.proofs.Written.{never_eighteen, fits_zero}
use Rattle.machine.specs.Memory.{Memory, start_memory}
use Rattle.machine.specs.Frame.{statement}
use Rattle.machine.specs.Read.{Lent, lends, Answer, bad_base, first_checks, success, mode_of, room_of, start_state, read}
use Rattle.machine.specs.Construction.{tables}
use Rattle.machine.specs.Demand.{room_for, Fits, Meets}
use Rattle.machine.proofs.Constructed.{tables_hold}
use Rattle.machine.proofs.Firsts.{none_passes}
use Rattle.machine.proofs.Demands.{meets_run, meets_answer, zero_meets}
use Rattle.machine.proofs.Distinct.{one_number}
use Rattle.machine.proofs.Sizes.{sizes}
use Rattle.readback.specs.ReadBack.{long_form_mode, ReadAgain, slices_after, with_blanks, SameStatements, RoundTrip}
use Rattle.readback.proofs.Tables.{none_bad}
use Rattle.readback.proofs.ReadBack.{written_form, read_again}
use Rattle.readback.proofs.Kept.{Kept}
use Rattle.readback.proofs.Iris.{Absolute}
use Rattle.readback.proofs.Runs.{Stays, stays_run}
use Rattle.readback.proofs.Lexed.{all_lexed}
use Rattle.readback.proofs.Laid.{laid_usable}
use Rattle.readback.proofs.Numbering.{new_label, labels_differ, held_same}

-- A lent base that 3 does not refuse is empty, or has a scheme and is UTF-8.
base_absolute : (b : Text) → bad_base b ≡ false → (b ≡ []) ⊎ Absolute b
unfolding bad_base
base_absolute [] e = inl refl
base_absolute (c ∷ b) e =
    let s : Text = c ∷ b in
    let (f, g) = or_false (ltb iri_limit (length s) || not (is_none (first_bad s)) || not (has_scheme s)) (some_byte forbidden s) e in
    let (h, i) = or_false (ltb iri_limit (length s) || not (is_none (first_bad s))) (not (has_scheme s)) f in
    let (j, k) = or_false (ltb iri_limit (length s)) (not (is_none (first_bad s))) h in
    inr (record { scheme = is_so (has_scheme s) i; utf8 = none_bad (first_bad s) (is_so (is_none (first_bad s)) k) })
  where
    is_so : (x : Bool) → not x ≡ false → x ≡ true
    is_so true e = refl
    is_so false e = contrary e

-- What is written when the long form is read again is no more than a document of its length makes: lent just that room, it is accepted.
again_fits : (s : Slices) (r : ReadAgain s) → Fits (room_for (length (long_form s))) r.memory
again_fits s r =
    let m = r.memory in
    let text = long_form s in
    let lent : Lent = lends work_size (row_size * length m.rows) (term_size * length m.terms) (store_size m.terms) in
    let fits : Fits (room_of lent) m = record { rows = omega arith; terms = omega arith; store = omega arith } in
    let e = r.answer lent (omega arith) fits in
    let x = zero_meets text long_form_mode [] lent (ap (λ (a : Answer). a.number) e) in
    let d = sym e ∙ meets_answer text long_form_mode [] lent x in
    let f = sizes text long_form_mode [] lent x in
    record {
      rows = omega (arith, f.rows, ap (λ (a : Answer). a.row_count) d);
      terms = omega (arith, f.terms, ap (λ (a : Answer). a.term_count) d);
      store = omega (arith, f.store, ap (λ (a : Answer). a.store_count) d);
    }

module _ (doc : Text) (mode : ℕ) (base : Text) (lent : Lent) (x : Meets doc mode base lent) where
  abbrev pub made : Memory
  made = tables (mode_of mode) x.derivation.0 base

  -- 1 and 3 do not apply.
  checked : (length doc ≤ document_limit) × (bad_base base ≡ false)
  checked =
      let (a, (b, (c, d))) = none_passes (first_checks doc mode base lent) x.usable in
      (ltb-false document_limit (length doc) a, c)

  start_stays : Stays (statement [], start_memory base)
  start_stays =
      record { kept = record { terms = tt; rows = tt; graph = inl refl; same = refl }; open_now = tt; declared = record { base = base_absolute base checked.1; namespaces = tt } }

  pub made_kept : Kept for_long_form made.environment made
  made_kept =
      stays_run (mode_of mode) (room_of lent) (length doc) (lexemes doc) (start_state base) made (all_lexed doc x.utf8) start_stays
      (meets_run doc mode base lent (room_of lent) x x.room)

  -- The tables that the document makes, in slices that held these.
  abbrev made_slices : List ℕ → List ℕ → Text → Slices
  made_slices rows terms store = slices_after (success (length doc) made) rows terms store

  made_usable : (rows terms : List ℕ) (store : Text) → usable for_long_form (made_slices rows terms store) ≡ true
  made_usable rows terms store = laid_usable made.terms made.rows _ _ _ for_long_form made_kept.terms made_kept.rows

  -- Few enough for 32-bit numbers.
  few : length made.terms < word_limit
  few = omega (arith, checked.0, (sizes doc mode base lent x).terms)

  made_again : (rows terms : List ℕ) (store text : Text) → text ≡ long_form (made_slices rows terms store) → length text ≤ document_limit → SameStatements doc mode base text
  made_again rows terms store text e l =
      let s = made_slices rows terms store in
      let r = read_again s (made_usable rows terms store) (subst (λ (t : Text). length t ≤ document_limit) e l) in
      record {
        derivation = x.derivation.0;
        tokens = x.derivation.1;
        memory = r.memory;
        answer = λ lent w room. subst (λ (t : Text). read t long_form_mode [] lent ≡ success (length t) r.memory) (sym e) (r.answer lent w room);
        room = subst (λ (t : Text). Fits (room_for (length t)) r.memory) (sym e) (again_fits s r);
        rename = new_label made.terms;
        apart = labels_differ made.terms few;
        same =
            r.same ∙ held_same for_long_form made.terms made.rows _ _ _ made_kept.terms made_kept.rows (one_number doc mode base lent x)
            ∙ ap (λ (qs : List Quad). map (with_blanks (new_label made.terms)) qs) (tables_hold (mode_of mode) x.derivation.0 base);
      }

-- The writer's number for usable tables.
module _ (s : Slices) (out : Text) (u : usable for_long_form s ≡ true) where
  not_eighteen : (write s out).number ≡ 18 → ⊥
  unfolding write
  not_eighteen = never_eighteen 17 (usable for_long_form s) (long_form s) out u (λ z. omega arith)

  zero_written : length (long_form s) ≤ length out → (write s out).number ≡ 0
  unfolding write
  zero_written = fits_zero 17 (usable for_long_form s) (long_form s) out u

module _ (doc : Text) (mode : ℕ) (base : Text) (lent : Lent) (e : (read doc mode base lent).number ≡ 0) (rows terms : List ℕ) (store : Text) where
  abbrev meets : Meets doc mode base lent
  meets = zero_meets doc mode base lent e

  answered : slices_after (read doc mode base lent) rows terms store ≡ made_slices doc mode base lent meets rows terms store
  answered = ap (λ (a : Answer). slices_after a rows terms store) (meets_answer doc mode base lent meets)

  -- Whatever stood in the lent slices, what the reader leaves there when it accepts is usable.
  pub read_usable : usable for_long_form (slices_after (read doc mode base lent) rows terms store) ≡ true
  read_usable = ap (usable for_long_form) answered ∙ made_usable doc mode base lent meets rows terms store

  -- Demand 2's second sentence, over documents.
  pub written_again : RoundTrip doc mode base (slices_after (read doc mode base lent) rows terms store)
  written_again =
      let s = slices_after (read doc mode base lent) rows terms store in
      record {
        usable = read_usable;
        never = λ out n. not_eighteen s out read_usable n;
        written = λ out l. zero_written s out read_usable l;
        again =
            λ out n l.
            let w = written_form s out n in
            made_again doc mode base lent meets rows terms store (take (write s out).position (write s out).output) (w.text ∙ ap long_form answered)
            (subst (λ (t : Text). length t ≤ document_limit) (sym w.text) (subst (λ (k : ℕ). k ≤ document_limit) w.size l));
      }
