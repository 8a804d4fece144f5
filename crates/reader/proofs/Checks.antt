-- The answer by the checks 1 to 4, and by the first place that is not UTF-8.
use mathlib.Core.Path.{◌≡◌, refl, sym, ap, subst, ◌∙◌}
use mathlib.Core.Bool.{Bool, true, false, not}
use mathlib.Core.Option.{Option, none, some}
use Prim.Native.Nat.{ℕ, ◌-◌, ◌≤◌}
use borrow.Author.Tests.{ltb-false, leb-true}
use lib.Dec.{leb}
use lib.ListN.{length, take, drop}
use Rattle.text.specs.Text.{Text}
use Rattle.text.proofs.Compare.{contrary}
use Rattle.limits.specs.Limits.{document_limit, work_size}
use Rattle.utf8.specs.Utf8.{first_bad}
use Rattle.table.specs.Tables.{or_zero}
use Rattle.machine.specs.Call.{first_refusal}
use Rattle.machine.proofs.Firsts.{Passes, passes_none, zero_passes, number_some}
use Rattle.machine.specs.Read.{Answer, untouched, first_checks, read_tokens, read_utf8, read_checked, read}
use Rattle.checks.specs.Checks.{lent_work}
use Rattle.environment.proofs.Directives.{whole}
use Rattle.reader.specs.Reader.{Reading, LentSlices, lengths, Gives}
use Rattle.reader.specs.Stages.{Checked, Cleared}

abbrev answer : ℕ → ℕ → Reading
answer n p = record { number = n; position = p; rows = 0; terms = 0; store = 0 }

not_false : (b : Bool) → not b ≡ false → b ≡ true
not_false true e = refl
not_false false e = contrary e

module _ (doc base : Text) (mode n : ℕ) (s : LentSlices) (e : n ≡ or_zero (first_refusal (first_checks doc mode base (lent_work (length (take (length s.work - 0) (drop 0 s.work))))))) where
  seen : n ≡ or_zero (first_refusal (first_checks doc mode base (lengths s)))
  seen = rw (whole s.work) at e

  pub check_refuses : (n ≡ 0 → ⊥) → Gives (read doc mode base (lengths s)) s s (answer n 0)
  unfolding read read_checked
  check_refuses z =
      let is : read doc mode base (lengths s) ≡ untouched n = ap (λ (o : Option ℕ). read_checked o doc mode base (lengths s)) (number_some (first_checks doc mode base (lengths s)) (λ y. z (seen ∙ y)) ∙ ap some (sym seen)) in
      subst (λ (a : Answer). Gives a s s (answer n 0)) (sym is)
      (record { number = refl; position = refl; row_count = refl; term_count = refl; store_count = refl; work = refl; rows = refl; terms = refl; store = refl })

  module _ (z : n ≡ 0) where
    tests : Passes (first_checks doc mode base (lengths s))
    tests = zero_passes (first_checks doc mode base (lengths s)) refl (sym seen ∙ z)

    pub checked : first_bad doc ≡ none → Checked doc base s.work × (mode ≤ 1)
    checked v = (
      record {
        size = ltb-false document_limit (length doc) tests.0;
        good_base = tests.1.1.0;
        room = ltb-false (length s.work) work_size tests.1.1.1.0;
        utf8 = v;
      },
      leb-true mode 1 (not_false (leb mode 1) tests.1.0),
    )

    past_checks : (o : Option ℕ) → first_bad doc ≡ o → read doc mode base (lengths s) ≡ read_utf8 o doc mode base (lengths s)
    unfolding read read_checked
    past_checks o v =
        ap (λ (q : Option ℕ). read_checked q doc mode base (lengths s)) (passes_none (first_checks doc mode base (lengths s)) tests)
        ∙ ap (λ (q : Option ℕ). read_utf8 q doc mode base (lengths s)) v

    pub valid : first_bad doc ≡ none → (s' : LentSlices) (r : Reading) → Gives (read_tokens doc mode base (lengths s)) s s' r → Gives (read doc mode base (lengths s)) s s' r
    unfolding read_utf8
    valid v s' r g = subst (λ (a : Answer). Gives a s s' r) (sym (past_checks none v)) g

    pub not_utf8 : (p : ℕ) → first_bad doc ≡ some p → (s' : LentSlices) → Cleared s s' → Gives (read doc mode base (lengths s)) s s' (answer 5 p)
    unfolding read_utf8
    not_utf8 p v s' C =
        subst (λ (a : Answer). Gives a s s' (answer 5 p)) (sym (past_checks (some p) v))
        (record { number = refl; position = refl; row_count = refl; term_count = refl; store_count = refl; work = C.work; rows = C.rows; terms = C.terms; store = C.store })
