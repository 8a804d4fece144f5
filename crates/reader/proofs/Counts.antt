-- "the 32-bit counts of rows, terms, store bytes": every count fits, since a document within the limit needs no more.
use mathlib.Core.Path.{◌≡◌, refl, sym, subst}
use mathlib.Core.Option.{Option, none, some}
use Prim.Native.Nat.{ℕ, ◌≤◌}
use native.Mathlib.Omega.{arith}
use borrow.Author.Tests.{ltb-false}
use lib.Dec.{ltb}
use lib.ListN.{length}
use Rattle.text.specs.Text.{Text}
use Rattle.text.proofs.Compare.{by}
use Rattle.limits.specs.Limits.{document_limit}
use Rattle.token.specs.Tokens.{lexemes}
use Rattle.utf8.specs.Utf8.{first_bad}
use Rattle.table.proofs.Numbers.{not_none}
use Rattle.machine.specs.Step.{Outcome, accepted, refused, run, first_refusal}
use Rattle.machine.specs.Read.{Lent, Answer, reported, room_of, mode_of, start_state, first_checks, read, read_checked, read_utf8, read_tokens}
use Rattle.machine.proofs.Demands.{zero_meets, meets_answer}
use Rattle.machine.proofs.Sizes.{rows_at_most, terms_at_most, store_at_most}
use Rattle.reader.specs.Reader.{LentSlices, lengths, Contract, Reading}

pub record Small (a : Answer) : Type 0 where
  pub rows : a.row_count ≤ 4294967295
  pub terms : a.term_count ≤ 4294967295
  pub store : a.store_count ≤ 4294967295

module _ (doc : Text) (mode : ℕ) (base : Text) (lent : Lent) where
  within_limit : first_refusal (first_checks doc mode base lent) ≡ none → length doc ≤ document_limit
  within_limit e = by (ltb document_limit (length doc)) (λ h. not_none (sym (rw h at e))) (λ h. ltb-false document_limit (length doc) h)

  accepted_small : (read doc mode base lent).number ≡ 0 → Small (read doc mode base lent)
  accepted_small e =
      let x = zero_meets doc mode base lent e in
      let n = within_limit x.usable in
      subst Small (sym (meets_answer doc mode base lent x))
      (record {
        rows = omega (arith, rows_at_most doc mode base lent x);
        terms = omega (arith, terms_at_most doc mode base lent x);
        store = omega (arith, store_at_most doc mode base lent x);
      })

  none_small : (a : Answer) → a.row_count ≡ 0 → a.term_count ≡ 0 → a.store_count ≡ 0 → Small a
  none_small a p q r = record { rows = omega arith; terms = omega arith; store = omega arith }

  pub small : Small (read doc mode base lent)
  unfolding read read_checked read_utf8 read_tokens
  small = checked (first_refusal (first_checks doc mode base lent)) accepted_small
    where
      ran : (o : Outcome) → ((reported (length doc) o).number ≡ 0 → Small (reported (length doc) o)) → Small (reported (length doc) o)
      ran (accepted m) f = f refl
      ran (refused c p) f = none_small (reported (length doc) (refused c p)) refl refl refl

      decoded : (o : Option ℕ) → ((read_utf8 o doc mode base lent).number ≡ 0 → Small (read_utf8 o doc mode base lent)) → Small (read_utf8 o doc mode base lent)
      decoded (some q) f = none_small (read_utf8 (some q) doc mode base lent) refl refl refl
      decoded none f = ran (run (mode_of mode) (room_of lent) (length doc) (lexemes doc) (start_state base)) f

      checked : (o : Option ℕ) → ((read_checked o doc mode base lent).number ≡ 0 → Small (read_checked o doc mode base lent)) → Small (read_checked o doc mode base lent)
      checked (some c) f = none_small (read_checked (some c) doc mode base lent) refl refl refl
      checked none f = decoded (first_bad doc) f

-- So do those that the reader answers.
module _ (doc : Text) (mode : ℕ) (base : Text) (old new : LentSlices) (r : Reading) (g : Contract doc mode base old new r) where
  pub rows_small : r.rows ≤ 4294967295
  rows_small = subst (λ n. n ≤ 4294967295) (sym g.row_count) (small doc mode base (lengths old)).rows

  pub terms_small : r.terms ≤ 4294967295
  terms_small = subst (λ n. n ≤ 4294967295) (sym g.term_count) (small doc mode base (lengths old)).terms

  pub store_small : r.store ≤ 4294967295
  store_small = subst (λ n. n ≤ 4294967295) (sym g.store_count) (small doc mode base (lengths old)).store
