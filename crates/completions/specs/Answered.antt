-- The whole answer of a call, with what each lent slice holds after it: in words about the mode, the document and what is lent, and never of what the reader did.
use Rattle.std.specs.Prelude.{◌≡◌, ℕ, length}
use Rattle.std.proofs.Math.Option.{none, some}
use Rattle.text.specs.Text.{Text}
use Rattle.utf8.specs.Utf8.{first_bad}
use Rattle.token.specs.Tokens.{lexemes, place_of}
use Rattle.machine.specs.Call.{Lent, mode_of, first_refusal, first_checks}
use Rattle.machine.specs.Read.{Answer, untouched, refusal, success}
use Rattle.machine.specs.Construction.{tables}
use Rattle.machine.specs.Demand.{Meets}
use Rattle.completions.specs.Refused.{Refused}

pub data Answered (doc : Text) (mode : ℕ) (base : Text) (lent : Lent) (a : Answer) : Type 0 where
  -- "Checks 1 to 4 come in that order"
  unusable : (n : ℕ) → first_refusal (first_checks doc mode base lent) ≡ some n → a ≡ untouched n → Answered doc mode base lent a
  -- "Then 5 over the whole document."
  not_utf8 : (p : ℕ) → first_refusal (first_checks doc mode base lent) ≡ none → first_bad doc ≡ some p → a ≡ refusal 5 p → Answered doc mode base lent a
  -- "Then token by token; at each token 6 to 16 in number order"
  refused : (i n : ℕ) → Refused doc mode base lent i n → a ≡ refusal n (place_of (length doc) (lexemes doc) i) → Answered doc mode base lent a
  -- "accepted, with the 32-bit counts of rows, terms, store bytes"
  accepted : (x : Meets doc mode base lent) → a ≡ success (length doc) (tables (mode_of mode) x.derivation.0 base) → Answered doc mode base lent a
