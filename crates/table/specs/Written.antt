-- What a writer answers: its number, the length written, and what the output then holds.
use Rattle.std.specs.Prelude.{◌++◌, Bool, not, ℕ, ltb, length, drop, Result, Ok, Err}
use Rattle.text.specs.Text.{Text, cond}
use Rattle.limits.specs.declared.Refusal.{Refusal}
use Rattle.limits.specs.Refusal.{number}

pub record Written : Type 0 where
  pub number : ℕ
  pub position : ℕ
  pub output : Text

-- "The writer returns 18 first .. Then 17. Both leave the output buffer unchanged. On 0 its position is the length written, and the bytes past it stay."
-- Later writers "do as the long form's": what varies is the text, and the number where the output is too small for it.
abbrev pub written : ℕ → Bool → Text → Text → Written
written full usable form out =
    let fits : Written = record { number = 0; position = length form; output = form ++ drop (length form) out } in
    let small : Written = record { number = full; position = 0; output = out } in
    let bad : Written = record { number = 18; position = 0; output = out } in
    cond (not usable) bad (cond (ltb (length out) (length form)) small fits)

-- What a call answers, with what the output then holds.
abbrev pub answer : Result ℕ Refusal → Text → Written
answer (Ok n) out = record { number = 0; position = n; output = out }
answer (Err r) out = record { number = number r; position = 0; output = out }
