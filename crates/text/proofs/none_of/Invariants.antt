-- The invariant: none of the bytes before k passes.
use Rattle.std.proofs.Common.{◌≡◌, ℕ}
use mathlib.Core.Bool.{Bool}
use Rattle.text.specs.Runs.{Answers, free}
use Rattle.text.proofs.none_of.Given as goal

abbrev pub invariant-loop-k : goal.invariant-loop-k
invariant-loop-k g l = (p : ℕ → Bool) → Answers (λ c r. goal.F-post g l.test c r) p → l.none ≡ free p l.s l.at l.k
