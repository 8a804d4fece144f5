-- The invariant: the next one from the start on is the next one from i on.
use Rattle.std.proofs.Common.{◌≡◌, ◌≤◌, ◌-◌, ℕ, length}
use mathlib.Core.Bool.{Bool}
use Rattle.text.specs.Runs.{Answers, next_at}
use Rattle.text.proofs.next_where.Given as goal

abbrev pub invariant-loop-i : goal.invariant-loop-i
invariant-loop-i g l = (l.i ≤ length l.s) × ((l.at ≤ l.i) × ((p : ℕ → Bool) → Answers (λ c r. goal.F-post g l.test c r) p → next_at p l.s l.at ≡ next_at p l.s l.i))

abbrev pub decreases-loop-i : goal.decreases-loop-i
decreases-loop-i g l = length l.s - l.i
