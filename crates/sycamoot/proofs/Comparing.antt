-- The comparison's answer in types of fixed width.
use mathlib.Core.Path.{◌≡◌, ap}
use mathlib.Core.List.{List}
use Prim.Native.Nat.{ℕ, ◌≤◌}
use native.Mathlib.Omega.{arith}
use Rattle.std.proofs.Common.{Result, Ok, Err, IfOk}
use Rattle.limits.specs.declared.Refusal.{Refusal}
use Rattle.table.specs.Layout.{Slices}
use Rattle.comparison.specs.Comparison.{Comparison, compare}
use Rattle.comparison.specs.declared.Counts.{Counts}
use Rattle.comparison.specs.Answer.{answer}
use Rattle.comparison.proofs.Answers.{left_low, right_low}

module _ (l r : Slices) (p x y ls rs : List ℕ) where
  -- There are no more than the rows.
  pub counts_fit : (a : Result Counts Refusal) → answer a ls rs ≡ compare l r p x y → l.row_count ≤ 4294967295 → r.row_count ≤ 4294967295 → IfOk a (λ c. (c.left ≤ 4294967295) × (c.right ≤ 4294967295))
  counts_fit (Ok c) e h k =
      (omega (arith, ap (λ (v : Comparison). v.left_count) e, left_low l r p x y), omega (arith, ap (λ (v : Comparison). v.right_count) e, right_low l r p x y))
  counts_fit (Err z) e h k = tt
