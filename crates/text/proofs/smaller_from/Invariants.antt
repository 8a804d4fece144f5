-- The invariant: the first comes before the second just if it does from the place reached on.
use mathlib.Core.Path.{◌≡◌}
use Prim.Native.Nat.{◌≤◌, ◌-◌}
use lib.ListN.{length, drop}
use Rattle.text.specs.Order.{smaller}
use Rattle.text.proofs.smaller_from.Given as goal

abbrev pub invariant-loop-i : goal.invariant-loop-i
invariant-loop-i l = (l.i ≤ length l.s) × (smaller (drop l.at l.s) (drop l.at l.t) ≡ smaller (drop l.i l.s) (drop l.i l.t))

abbrev pub decreases-loop-i : goal.decreases-loop-i
decreases-loop-i l = length l.s - l.i
