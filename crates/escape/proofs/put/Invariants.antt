-- The invariant: as many numbers as were passed are written.
use Prim.Native.Nat.{◌≤◌}
use mathlib.Core.Path.{◌≡◌}
use lib.ListN.{length, take}
use Rattle.text.specs.Slice.{over_at}
use Rattle.escape.specs.Code.{low}
use Rattle.escape.proofs.put.Given as goal

abbrev pub invariant-loop-i : goal.invariant-loop-i
invariant-loop-i l = (l.i ≤ length l.b) × (l.out ≡ over_at l.j (take l.i (low l.b)) l.initial.out)
