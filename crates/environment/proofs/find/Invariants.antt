-- The invariant: the prefix is none of the first i.
use Prim.Native.Nat.{◌-◌, ◌+◌}
use mathlib.Core.Path.{◌≡◌}
use Rattle.environment.specs.Code.{binding, count, listed, place}
use Rattle.environment.proofs.find.Given as goal

abbrev pub invariant-loop-i : goal.invariant-loop-i
invariant-loop-i l = (l.i-end ≡ count l.lens) × (l.i + place l.prefix (listed (binding l.work l.lens) l.i (l.i-end - l.i)) ≡ place l.prefix (listed (binding l.work l.lens) 0 l.i-end))
