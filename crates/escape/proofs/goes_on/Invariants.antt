-- The invariant: t goes on with the numbers just if it does from the place reached on.
use Prim.Native.Nat.{◌≤◌, ◌+◌}
use mathlib.Core.Path.{◌≡◌}
use lib.ListN.{length, drop}
use Rattle.text.specs.Text.{begins}
use Rattle.escape.proofs.goes_on.Given as goal

abbrev pub invariant-loop-i : goal.invariant-loop-i
invariant-loop-i l = (l.i ≤ length l.b) × (begins l.b (drop l.j l.t) ≡ begins (drop l.i l.b) (drop (l.j + l.i) l.t))
