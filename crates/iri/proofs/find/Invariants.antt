-- The invariant: no byte from start up to i ends the part.
use Prim.Native.Nat.{◌+◌}
use mathlib.Core.Path.{◌≡◌}
use lib.ListN.{drop}
use Rattle.iri.specs.Code.{before, stop}
use Rattle.iri.proofs.find.Given as goal

abbrev pub invariant-loop-i : goal.invariant-loop-i
invariant-loop-i l = l.i + before (stop l.part) (drop l.i l.s) ≡ l.start + before (stop l.part) (drop l.start l.s)
