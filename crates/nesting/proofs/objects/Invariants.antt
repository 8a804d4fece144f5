use Prim.Native.Nat.{◌-◌}
use lib.ListN.{length}
use Rattle.state.specs.Words.{at_in}
use Rattle.nesting.proofs.OfObjects.{ObjectsInv}
use Rattle.nesting.proofs.objects.Given as goal

abbrev pub invariant-loop-held : goal.invariant-loop-held
invariant-loop-held l = ObjectsInv l.doc l.initial.held l.held l.s l.p

abbrev pub decreases-loop-held : goal.decreases-loop-held
decreases-loop-held l = length l.doc - at_in l.held.st
