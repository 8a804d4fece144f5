use Prim.Native.Nat.{◌-◌}
use lib.ListN.{length}
use Rattle.state.specs.Words.{at_in}
use Rattle.nesting.proofs.OfElements.{ElementsInv}
use Rattle.nesting.proofs.elements.Given as goal

abbrev pub invariant-loop-held : goal.invariant-loop-held
invariant-loop-held l = ElementsInv l.doc l.initial.held l.held l.x l.y l.opened l.last

abbrev pub decreases-loop-held : goal.decreases-loop-held
decreases-loop-held l = length l.doc - at_in l.held.st
