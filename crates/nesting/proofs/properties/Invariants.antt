use Prim.Native.Nat.{◌-◌}
use lib.ListN.{length}
use Rattle.state.specs.Words.{at_in}
use Rattle.nesting.proofs.OfProperties.{PropertiesInv}
use Rattle.nesting.proofs.properties.Given as goal

abbrev pub invariant-loop-p : goal.invariant-loop-p
invariant-loop-p l = PropertiesInv l.doc l.initial.held l.held l.s

abbrev pub decreases-loop-p : goal.decreases-loop-p
decreases-loop-p l = length l.doc - at_in l.held.st
