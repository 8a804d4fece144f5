use Prim.Native.Nat.{◌-◌}
use lib.ListN.{length}
use Rattle.state.specs.Words.{at_in}
use Rattle.machine.specs.Read.{mode_of}
use Rattle.statements.proofs.OfDocuments.{SomeInv}
use Rattle.statements.proofs.statements.Given as goal

abbrev pub invariant-loop-held : goal.invariant-loop-held
invariant-loop-held l = SomeInv (mode_of l.mode) l.doc l.initial.held l.held

abbrev pub decreases-loop-held : goal.decreases-loop-held
decreases-loop-held l = length l.doc - at_in l.held.st
