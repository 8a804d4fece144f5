use Prim.Native.Nat.{◌-◌}
use lib.ListN.{length}
use Rattle.state.specs.Words.{at_in}
use Rattle.statements.proofs.OfBlocks.{BlockInv}
use Rattle.statements.proofs.block.Given as goal

abbrev pub invariant-loop-held : goal.invariant-loop-held
invariant-loop-held l = BlockInv l.doc l.initial.held l.held

abbrev pub decreases-loop-held : goal.decreases-loop-held
decreases-loop-held l = length l.doc - at_in l.held.st
