use Prim.Native.Nat.{◌-◌}
use lib.ListN.{length}
use Rattle.state.specs.Words.{at_in}
use Rattle.nesting.proofs.Skipping.{SkipInv}
use Rattle.nesting.proofs.skip_semicolons.Given as goal

abbrev pub invariant-loop-st : goal.invariant-loop-st
invariant-loop-st l = SkipInv l.doc l.initial.st l.st

abbrev pub decreases-loop-st : goal.decreases-loop-st
decreases-loop-st l = length l.doc - at_in l.st
