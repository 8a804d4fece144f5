use Rattle.state.specs.Words.{at_in}
use Prim.Native.Nat.{◌*◌, ◌+◌, ◌-◌}
use lib.ListN.{length}
use Rattle.nesting.proofs.+nesting.Given as goal

abbrev pub decreases-after_object : goal.decreases-after_object
decreases-after_object l = 3 * (length l.doc.now - at_in l.held.now.st) + 1

abbrev pub decreases-close_bracket : goal.decreases-close_bracket
decreases-close_bracket l = 3 * (length l.doc.now - at_in l.held.now.st)

abbrev pub decreases-contents : goal.decreases-contents
decreases-contents l = 3 * (length l.doc.now - at_in l.held.now.st) + 1

abbrev pub decreases-element : goal.decreases-element
decreases-element l = 3 * (length l.doc.now - at_in l.held.now.st) + 1

abbrev pub decreases-predicate : goal.decreases-predicate
decreases-predicate l = 3 * (length l.doc.now - at_in l.held.now.st)

abbrev pub decreases-resume : goal.decreases-resume
decreases-resume l = 3 * (length l.doc.now - at_in l.held.now.st) + 2

abbrev pub decreases-value : goal.decreases-value
decreases-value l = 3 * (length l.doc.now - at_in l.held.now.st)
