use Rattle.nesting.proofs.OfLeaves.{either_first, either_second}
use Rattle.nesting.proofs.is_leaf.Goals as goal

pub returns-then-is_term : goal.returns-then-is_term
returns-then-is_term c = search either_first

pub returns : goal.returns
returns c = search either_second
