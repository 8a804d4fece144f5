use Rattle.nesting.proofs.Entering.{entered_node, entered_element}
use Rattle.nesting.proofs.enter_list.Goals as goal

pub returns-then-st-eq0 : goal.returns-then-st-eq0
returns-then-st-eq0 c = search entered_node

pub returns : goal.returns
returns c = search entered_element
