use Rattle.rdf_literals.proofs.Strings.{own_y_node, own_y_cell}
use Rattle.rdf_literals.proofs.own_y.Goals as goal

pub returns-then-st-eq0 : goal.returns-then-st-eq0
returns-then-st-eq0 c = search own_y_node

pub returns : goal.returns
returns c = search own_y_cell
