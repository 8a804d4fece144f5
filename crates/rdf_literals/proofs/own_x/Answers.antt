use Rattle.rdf_literals.proofs.Strings.{own_x_node, own_x_cell}
use Rattle.rdf_literals.proofs.own_x.Goals as goal

pub returns-then-st-eq0 : goal.returns-then-st-eq0
returns-then-st-eq0 c = search own_x_node

pub returns : goal.returns
returns c = search own_x_cell
