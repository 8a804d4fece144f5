use Rattle.nesting.proofs.Levels.{mark_call}
use Rattle.nesting.proofs.OfNodes.{node_call, node_alone}
use Rattle.nesting.proofs.node.Goals as goal

pub mark-requires : goal.mark-requires
mark-requires c = mark_call _ _ c.requires.0.0

pub value-requires : goal.value-requires
value-requires c = node_call _ _ _ _ _ _ _ c.requires.0.0 c.mark.ensures c.requires.0.1 c.requires.1

pub returns-in-Read : goal.returns-in-Read
returns-in-Read c = node_alone _ _ _ _ _ _ _ c.requires.0.0 c.mark.ensures c.requires.1 _ _ c.in-Read.ensures

pub returns-in-Refused : goal.returns-in-Refused
returns-in-Refused c = node_alone _ _ _ _ _ _ _ c.requires.0.0 c.mark.ensures c.requires.1 _ _ c.in-Refused.ensures
