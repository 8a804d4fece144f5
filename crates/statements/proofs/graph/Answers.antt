use Rattle.token.specs.Kind.{kind_code, open_brace}
use Rattle.nesting.proofs.Aiming.{unexpected_call}
use Rattle.statements.proofs.OfMarks.{mark_call, open_mark}
use Rattle.statements.proofs.OfGraphs.{graph_none, graph_open, graph_block}
use Rattle.statements.proofs.graph.Goals as goal

pub unexpected-requires : goal.unexpected-requires
unexpected-requires c = unexpected_call _ _ c.requires.0

pub returns-then-held-ne-OPEN_BRACE : goal.returns-then-held-ne-OPEN_BRACE
returns-then-held-ne-OPEN_BRACE c = graph_none _ _ _ _ _ _ _ c.requires.0 _ c.if-held-ne-OPEN_BRACE.true c.unexpected.ensures

pub enter-requires : goal.enter-requires
enter-requires c = mark_call _ _ (kind_code open_brace) open_mark c.requires.0 c.if-held-ne-OPEN_BRACE.false

pub block-requires : goal.block-requires
block-requires c = graph_open _ _ _ _ _ _ _ c.requires.0 _ c.if-held-ne-OPEN_BRACE.false c.requires.1 c.enter.ensures

pub returns : goal.returns
returns c = graph_block _ _ _ _ _ _ _ c.requires.0 _ c.if-held-ne-OPEN_BRACE.false c.requires.1 c.enter.ensures _ _ c.block.ensures
