use mathlib.Core.Path.{sym, ◌∙◌}
use Rattle.statements.proofs.OfDocuments.{one_trig, one_graph, plain_trig, plain_turtle}
use Rattle.statements.proofs.one_statement.Goals as goal

pub directive-requires : goal.directive-requires
directive-requires c = (c.requires.0.0, sym c.is_directive.ensures ∙ c.if-is_directive.true)

pub returns-then-is_directive : goal.returns-then-is_directive
returns-then-is_directive c = let d = c.directive.ensures in record { turns = d.turns _; later = d.later }

pub returns-then-kind-eq-OPEN_BRACE : goal.returns-then-kind-eq-OPEN_BRACE
returns-then-kind-eq-OPEN_BRACE c = one_graph _ _ _ _ _ c.if-mode-eq0.true c.if-kind-eq-OPEN_BRACE.true c.graph.ensures

pub returns-then-kind-eq-GRAPH : goal.returns-then-kind-eq-GRAPH
returns-then-kind-eq-GRAPH c = one_trig _ _ _ _ _ c.if-mode-eq0.true c.named_graph.ensures

pub triples-requires : goal.triples-requires
triples-requires c = (c.requires.0, plain_trig _ _ _ c.is_directive.ensures c.if-is_directive.false c.if-kind-eq-OPEN_BRACE.false c.if-kind-eq-GRAPH.false c.requires.1)

pub triples-requires-2 : goal.triples-requires-2
triples-requires-2 c = (c.requires.0, plain_turtle _ _ _ c.is_directive.ensures c.if-is_directive.false c.if-mode-eq0.false c.requires.1)
