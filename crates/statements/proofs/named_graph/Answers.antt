use mathlib.Core.Path.{refl}
use Rattle.limits.proofs.Errors.{handed_on, numbered}
use Rattle.token.specs.Kind.{kind_code, GRAPH}
use Rattle.nesting.proofs.Aiming.{unexpected_call}
use Rattle.statements.proofs.OfMarks.{mark_call, graph_mark}
use Rattle.statements.proofs.OfNames.{name_ready, name_none, name_call, name_stop, name_graph_call, name_graph, bracket_call, bracket_stop, bracket_ready, bracket_none, bracket_leave, bracket_graph_call, bracket_graph}
use Rattle.statements.proofs.named_graph.Goals as goal

pub pass-requires : goal.pass-requires
pass-requires c = mark_call _ _ (kind_code GRAPH) graph_mark c.requires.0 c.requires.1

pub leaf-requires : goal.leaf-requires
leaf-requires c = let h = name_call _ _ _ _ _ _ _ _ c.requires.0 c.requires.1 c.pass.ensures c.aim.ensures _ c.is_label.ensures c.if-is_label.true in (h.0, λ _. h.1)

pub returns-in_err-leaf : goal.returns-in_err-leaf
returns-in_err-leaf c = rw (handed_on _ _ c.from_residual.ensures) (name_stop _ _ _ _ _ _ _ _ c.requires.0 c.requires.1 c.pass.ensures c.aim.ensures _ c.is_label.ensures c.if-is_label.true _ _ c.in_err-leaf.ensures.puts (numbered _))

pub graph-requires : goal.graph-requires
graph-requires c = name_graph_call _ _ _ _ _ _ _ _ c.requires.0 c.requires.1 c.pass.ensures c.aim.ensures _ c.is_label.ensures c.if-is_label.true _ _ c.in_ok-leaf.ensures.puts refl

pub returns-then-is_label : goal.returns-then-is_label
returns-then-is_label c = name_graph _ _ _ _ _ _ _ _ c.requires.0 c.requires.1 c.pass.ensures c.aim.ensures _ c.is_label.ensures c.if-is_label.true _ _ c.in_ok-leaf.ensures.puts refl _ _ c.graph.ensures

pub unexpected-requires : goal.unexpected-requires
unexpected-requires c = unexpected_call _ _ (name_ready _ _ _ _ _ _ _ _ c.requires.0 c.requires.1 c.pass.ensures c.aim.ensures)

pub returns-then-held-ne-OPEN_BRACKET : goal.returns-then-held-ne-OPEN_BRACKET
returns-then-held-ne-OPEN_BRACKET c = name_none _ _ _ _ _ _ _ _ c.requires.0 c.requires.1 c.pass.ensures c.aim.ensures _ c.is_label.ensures c.if-is_label.false c.if-held-ne-OPEN_BRACKET.true _ c.unexpected.ensures

pub put_bracket-requires : goal.put_bracket-requires
put_bracket-requires c = bracket_call _ _ _ _ _ _ _ _ c.requires.0 c.requires.1 c.pass.ensures c.aim.ensures c.if-held-ne-OPEN_BRACKET.false

pub returns-in_err-put_bracket : goal.returns-in_err-put_bracket
returns-in_err-put_bracket c = rw (handed_on _ _ c.from_residual-in_err-put_bracket.ensures) (bracket_stop _ _ _ _ _ _ _ _ c.requires.0 c.requires.1 c.pass.ensures c.aim.ensures c.if-held-ne-OPEN_BRACKET.false _ _ c.in_err-put_bracket.ensures (numbered _))

pub unexpected-requires-then-held-ne-CLOSE_BRACKET : goal.unexpected-requires-then-held-ne-CLOSE_BRACKET
unexpected-requires-then-held-ne-CLOSE_BRACKET c = unexpected_call _ _ (bracket_ready _ _ _ _ _ _ _ _ c.requires.0 c.requires.1 c.pass.ensures c.aim.ensures c.if-held-ne-OPEN_BRACKET.false _ _ _ _ _ _ c.in_ok-put_bracket.ensures refl)

pub returns-then-held-ne-CLOSE_BRACKET : goal.returns-then-held-ne-CLOSE_BRACKET
returns-then-held-ne-CLOSE_BRACKET c = bracket_none _ _ _ _ _ _ _ _ c.requires.0 c.requires.1 c.pass.ensures c.aim.ensures c.if-held-ne-OPEN_BRACKET.false _ _ _ _ _ _ c.in_ok-put_bracket.ensures refl c.if-held-ne-CLOSE_BRACKET.true _ c.unexpected-then-held-ne-CLOSE_BRACKET.ensures

pub leave-requires : goal.leave-requires
leave-requires c = bracket_leave _ _ _ _ _ _ _ _ c.requires.0 c.requires.1 c.pass.ensures c.aim.ensures c.if-held-ne-OPEN_BRACKET.false _ _ _ _ _ _ c.in_ok-put_bracket.ensures refl c.if-held-ne-CLOSE_BRACKET.false

pub graph-requires-2 : goal.graph-requires-2
graph-requires-2 c = bracket_graph_call _ _ _ _ _ _ _ _ c.requires.0 c.requires.1 c.pass.ensures c.aim.ensures c.if-held-ne-OPEN_BRACKET.false _ _ _ _ _ _ c.in_ok-put_bracket.ensures refl _ c.if-held-ne-CLOSE_BRACKET.false c.leave.ensures

pub returns : goal.returns
returns c = bracket_graph _ _ _ _ _ _ _ _ c.requires.0 c.requires.1 c.pass.ensures c.aim.ensures c.if-held-ne-OPEN_BRACKET.false _ _ _ _ _ _ c.in_ok-put_bracket.ensures refl _ c.if-held-ne-CLOSE_BRACKET.false c.leave.ensures _ _ c.graph-2.ensures
