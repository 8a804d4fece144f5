use mathlib.Core.Path.{refl}
use Rattle.limits.proofs.Errors.{handed_on, numbered}
use Rattle.token.specs.Kind.{kind_code, dot}
use Rattle.nesting.proofs.Aiming.{unexpected_call}
use Rattle.statements.proofs.OfMarks.{mark_call, dot_mark}
use Rattle.statements.proofs.OfTriples.{triples_stop, triples_subject, triples_graph, triples_behind_stop, triples_ready, triples_unexpected, triples_dot}
use Rattle.statements.proofs.triples.Goals as goal

pub returns-in_err-subject : goal.returns-in_err-subject
returns-in_err-subject c = rw (handed_on _ _ c.from_residual.ensures) (triples_stop _ _ _ c.requires.1 _ _ c.in_err-subject.ensures (numbered _))

pub graph-requires : goal.graph-requires
graph-requires c = (triples_subject _ _ _ c.requires.1 _ _ c.in_ok-subject.ensures refl).0

pub returns-then-is_graph_label : goal.returns-then-is_graph_label
returns-then-is_graph_label c = triples_graph _ _ _ c.requires.1 _ _ c.in_ok-subject.ensures refl _ _ _ c.is_graph_label.ensures c.if-is_graph_label.true c.graph.ensures

pub predicates-requires : goal.predicates-requires
predicates-requires c = triples_subject _ _ _ c.requires.1 _ _ c.in_ok-subject.ensures refl

pub returns-in_err-predicates : goal.returns-in_err-predicates
returns-in_err-predicates c = rw (handed_on _ _ c.from_residual-in_err-predicates.ensures) (triples_behind_stop _ _ _ c.requires.1 _ _ c.in_ok-subject.ensures refl _ c.is_graph_label.ensures c.if-is_graph_label.false _ _ c.in_err-predicates.ensures (numbered _))

pub unexpected-requires : goal.unexpected-requires
unexpected-requires c = unexpected_call _ _ (triples_ready _ _ _ c.requires.1 _ _ c.in_ok-subject.ensures refl _ c.is_graph_label.ensures c.if-is_graph_label.false _ _ c.in_ok-predicates.ensures refl)

pub returns-then-held-ne-DOT : goal.returns-then-held-ne-DOT
returns-then-held-ne-DOT c = triples_unexpected _ _ _ c.requires.1 _ _ c.in_ok-subject.ensures refl _ c.is_graph_label.ensures c.if-is_graph_label.false _ _ c.in_ok-predicates.ensures refl c.if-held-ne-DOT.true _ c.unexpected.ensures

pub pass-requires : goal.pass-requires
pass-requires c = mark_call _ _ (kind_code dot) dot_mark (triples_ready _ _ _ c.requires.1 _ _ c.in_ok-subject.ensures refl _ c.is_graph_label.ensures c.if-is_graph_label.false _ _ c.in_ok-predicates.ensures refl) c.if-held-ne-DOT.false

pub returns : goal.returns
returns c = triples_dot _ _ _ c.requires.1 _ _ c.in_ok-subject.ensures refl _ c.is_graph_label.ensures c.if-is_graph_label.false _ _ _ _ _ _ _ c.in_ok-predicates.ensures refl c.if-held-ne-DOT.false c.pass.ensures
