use Rattle.room.specs.Counting.{is_supplied}
use Rattle.room.proofs.Tests.{first_iri, first_type, first_none}
use Rattle.room.proofs.asks_first.Goals as goal

pub returns-then-kind-eq-IRI : goal.returns-then-kind-eq-IRI
unfolding is_supplied
returns-then-kind-eq-IRI c = first_iri c.args.node c.args.work.now c.args.back.now _ c.if-kind-eq-IRI.true c.is_named.ensures

pub returns-then-kind-eq-LITERAL : goal.returns-then-kind-eq-LITERAL
unfolding is_supplied
returns-then-kind-eq-LITERAL c = first_type c.args.node c.args.work.now c.args.back.now _ c.if-kind-eq-LITERAL.true c.is_named-then-kind-eq-LITERAL.ensures

pub returns : goal.returns
returns c = search first_none
