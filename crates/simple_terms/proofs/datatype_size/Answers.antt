use Rattle.simple_terms.proofs.Writing.{sized_10, sized_other}
use Rattle.simple_terms.proofs.datatype_size.Goals as goal

pub returns-then-kind-eq-DOUBLE : goal.returns-then-kind-eq-DOUBLE
returns-then-kind-eq-DOUBLE c = sized_10 c.args.kind c.if-kind-eq-DOUBLE.true

pub returns : goal.returns
returns c = sized_other c.args.kind c.if-kind-eq-DOUBLE.false
