use Rattle.simple_terms.proofs.Writing.{named_8, named_9, named_10, named_other}
use Rattle.simple_terms.proofs.datatype.Goals as goal

pub returns-then-kind-eq-INTEGER : goal.returns-then-kind-eq-INTEGER
returns-then-kind-eq-INTEGER c = named_8 c.args.kind c.if-kind-eq-INTEGER.true

pub returns-then-kind-eq-DECIMAL : goal.returns-then-kind-eq-DECIMAL
returns-then-kind-eq-DECIMAL c = named_9 c.args.kind c.if-kind-eq-DECIMAL.true

pub returns-then-kind-eq-DOUBLE : goal.returns-then-kind-eq-DOUBLE
returns-then-kind-eq-DOUBLE c = named_10 c.args.kind c.if-kind-eq-DOUBLE.true

pub returns : goal.returns
returns c = named_other c.args.kind c.if-kind-eq-INTEGER.false c.if-kind-eq-DECIMAL.false c.if-kind-eq-DOUBLE.false
