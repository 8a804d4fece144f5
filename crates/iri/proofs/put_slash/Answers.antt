use native.Mathlib.Omega.{arith}
use Rattle.iri.proofs.Puts.{one_slash, no_slash}
use Rattle.iri.proofs.put_slash.Goals as goal

pub returns-then-n-eq1 : goal.returns-then-n-eq1
returns-then-n-eq1 c = one_slash c.args.out.now c.args.at c.args.n c.if-n-eq1.true (omega arith)

pub returns-else-n-eq1 : goal.returns-else-n-eq1
returns-else-n-eq1 c = no_slash c.args.out.now c.args.at c.args.n (omega arith) c.if-n-eq1.false
