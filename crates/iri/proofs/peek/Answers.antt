use native.Mathlib.Omega.{arith}
use Rattle.iri.proofs.Places.{window_get, window_past}
use Rattle.iri.proofs.peek.Goals as goal

pub returns-then-k-end : goal.returns-then-k-end
returns-then-k-end c = window_get c.args.b.now c.args.at c.args.end c.args.k (omega arith)

pub returns : goal.returns
returns c = window_past c.args.b.now c.args.at c.args.end c.args.k (omega arith) (omega arith)
