use native.Mathlib.Omega.{arith}
use Rattle.chains.proofs.Chains.{heads_wide, heads_short, heads_more}
use Rattle.chains.proofs.head_count.Goals as goal

pub returns-then-n-gt4294967295 : goal.returns-then-n-gt4294967295
returns-then-n-gt4294967295 c = heads_wide c.args.size c.args.n (omega arith)

pub returns-then-size-n : goal.returns-then-size-n
returns-then-size-n c = heads_short c.args.size c.args.n (omega arith)

pub returns : goal.returns
returns c = heads_more c.args.size c.args.n (omega arith)
