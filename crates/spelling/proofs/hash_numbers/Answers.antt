use mathlib.Core.Path.{sym, ◌∙◌}
use native.Mathlib.Omega.{arith}
use Rattle.spelling.proofs.Hashes.{hash_more, hash_end}
use Rattle.spelling.proofs.hash_numbers.Goals as goal

pub loop-n-preserved : goal.loop-n-preserved
loop-n-preserved c = (c.stir-total.ensures.1, c.loop-n.invariant.1 ∙ rw c.stir-total.ensures.0 (hash_more c.args.m c.loop-n.total c.args.s.now c.loop-n.n-index (omega arith)))

pub returns : goal.returns
returns c = (sym (c.loop-n.invariant.1 ∙ hash_end c.args.m c.loop-n.total c.args.s.now c.loop-n.n-index (omega arith)), c.loop-n.invariant.0)
