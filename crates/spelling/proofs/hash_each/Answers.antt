use mathlib.Core.Path.{sym, ◌∙◌}
use native.Mathlib.Omega.{arith}
use Rattle.spelling.proofs.Hashes.{hash_more, hash_end}
use Rattle.spelling.proofs.hash_each.Goals as goal

pub loop-b-preserved : goal.loop-b-preserved
loop-b-preserved c = (c.stir-total.ensures.1, c.loop-b.invariant.1 ∙ rw (c.stir-total.ensures.0, c.wide.ensures.0) (hash_more c.args.m c.loop-b.total c.args.s.now c.loop-b.b-index (omega arith)))

pub returns : goal.returns
returns c = (sym (c.loop-b.invariant.1 ∙ hash_end c.args.m c.loop-b.total c.args.s.now c.loop-b.b-index (omega arith)), c.loop-b.invariant.0)
