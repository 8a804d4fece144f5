use mathlib.Core.Path.{ap, sym, ◌∙◌}
use native.Mathlib.Omega.{arith}
use lib.ListN.{length, take}
use Rattle.text.proofs.Over.{over_at_length, over_at_start, over_at_next, over_at_enough, over_at_whole}
use Rattle.escape.specs.Code.{low}
use Rattle.escape.proofs.Walk.{low_at, low_length}
use Rattle.escape.proofs.put.Goals as goal

pub loop-i-init : goal.loop-i-init
loop-i-init c = (omega arith, over_at_start c.args.j (low c.args.b.now) c.args.out.now)

pub shape_of-out-then-out-j : goal.shape_of-out-then-out-j
shape_of-out-then-out-j c = ap length c.loop-i.invariant.1 ∙ over_at_length c.args.j _ c.args.out.now

pub returns-then-out-j : goal.returns-then-out-j
returns-then-out-j c = c.loop-i.invariant.1 ∙ over_at_enough c.args.j (low c.args.b.now) c.args.out.now c.loop-i.i (omega (arith, ap length c.loop-i.invariant.1, over_at_length c.args.j (take c.loop-i.i (low c.args.b.now)) c.args.out.now))

pub loop-i-preserved : goal.loop-i-preserved
loop-i-preserved c = (omega arith, over_at_next c.args.j (low c.args.b.now) c.args.out.now c.loop-i.out c.loop-i.i _ (omega (arith, low_length c.args.b.now)) (sym (low_at c.args.b.now c.loop-i.i)) c.loop-i.invariant.1)

pub shape_of-out : goal.shape_of-out
shape_of-out c = ap length c.loop-i.invariant.1 ∙ over_at_length c.args.j _ c.args.out.now

pub returns : goal.returns
returns c = c.loop-i.invariant.1 ∙ over_at_whole c.args.j (low c.args.b.now) c.args.out.now c.loop-i.i (omega (arith, low_length c.args.b.now))
