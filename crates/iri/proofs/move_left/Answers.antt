use mathlib.Core.Path.{ap, ◌∙◌}
use native.Mathlib.Omega.{arith}
use lib.ListN.{length, take, drop, length-take}
use Rattle.text.proofs.Over.{over_at_length, over_at_start, over_at_whole}
use Rattle.iri.proofs.Puts.{moves_on}
use Rattle.iri.proofs.move_left.Goals as goal

pub loop-i-init : goal.loop-i-init
loop-i-init c = over_at_start c.args.to (take c.args.n (drop c.args.start c.args.out.now)) c.args.out.now

pub bounds-out-start : goal.bounds-out-start
bounds-out-start c = omega (arith, ap length c.loop-i.invariant, over_at_length c.args.to (take c.loop-i.i (take c.args.n (drop c.args.start c.args.out.now))) c.args.out.now)

pub bounds-out-to : goal.bounds-out-to
bounds-out-to c = omega (arith, ap length c.loop-i.invariant, over_at_length c.args.to (take c.loop-i.i (take c.args.n (drop c.args.start c.args.out.now))) c.args.out.now)

pub loop-i-preserved : goal.loop-i-preserved
loop-i-preserved c = moves_on c.args.out.now c.loop-i.out c.args.start c.args.n c.args.to c.loop-i.i (omega arith) (omega arith) (omega arith) c.loop-i.invariant

pub shape_of-out : goal.shape_of-out
shape_of-out c = ap length c.loop-i.invariant ∙ over_at_length c.args.to _ c.args.out.now

pub returns : goal.returns
returns c = c.loop-i.invariant ∙ over_at_whole c.args.to (take c.args.n (drop c.args.start c.args.out.now)) c.args.out.now c.loop-i.i (omega (arith, length-take c.args.n (drop c.args.start c.args.out.now)))
