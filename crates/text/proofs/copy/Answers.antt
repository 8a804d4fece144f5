use mathlib.Core.Path.{ap, ◌∙◌}
use native.Mathlib.Omega.{arith}
use lib.ListN.{length, take}
use Rattle.text.proofs.Over.{over_length, over_start, over_next, over_enough}
use Rattle.text.proofs.copy.Goals as goal

pub returns-then-out-i : goal.returns-then-out-i
returns-then-out-i c = c.loop-i.invariant ∙ over_enough c.args.s.now c.args.out.now c.loop-i.i (omega (arith, ap length c.loop-i.invariant, over_length (take c.loop-i.i c.args.s.now) c.args.out.now))

pub loop-i-init : goal.loop-i-init
loop-i-init c = over_start c.args.out.now

pub loop-i-preserved : goal.loop-i-preserved
loop-i-preserved c = over_next c.args.s.now c.args.out.now c.loop-i.out c.loop-i.i (omega arith) c.loop-i.invariant
