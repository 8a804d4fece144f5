use native.Mathlib.Omega.{arith}
use Rattle.iri.proofs.Buffer.{turning_start, turning_more, turning_end}
use Rattle.iri.proofs.remove_dots.Goals as goal

pub loop-t-init : goal.loop-t-init
loop-t-init c = turning_start c.args.path.now c.args.n

pub loop-t-preserved : goal.loop-t-preserved
loop-t-preserved c = turning_more c.args.path.now c.loop-t.path c.take_turn-t.new.b c.args.n c.loop-t.t c.take_turn-t.result c.requires c.loop-t.invariant c.loop-t-test.true c.take_turn-t.ensures

pub returns : goal.returns
returns c = turning_end c.args.path.now c.loop-t.path c.args.n c.loop-t.t c.requires c.loop-t.invariant (omega arith)
