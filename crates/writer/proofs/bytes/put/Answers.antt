use Rattle.writer.proofs.Chains.{wrote_byte, wrote_past}
use Rattle.writer.proofs.bytes.put.Goals as goal
use Rattle.writer.proofs.bytes.put.Goals.{then-at-out, else-at-out}

pub shape_of-out : goal.shape_of-out
shape_of-out c = c.if-at-out.auto.out

pub returns : goal.returns
returns c = elim c.if-at-out.branch [ then-at-out w ↦ rw w.out-is (wrote_byte c.args.at c.args.c c.args.out.now) | else-at-out w ↦ rw w.out-is (wrote_past c.args.at c.args.c c.args.out.now w.if-at-out.false) ]
