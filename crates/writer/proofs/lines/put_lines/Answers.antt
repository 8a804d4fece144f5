use native.Mathlib.Omega.{arith}
use Rattle.usable.specs.Lent.{slices_of}
use Rattle.writer.proofs.RowForms.{lines_none, line_room, line_next}
use Rattle.writer.proofs.lines.put_lines.Goals as goal

pub loop-i-init : goal.loop-i-init
loop-i-init c = lines_none (slices_of c.args.tables.now) c.args.out.now

pub put_line-at-requires : goal.put_line-at-requires
put_line-at-requires c =
    (c.requires.0 c.loop-i.i (omega arith), line_room (slices_of c.args.tables.now) c.loop-i.i c.args.count (omega arith) c.loop-i.invariant c.requires.1)

pub loop-i-preserved : goal.loop-i-preserved
loop-i-preserved c = line_next (slices_of c.args.tables.now) c.loop-i.i c.loop-i.invariant c.put_line-at.ensures
