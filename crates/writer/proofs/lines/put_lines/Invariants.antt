-- The invariant: as many lines as rows were passed are written.
use Rattle.table.specs.LongForm.{lines_from}
use Rattle.usable.specs.Lent.{slices_of}
use Rattle.writer.specs.Writing.{Wrote}
use Rattle.writer.proofs.lines.put_lines.Given as goal

abbrev pub invariant-loop-i : goal.invariant-loop-i
invariant-loop-i l = Wrote 0 (lines_from (slices_of l.tables) 0 l.i) l.initial.out l.out l.at
