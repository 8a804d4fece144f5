-- The invariant: the best is chosen from the rows before the one reached.
use Rattle.usable.specs.Lent.{slices_of}
use Rattle.subject_index.specs.Index.{subject}
use Rattle.subject_index.specs.Code.{named, Chooses}
use Rattle.subject_index.proofs.next_subject.Given as goal

abbrev pub invariant-loop-i : goal.invariant-loop-i
invariant-loop-i l = Chooses (slices_of l.tables) (subject (slices_of l.tables)) (named (slices_of l.tables) l.before) l.i l.best
