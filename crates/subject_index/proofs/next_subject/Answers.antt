use native.Mathlib.Omega.{arith}
use Rattle.usable.specs.Lent.{slices_of}
use Rattle.subject_index.specs.Index.{subject}
use Rattle.subject_index.specs.Code.{named}
use Rattle.subject_index.proofs.Choosing.{chosen_start}
use Rattle.subject_index.proofs.next_subject.Goals as goal

pub loop-i-init : goal.loop-i-init
loop-i-init c = let s = slices_of c.args.tables.now in chosen_start s (subject s) (named s c.args.before)

pub closer-best-requires : goal.closer-best-requires
closer-best-requires c = ((c.requires.0 c.loop-i.i (omega arith), c.requires.1), c.loop-i.invariant)
