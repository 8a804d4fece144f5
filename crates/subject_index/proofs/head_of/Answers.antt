use Rattle.look_up.specs.Record.{head_of}
use Rattle.subject_index.proofs.head_of.Goals as goal

pub returns : goal.returns
unfolding head_of
returns c = rw (c.low.ensures, c.low-2.ensures, c.low-3.ensures, c.low-4.ensures, c.low-5.ensures, c.low-6.ensures, c.low-7.ensures, c.low-8.ensures, c.low-9.ensures, c.low-10.ensures)
