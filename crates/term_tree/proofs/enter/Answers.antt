use mathlib.Core.Path.{refl}
use Rattle.term_tree.proofs.Indexes.{end_part, entered}
use Rattle.limits.specs.Limits.{work_size}
use Rattle.term_tree.proofs.enter.Goals as goal

pub link-requires : goal.link-requires
link-requires c = (c.requires.1.0, rw (end_part work_size work_size c.args.work.now refl) c.requires.1.1)

pub returns : goal.returns
returns c = entered work_size work_size c.args.work.now _ c.args.count c.args.place refl c.requires.0 c.link.ensures
