use mathlib.Core.Path.{refl}
use lib.ListN.{drop}
use Rattle.spelling.specs.Form.{joined, undo}
use Rattle.limits.specs.Limits.{work_size}
use Rattle.term_tree.specs.Holds.{Finds}
use Rattle.term_tree.proofs.Indexes.{searchable, end_part, found_alone}
use Rattle.room.proofs.find_text.Goals as goal

pub find-requires : goal.find-requires
find-requires c = rw (end_part work_size work_size c.args.work.now refl) (searchable c.requires.1.0 _ _ _ _ c.requires.1.1)

pub returns : goal.returns
unfolding joined
returns c = found_alone (Finds c.args.terms.now c.args.store.now (drop work_size c.args.work.now) c.args.counts c.args.sort (undo c.args.form c.args.text.now) c.args.tag.now) _ c.find.result c.ok.result c.ok.ensures.value (rw (end_part work_size work_size c.args.work.now refl) at c.find.ensures.0) c.find.ensures.1
