use mathlib.Core.Path.{refl}
use mathlib.Core.List.{[]}
use Prim.Native.Nat.{◌-◌}
use lib.ListN.{take, drop}
use Rattle.spelling.specs.Form.{joined}
use Rattle.terms.specs.Keeps.{iri_sort}
use Rattle.term_tree.specs.Holds.{Finds}
use Rattle.term_tree.proofs.Indexes.{end_part, found_alone}
use Rattle.limits.specs.Limits.{work_size}
use Rattle.term_tree.proofs.find_name.Goals as goal

pub find-requires : goal.find-requires
find-requires c = rw (end_part work_size work_size c.args.work.now refl) c.requires.1

pub returns : goal.returns
returns c = found_alone (Finds c.args.terms.now c.args.store.now (drop work_size c.args.work.now) c.args.counts iri_sort (joined (take (c.args.end - c.args.start) (drop c.args.start c.args.work.now)) c.args.form c.args.back.now) []) _ c.find.result c.ok.result c.ok.ensures.value (rw (end_part work_size work_size c.args.work.now refl) at c.find.ensures.0) c.find.ensures.1
