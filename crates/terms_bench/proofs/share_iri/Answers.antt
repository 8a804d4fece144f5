use mathlib.Core.Path.{refl}
use native.Mathlib.Omega.{arith}
use Rattle.limits.specs.Limits.{work_size}
use Rattle.spelling.specs.Form.{joined, undo, bad}
use Rattle.term_tree.proofs.Indexes.{end_part}
use Rattle.terms_bench.proofs.share_iri.Goals as goal

pub find-requires : goal.find-requires
find-requires c = rw (end_part work_size work_size c.args.work.now refl) c.requires.0

pub add-requires : goal.add-requires
unfolding joined undo bad
add-requires c = (c.requires.1.0, refl)

pub enter-requires : goal.enter-requires
enter-requires c = (c.requires.1.1, (omega (arith, c.requires.1.0.small.terms), rw (end_part work_size work_size c.args.work.now refl) at c.in-Err.ensures.1.1))

pub overflow_add-result : goal.overflow_add-result
overflow_add-result c = omega (arith, c.requires.1.0.small.terms)
