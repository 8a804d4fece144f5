use Prim.Native.Nat.{◌-◌, ◌+◌}
use lib.ListN.{take, drop}
use Rattle.spelling.specs.Form.{joined}
use Rattle.writes.proofs.Sharing.{term_added}
use native.Mathlib.Omega.{arith}
use Rattle.terms.specs.declared.Counts.{Counts}
use mathlib.Core.Path.{refl, ap}
use Rattle.writes.proofs.add.Goals as goal

pub add-d-requires : goal.add-d-requires
add-d-requires c = rw c.counts-c.ensures (c.requires.0, c.requires.1.0.0.right)

pub enter-requires : goal.enter-requires
enter-requires c = (c.requires.1.0.1.room, (omega (arith, c.requires.0.small.terms, ap (λ (k : Counts). k.terms) c.counts-c.ensures), c.requires.1.1))

pub set_counts-requires : goal.set_counts-requires
set_counts-requires c = c.requires.1.0.1.words

pub overflow_add-result : goal.overflow_add-result
overflow_add-result c = omega (arith, c.requires.0.small.terms, ap (λ (k : Counts). k.terms) c.counts-c.ensures)

pub returns : goal.returns
returns c = (ap (λ (k : Counts). k.terms + 1) c.counts-c.ensures, term_added c.args.sort (joined (take (c.args.end - c.args.start) (drop c.args.start c.args.work.now)) c.args.form c.args.back.now) c.args.tag.now c.args.slot c.counts-c.result.terms c.args.work.now _ c.args.terms.now _ c.args.store.now _ c.args.st.now _ c.counts-c.result c.add-d.result c.counts-c.ensures refl c.add-d.ensures c.enter.ensures c.set_counts.ensures c.enter.auto.work)
