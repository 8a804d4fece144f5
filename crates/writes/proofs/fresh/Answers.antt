use Rattle.terms.specs.declared.Counts.{Counts}
use mathlib.Core.Path.{refl, ap}
use native.Mathlib.Omega.{arith}
use Rattle.writes.proofs.Sharing.{fresh_room, fresh_writes}
use Rattle.writes.proofs.fresh.Goals as goal

pub add_blank-d-requires : goal.add_blank-d-requires
add_blank-d-requires c = rw c.counts-c.ensures ((fresh_room c.args.terms.now c.args.st.now c.requires).words, (fresh_room c.args.terms.now c.args.st.now c.requires).small)

pub set_counts-requires : goal.set_counts-requires
set_counts-requires c = c.requires.ready.represents.usable.words

pub overflow_add-result : goal.overflow_add-result
overflow_add-result c = omega (arith, (fresh_room c.args.terms.now c.args.st.now c.requires).small.terms, ap (λ (k : Counts). k.terms) c.counts-c.ensures)

pub returns : goal.returns
returns c = fresh_writes _ c.args.terms.now _ c.args.st.now _ c.counts-c.result c.add_blank-d.result c.requires c.counts-c.ensures c.add_blank-d.ensures c.set_counts.ensures refl
