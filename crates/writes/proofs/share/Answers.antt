use mathlib.Core.Path.{refl}
use mathlib.Core.List.{[]}
use Prim.Native.Nat.{◌-◌}
use lib.ListN.{take, drop}
use Rattle.limits.specs.Limits.{work_size}
use Rattle.spelling.specs.Form.{joined}
use Rattle.state.specs.Words.{counts_of}
use Rattle.term_tree.proofs.Indexes.{end_part}
use Rattle.writes.proofs.Sharing.{finds_part, searchable_part, ready_searchable, shares_found, number_found, room_absent, shares_added, number_added}
use Rattle.writes.proofs.share.Goals as goal

pub find-requires : goal.find-requires
find-requires c = searchable_part c.args.terms.now c.args.store.now c.args.work.now c.counts.result (counts_of c.args.st.now) c.counts.ensures (ready_searchable c.args.sort (joined (take (c.args.end - c.args.start) (drop c.args.start c.args.work.now)) c.args.form c.args.back.now) c.args.tag.now c.args.work.now c.args.terms.now c.args.store.now c.args.st.now c.requires.0)

pub returns-in-Ok : goal.returns-in-Ok
returns-in-Ok c =
    let F = finds_part c.args.terms.now c.args.store.now c.args.work.now c.counts.result (counts_of c.args.st.now) c.args.sort (joined (take (c.args.end - c.args.start) (drop c.args.start c.args.work.now)) c.args.form c.args.back.now) c.args.tag.now c.in-Ok.number c.counts.ensures c.in-Ok.ensures.0 in
    (number_found c.args.sort (joined (take (c.args.end - c.args.start) (drop c.args.start c.args.work.now)) c.args.form c.args.back.now) c.args.tag.now c.in-Ok.number c.args.work.now c.args.terms.now c.args.store.now c.args.st.now F c.requires.0 c.in-Ok.ensures.1, λ rows. shares_found c.args.sort (joined (take (c.args.end - c.args.start) (drop c.args.start c.args.work.now)) c.args.form c.args.back.now) c.args.tag.now c.in-Ok.number c.args.work.now rows c.args.terms.now c.args.store.now c.args.st.now F c.in-Ok.ensures.1)

pub add-requires : goal.add-requires
add-requires c =
    (room_absent c.args.sort (joined (take (c.args.end - c.args.start) (drop c.args.start c.args.work.now)) c.args.form c.args.back.now) c.args.tag.now 0 c.args.work.now c.args.terms.now c.args.store.now c.args.st.now (finds_part c.args.terms.now c.args.store.now c.args.work.now c.counts.result (counts_of c.args.st.now) c.args.sort (joined (take (c.args.end - c.args.start) (drop c.args.start c.args.work.now)) c.args.form c.args.back.now) c.args.tag.now 0 c.counts.ensures c.in-Err.ensures.0) c.requires.0 refl, ((c.requires.1, c.requires.0.ready.represents.usable), rw (end_part work_size work_size c.args.work.now refl) at c.in-Err.ensures.1.1))

pub returns-in-Err : goal.returns-in-Err
returns-in-Err c =
    let F = finds_part c.args.terms.now c.args.store.now c.args.work.now c.counts.result (counts_of c.args.st.now) c.args.sort (joined (take (c.args.end - c.args.start) (drop c.args.start c.args.work.now)) c.args.form c.args.back.now) c.args.tag.now 0 c.counts.ensures c.in-Err.ensures.0 in
    let fits = room_absent c.args.sort (joined (take (c.args.end - c.args.start) (drop c.args.start c.args.work.now)) c.args.form c.args.back.now) c.args.tag.now 0 c.args.work.now c.args.terms.now c.args.store.now c.args.st.now F c.requires.0 refl in
    (number_added c.args.sort (joined (take (c.args.end - c.args.start) (drop c.args.start c.args.work.now)) c.args.form c.args.back.now) c.args.tag.now 0 0 c.add.result c.args.work.now c.args.work.now [] c.args.terms.now [] c.args.store.now [] c.args.st.now [] fits c.add.ensures.0, λ rows. shares_added c.args.sort (joined (take (c.args.end - c.args.start) (drop c.args.start c.args.work.now)) c.args.form c.args.back.now) c.args.tag.now c.in-Err.slot 0 c.add.result c.args.work.now _ rows c.args.terms.now _ c.args.store.now _ c.args.st.now _ F refl (rw (end_part work_size work_size c.args.work.now refl) at c.in-Err.ensures.1.0) fits c.add.ensures.1 c.add.ensures.0)
