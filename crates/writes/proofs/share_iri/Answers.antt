-- A kept number is believed where its entry is the IRI; else it is looked for, and kept.
use Rattle.terms.specs.Keeps.{iri_sort}
use mathlib.Core.List.{[]}
use mathlib.Core.Path.{refl}
use Rattle.dataset.specs.Terms.{iri}
use native.Mathlib.Omega.{arith}
use Prim.Native.Nat.{◌+◌, ◌-◌}
use lib.ListN.{take, drop}
use Rattle.spelling.specs.Form.{joined}
use Rattle.state.specs.Words.{kept_word}
use Rattle.writes.proofs.Sharing.{ready_searchable, share_ready, share_writes, shares_kept, writes_kept, iri_asked}
use Rattle.writes.proofs.share_iri.Goals as goal

pub is_number-requires : goal.is_number-requires
is_number-requires c = (ready_searchable iri_sort (joined (take (c.args.end - c.args.start) (drop c.args.start c.args.work.now)) c.args.form c.args.back.now) [] c.args.work.now c.args.terms.now c.args.store.now c.args.st.now (share_ready iri_sort (joined (take (c.args.end - c.args.start) (drop c.args.start c.args.work.now)) c.args.form c.args.back.now) [] (iri (joined (take (c.args.end - c.args.start) (drop c.args.start c.args.work.now)) c.args.form c.args.back.now)) (iri_asked (joined (take (c.args.end - c.args.start) (drop c.args.start c.args.work.now)) c.args.form c.args.back.now)) (omega arith) c.args.work.now c.args.terms.now c.args.store.now c.args.st.now c.requires.0)).readable

pub returns-then-is_number : goal.returns-then-is_number
returns-then-is_number c = share_writes iri_sort (joined (take (c.args.end - c.args.start) (drop c.args.start c.args.work.now)) c.args.form c.args.back.now) [] (iri (joined (take (c.args.end - c.args.start) (drop c.args.start c.args.work.now)) c.args.form c.args.back.now)) (iri_asked (joined (take (c.args.end - c.args.start) (drop c.args.start c.args.work.now)) c.args.form c.args.back.now)) (omega arith) _ c.args.work.now _ c.args.terms.now _ c.args.store.now _ c.args.st.now _ (shares_kept (joined (take (c.args.end - c.args.start) (drop c.args.start c.args.work.now)) c.args.form c.args.back.now) _ c.args.work.now c.args.terms.now c.args.store.now c.args.st.now (c.is_number.ensures c.if-is_number.true) (share_ready iri_sort (joined (take (c.args.end - c.args.start) (drop c.args.start c.args.work.now)) c.args.form c.args.back.now) [] (iri (joined (take (c.args.end - c.args.start) (drop c.args.start c.args.work.now)) c.args.form c.args.back.now)) (iri_asked (joined (take (c.args.end - c.args.start) (drop c.args.start c.args.work.now)) c.args.form c.args.back.now)) (omega arith) c.args.work.now c.args.terms.now c.args.store.now c.args.st.now c.requires.0))

pub share-number-requires : goal.share-number-requires
share-number-requires c = ((share_ready iri_sort (joined (take (c.args.end - c.args.start) (drop c.args.start c.args.work.now)) c.args.form c.args.back.now) [] (iri (joined (take (c.args.end - c.args.start) (drop c.args.start c.args.work.now)) c.args.form c.args.back.now)) (iri_asked (joined (take (c.args.end - c.args.start) (drop c.args.start c.args.work.now)) c.args.form c.args.back.now)) (omega arith) c.args.work.now c.args.terms.now c.args.store.now c.args.st.now c.requires.0), c.requires.1)

pub returns : goal.returns
returns c = writes_kept (kept_word + c.kept_at-word.result) _ (omega arith) (omega (arith, c.kept_at-word.ensures)) (share_writes iri_sort (joined (take (c.args.end - c.args.start) (drop c.args.start c.args.work.now)) c.args.form c.args.back.now) [] (iri (joined (take (c.args.end - c.args.start) (drop c.args.start c.args.work.now)) c.args.form c.args.back.now)) (iri_asked (joined (take (c.args.end - c.args.start) (drop c.args.start c.args.work.now)) c.args.form c.args.back.now)) (omega arith) _ c.args.work.now _ c.args.terms.now _ c.args.store.now _ c.args.st.now _ c.share-number.ensures) _ refl
