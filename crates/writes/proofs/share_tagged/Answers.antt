use Rattle.dataset.specs.Terms.{tagged}
use native.Mathlib.Omega.{arith}
use Rattle.spelling.specs.Form.{joined, undo}
use Rattle.writes.proofs.Sharing.{share_ready, share_writes, tagged_sort, tagged_asked}
use Rattle.writes.proofs.share_tagged.Goals as goal

pub share-requires : goal.share-requires
unfolding joined
share-requires c = (share_ready tagged_sort (undo c.args.form c.args.text.now) c.args.tag.now (tagged (undo c.args.form c.args.text.now) c.args.tag.now) (tagged_asked (undo c.args.form c.args.text.now) c.args.tag.now) (omega arith) c.args.work.now c.args.terms.now c.args.store.now c.args.st.now c.requires.0, record { order = omega arith; front = omega arith; right = c.requires.1 })

pub returns : goal.returns
unfolding joined
returns c = share_writes tagged_sort (undo c.args.form c.args.text.now) c.args.tag.now (tagged (undo c.args.form c.args.text.now) c.args.tag.now) (tagged_asked (undo c.args.form c.args.text.now) c.args.tag.now) (omega arith) _ c.args.work.now _ c.args.terms.now _ c.args.store.now _ c.args.st.now _ c.share.ensures
