use mathlib.Core.Path.{refl}
use Rattle.terms.specs.Keeps.{blank_sort}
use mathlib.Core.List.{[]}
use Rattle.dataset.specs.Terms.{blank, label}
use native.Mathlib.Omega.{arith}
use Rattle.spelling.specs.Form.{joined, undo, bad}
use Rattle.writes.proofs.Sharing.{share_ready, share_writes, label_asked}
use Rattle.writes.proofs.share_label.Goals as goal

pub share-requires : goal.share-requires
unfolding joined undo bad
share-requires c = (share_ready blank_sort c.args.text.now [] (blank (label c.args.text.now)) (label_asked c.args.text.now c.requires.1) (omega arith) c.args.work.now c.args.terms.now c.args.store.now c.args.st.now c.requires.0, record { order = omega arith; front = omega arith; right = refl })

pub returns : goal.returns
unfolding joined undo
returns c = share_writes blank_sort c.args.text.now [] (blank (label c.args.text.now)) (label_asked c.args.text.now c.requires.1) (omega arith) _ c.args.work.now _ c.args.terms.now _ c.args.store.now _ c.args.st.now _ c.share.ensures
