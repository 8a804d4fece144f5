use mathlib.Core.List.{[]}
use Prim.Native.Nat.{◌-◌}
use lib.ListN.{take, drop}
use native.Mathlib.Omega.{arith}
use Rattle.spelling.specs.Form.{joined, undo}
use Rattle.writes.proofs.Sharing.{datatype_ready, literal_ready, literal_writes}
use Rattle.writes.proofs.share_typed.Goals as goal

pub share_iri-d-requires : goal.share_iri-d-requires
share_iri-d-requires c = (datatype_ready (undo c.args.shape c.args.text.now) (joined (take (c.args.end - c.args.start) (drop c.args.start c.args.work.now)) c.args.form c.args.back.now) 0 c.args.work.now [] c.args.terms.now [] c.args.store.now [] c.args.st.now [] c.requires.0, c.requires.1.0)

pub share-requires : goal.share-requires
unfolding joined
share-requires c = (literal_ready (undo c.args.shape c.args.text.now) (joined (take (c.args.end - c.args.start) (drop c.args.start c.args.work.now)) c.args.form c.args.back.now) c.share_iri-d.result c.args.work.now c.share_iri-d.new.work c.args.terms.now c.share_iri-d.new.terms c.args.store.now c.share_iri-d.new.store c.args.st.now c.share_iri-d.new.st c.share_iri-d.ensures c.requires.0, record { order = omega arith; front = omega arith; right = c.requires.1.1 })

pub returns : goal.returns
unfolding joined
returns c = literal_writes (undo c.args.shape c.args.text.now) (joined (take (c.args.end - c.args.start) (drop c.args.start c.args.work.now)) c.args.form c.args.back.now) c.share_iri-d.result c.args.work.now c.share_iri-d.new.work c.args.terms.now c.share_iri-d.new.terms c.args.store.now c.share_iri-d.new.store c.args.st.now c.share_iri-d.new.st c.share_iri-d.ensures _ _ _ _ _ c.share.ensures
