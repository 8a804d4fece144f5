use Rattle.writes.proofs.Places.{empty_nil, empty_hold, empty_writes}
use Rattle.writes.proofs.end_empty.Goals as goal

pub share_supplied-nil-requires : goal.share_supplied-nil-requires
share_supplied-nil-requires c = empty_nil c.args.spot c.args.work.now c.args.rows.now c.args.terms.now c.args.store.now c.args.st.now c.requires.0 c.requires.1

pub hold-requires : goal.hold-requires
hold-requires c = empty_hold c.args.spot c.args.work.now c.args.rows.now c.args.terms.now c.args.store.now c.args.st.now c.requires.0 c.requires.1 c.share_supplied-nil.result c.share_supplied-nil.new.work c.share_supplied-nil.new.terms c.share_supplied-nil.new.store c.share_supplied-nil.new.st c.share_supplied-nil.ensures

pub returns : goal.returns
returns c = empty_writes c.args.spot c.args.work.now c.args.rows.now c.args.terms.now c.args.store.now c.args.st.now c.requires.0 c.requires.1 c.share_supplied-nil.result c.share_supplied-nil.new.work c.share_supplied-nil.new.terms c.share_supplied-nil.new.store c.share_supplied-nil.new.st c.share_supplied-nil.ensures _ _ _ c.hold.ensures
