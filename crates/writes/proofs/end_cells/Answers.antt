use Rattle.writes.proofs.Places.{end_rest, end_nil, end_ready, end_writes}
use Rattle.writes.proofs.end_cells.Goals as goal

pub share_supplied-rest-requires : goal.share_supplied-rest-requires
share_supplied-rest-requires c = end_rest c.args.spot c.args.work.now c.args.rows.now c.args.terms.now c.args.store.now c.args.st.now c.requires.0 c.requires.1

pub share_supplied-nil-requires : goal.share_supplied-nil-requires
share_supplied-nil-requires c = end_nil c.args.spot c.args.work.now c.args.rows.now c.args.terms.now c.args.store.now c.args.st.now c.requires.0 c.requires.1 c.share_supplied-rest.result c.share_supplied-rest.new.work c.share_supplied-rest.new.terms c.share_supplied-rest.new.store c.share_supplied-rest.new.st c.share_supplied-rest.ensures

pub put_row-requires : goal.put_row-requires
put_row-requires c = end_ready c.args.spot c.args.work.now c.args.rows.now c.args.terms.now c.args.store.now c.args.st.now c.requires.0 c.requires.1 c.share_supplied-rest.result c.share_supplied-rest.new.work c.share_supplied-rest.new.terms c.share_supplied-rest.new.store c.share_supplied-rest.new.st c.share_supplied-rest.ensures c.share_supplied-nil.result c.share_supplied-nil.new.work c.share_supplied-nil.new.terms c.share_supplied-nil.new.store c.share_supplied-nil.new.st c.share_supplied-nil.ensures

pub returns : goal.returns
returns c = end_writes c.args.spot c.args.work.now c.args.rows.now c.args.terms.now c.args.store.now c.args.st.now c.requires.0 c.requires.1 c.share_supplied-rest.result c.share_supplied-rest.new.work c.share_supplied-rest.new.terms c.share_supplied-rest.new.store c.share_supplied-rest.new.st c.share_supplied-rest.ensures c.share_supplied-nil.result c.share_supplied-nil.new.work c.share_supplied-nil.new.terms c.share_supplied-nil.new.store c.share_supplied-nil.new.st c.share_supplied-nil.ensures _ _ c.put_row.ensures
