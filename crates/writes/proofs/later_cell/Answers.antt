use Rattle.writes.proofs.Places.{later_fresh, rest_ready, tie_ready, later_writes}
use Rattle.writes.proofs.later_cell.Goals as goal

pub fresh-cell-requires : goal.fresh-cell-requires
fresh-cell-requires c = later_fresh c.args.spot c.args.work.now c.args.rows.now c.args.terms.now c.args.store.now c.args.st.now c.requires.0 c.requires.1

pub share_supplied-rest-requires : goal.share_supplied-rest-requires
share_supplied-rest-requires c = rest_ready c.args.spot c.args.work.now c.args.rows.now c.args.terms.now c.args.store.now c.args.st.now c.requires.0 c.requires.1 c.fresh-cell.result c.fresh-cell.new.terms c.fresh-cell.new.st c.fresh-cell.ensures

pub put_row-requires : goal.put_row-requires
put_row-requires c = tie_ready c.args.spot c.args.work.now c.args.rows.now c.args.terms.now c.args.store.now c.args.st.now c.requires.0 c.requires.1 c.fresh-cell.result c.fresh-cell.new.terms c.fresh-cell.new.st c.fresh-cell.ensures c.share_supplied-rest.result c.share_supplied-rest.new.work c.share_supplied-rest.new.terms c.share_supplied-rest.new.store c.share_supplied-rest.new.st c.share_supplied-rest.ensures

pub returns : goal.returns
returns c = later_writes c.args.spot c.args.work.now c.args.rows.now c.args.terms.now c.args.store.now c.args.st.now c.requires.0 c.requires.1 c.fresh-cell.result c.fresh-cell.new.terms c.fresh-cell.new.st c.fresh-cell.ensures c.share_supplied-rest.result c.share_supplied-rest.new.work c.share_supplied-rest.new.terms c.share_supplied-rest.new.store c.share_supplied-rest.new.st c.share_supplied-rest.ensures _ _ c.put_row.ensures
