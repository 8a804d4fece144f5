use Rattle.writes.proofs.Places.{first_fresh, first_hold, first_writes}
use Rattle.writes.proofs.first_cell.Goals as goal

pub fresh-cell-requires : goal.fresh-cell-requires
fresh-cell-requires c = first_fresh c.args.spot c.args.work.now c.args.rows.now c.args.terms.now c.args.store.now c.args.st.now c.requires.0 c.requires.1

pub hold-requires : goal.hold-requires
hold-requires c = first_hold c.args.spot c.args.work.now c.args.rows.now c.args.terms.now c.args.store.now c.args.st.now c.requires.0 c.requires.1 c.fresh-cell.result c.fresh-cell.new.terms c.fresh-cell.new.st c.fresh-cell.ensures

pub returns : goal.returns
returns c = first_writes c.args.spot c.args.work.now c.args.rows.now c.args.terms.now c.args.store.now c.args.st.now c.requires.0 c.requires.1 c.fresh-cell.result c.fresh-cell.new.terms c.fresh-cell.new.st c.fresh-cell.ensures _ _ _ c.hold.ensures
