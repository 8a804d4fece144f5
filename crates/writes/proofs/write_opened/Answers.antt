use Rattle.state.specs.Represents.{lent_tables}
use Rattle.writes.proofs.Nodes.{opened_cell, opened_wrote, opened_nothing}
use Rattle.writes.proofs.write_opened.Goals as goal

pub new_cell-requires : goal.new_cell-requires
new_cell-requires c = (opened_cell c.args.spot c.args.work.now (lent_tables c.args.rows.now c.args.terms.now c.args.store.now) c.args.st.now c.requires.0 c.if-spot.true, c.requires.1)

pub returns-then-spot : goal.returns-then-spot
returns-then-spot c = opened_wrote c.args.spot c.args.work.now (lent_tables c.args.rows.now c.args.terms.now c.args.store.now) c.args.st.now c.requires.0 c.if-spot.true c.new_cell.result _ _ _ c.new_cell.ensures

pub returns : goal.returns
returns c = opened_nothing c.args.spot c.args.work.now (lent_tables c.args.rows.now c.args.terms.now c.args.store.now) c.args.st.now c.requires.0 c.if-spot.false
