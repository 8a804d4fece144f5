use Rattle.machine.specs.Frame.{no_cell, cells}
use native.Mathlib.Omega.{arith}
use Rattle.state.specs.Represents.{lent_tables}
use Rattle.writes.proofs.Nodes.{closed_ready, closed_wrote, cells_none, cells_some}
use Rattle.writes.proofs.write_closed.Goals as goal

pub end_empty-requires : goal.end_empty-requires
end_empty-requires c = (closed_ready c.args.spot c.args.work.now (lent_tables c.args.rows.now c.args.terms.now c.args.store.now) c.args.st.now c.requires.0 no_cell (cells_none c.args.spot c.if-spot-eq0.true), c.requires.1)

pub returns-then-spot-eq0 : goal.returns-then-spot-eq0
returns-then-spot-eq0 c = closed_wrote c.args.spot c.args.work.now (lent_tables c.args.rows.now c.args.terms.now c.args.store.now) c.args.st.now c.requires.0 no_cell (cells_none c.args.spot c.if-spot-eq0.true) _ _ _ _ c.end_empty.ensures.0.1 c.end_empty.ensures.1

pub end_cells-requires : goal.end_cells-requires
end_cells-requires c = (closed_ready c.args.spot c.args.work.now (lent_tables c.args.rows.now c.args.terms.now c.args.store.now) c.args.st.now c.requires.0 (cells 0 c.args.spot.last) (cells_some c.args.spot (omega (arith, c.if-spot-eq0.false))), c.requires.1)

pub returns : goal.returns
returns c = closed_wrote c.args.spot c.args.work.now (lent_tables c.args.rows.now c.args.terms.now c.args.store.now) c.args.st.now c.requires.0 (cells 0 c.args.spot.last) (cells_some c.args.spot (omega (arith, c.if-spot-eq0.false))) 0 _ _ _ (omega arith) c.end_cells.ensures
