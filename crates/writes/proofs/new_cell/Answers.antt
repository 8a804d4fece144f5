use Rattle.machine.specs.Frame.{no_cell, cells}
use Rattle.machine.specs.Rules.{new_cell}
use native.Mathlib.Omega.{arith}
use Rattle.state.specs.Represents.{lent_tables}
use Rattle.state.specs.Writes.{place_of, cells_of}
use Rattle.writes.proofs.Nodes.{ready_cells, writes_cells, cells_none, cells_some}
use Rattle.writes.proofs.new_cell.Goals as goal

pub first_cell-requires : goal.first_cell-requires
first_cell-requires c = (ready_cells (λ cs. new_cell (place_of c.args.spot.x c.args.spot.y) c.args.spot.opened cs c.args.spot.at) (cells_of c.args.spot.last) no_cell c.args.work.now (lent_tables c.args.rows.now c.args.terms.now c.args.store.now) c.args.st.now (cells_none c.args.spot c.if-spot-eq0.true) c.requires.0, c.requires.1)

pub returns-then-spot-eq0 : goal.returns-then-spot-eq0
returns-then-spot-eq0 c = (c.first_cell.ensures.0, writes_cells (λ cs. new_cell (place_of c.args.spot.x c.args.spot.y) c.args.spot.opened cs c.args.spot.at) (cells_of c.args.spot.last) no_cell _ c.args.work.now _ (lent_tables c.args.rows.now c.args.terms.now c.args.store.now) _ c.args.st.now _ (cells_none c.args.spot c.if-spot-eq0.true) c.first_cell.ensures.1)

pub later_cell-requires : goal.later_cell-requires
later_cell-requires c = (ready_cells (λ cs. new_cell (place_of c.args.spot.x c.args.spot.y) c.args.spot.opened cs c.args.spot.at) (cells_of c.args.spot.last) (cells 0 c.args.spot.last) c.args.work.now (lent_tables c.args.rows.now c.args.terms.now c.args.store.now) c.args.st.now (cells_some c.args.spot (omega (arith, c.if-spot-eq0.false))) c.requires.0, c.requires.1)

pub returns : goal.returns
returns c = (c.later_cell.ensures.0, writes_cells (λ cs. new_cell (place_of c.args.spot.x c.args.spot.y) c.args.spot.opened cs c.args.spot.at) (cells_of c.args.spot.last) (cells 0 c.args.spot.last) _ c.args.work.now _ (lent_tables c.args.rows.now c.args.terms.now c.args.store.now) _ c.args.st.now _ (cells_some c.args.spot (omega (arith, c.if-spot-eq0.false))) c.later_cell.ensures.1)
