use mathlib.Core.Path.{refl}
use native.Mathlib.Omega.{arith}
use Rattle.writes.proofs.Rows.{room_for_row, row_small, row_writes}
use Rattle.writes.proofs.put_row.Goals as goal

pub add_row-requires : goal.add_row-requires
add_row-requires c = ((room_for_row c.args.s c.args.p c.args.o c.args.at c.args.rows.now c.args.st.now c.requires).0, row_small c.args.s c.args.p c.args.o c.args.at c.args.rows.now c.args.st.now c.requires)

pub overflow_add-st : goal.overflow_add-st
overflow_add-st c = omega (arith, (room_for_row c.args.s c.args.p c.args.o c.args.at c.args.rows.now c.args.st.now c.requires).1)

pub returns : goal.returns
returns c = row_writes c.args.s c.args.p c.args.o c.args.at c.args.rows.now c.args.st.now c.requires _ _ c.add_row.ensures refl
