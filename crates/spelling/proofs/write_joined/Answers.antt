use native.Mathlib.Omega.{arith}
use Rattle.spelling.proofs.Forms.{joined_room, joined_written}
use Rattle.spelling.proofs.write_joined.Goals as goal

pub slice_bounds-write_undone-count : goal.slice_bounds-write_undone-count
slice_bounds-write_undone-count c = omega (arith, joined_room c.args.front.now c.args.form c.args.back.now c.args.out.now _ c.copy.ensures c.requires)

pub slice_bounds-write_undone-start : goal.slice_bounds-write_undone-start
slice_bounds-write_undone-start c = omega (arith, joined_room c.args.front.now c.args.form c.args.back.now c.args.out.now _ c.copy.ensures c.requires)

pub overflow_add-result : goal.overflow_add-result
overflow_add-result c = omega (arith, joined_room c.args.front.now c.args.form c.args.back.now c.args.out.now _ c.copy.ensures c.requires, c.write_undone.ensures.long)

pub returns : goal.returns
returns c = joined_written c.args.front.now c.args.form c.args.back.now c.args.out.now _ c.copy.ensures c.requires _ _ c.write_undone.ensures
