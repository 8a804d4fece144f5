use native.Mathlib.Omega.{arith}
use Prim.Native.Nat.{◌+◌}
use Rattle.lexer_bench.proofs.Part.{part_length}
use Rattle.lexer_bench.proofs.bench_tokens.Goals as goal

pub overflow_add-start : goal.overflow_add-start
overflow_add-start c = omega (arith, c.skip_blanks-b.ensures.within, part_length c.args.s.now c.loop-at.at)

pub slice_bounds-next_token-count : goal.slice_bounds-next_token-count
slice_bounds-next_token-count c = omega (arith, c.skip_blanks-b.ensures.within, part_length c.args.s.now c.loop-at.at)

pub slice_bounds-next_token-start : goal.slice_bounds-next_token-start
slice_bounds-next_token-start c = omega (arith, c.skip_blanks-b.ensures.within, part_length c.args.s.now c.loop-at.at)

pub slice_bounds-next_token-end : goal.slice_bounds-next_token-end
slice_bounds-next_token-end c = omega (arith, c.skip_blanks-b.ensures.within, part_length c.args.s.now c.loop-at.at)

pub overflow_add-at : goal.overflow_add-at
overflow_add-at c = omega (arith, c.skip_blanks-b.ensures.within, part_length c.args.s.now c.loop-at.at, (rw c.in-Some.is at c.next_token.ensures).within, part_length c.args.s.now (c.loop-at.at + c.skip_blanks-b.result))

pub overflow_add-count : goal.overflow_add-count
overflow_add-count c = omega (arith, c.skip_blanks-b.ensures.within, part_length c.args.s.now c.loop-at.at)

pub loop-at-smaller : goal.loop-at-smaller
loop-at-smaller c = omega (arith, c.skip_blanks-b.ensures.within, part_length c.args.s.now c.loop-at.at, (rw c.in-Some.is at c.next_token.ensures).within, part_length c.args.s.now (c.loop-at.at + c.skip_blanks-b.result))

pub loop-at-preserved : goal.loop-at-preserved
loop-at-preserved c = (omega (arith, c.skip_blanks-b.ensures.within, part_length c.args.s.now c.loop-at.at, (rw c.in-Some.is at c.next_token.ensures).within, part_length c.args.s.now (c.loop-at.at + c.skip_blanks-b.result)), omega (arith, c.skip_blanks-b.ensures.within, part_length c.args.s.now c.loop-at.at))
