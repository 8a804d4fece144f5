use native.Mathlib.Omega.{arith}
use mathlib.Core.Path.{sym}
use mathlib.Core.Bool.{false}
use native.Mathlib.Nat.{zero-add}
use Rattle.lexer.specs.Blanks.{skips}
use Rattle.lexer.proofs.Blanking.{blanks_on, blanks_stop, blanks_comment, blanks_end}
use Rattle.lexer.proofs.skip_blanks.Goals as goal

pub loop-i-init : goal.loop-i-init
loop-i-init c = (omega arith, sym (zero-add (skips false c.args.s.now)))

pub loop-i-preserved-then-is_white_space : goal.loop-i-preserved-then-is_white_space
loop-i-preserved-then-is_white_space c = (omega arith, blanks_on c.args.s.now c.loop-i.i c.loop-i.invariant.1 c.loop-i-test.true _ (c.type_inv.s c.loop-i.i).fits c.is_white_space.ensures c.if-is_white_space.true)

pub returns-then-b-ne35 : goal.returns-then-b-ne35
returns-then-b-ne35 c = blanks_stop c.args.s.now c.loop-i.i c.loop-i.invariant.1 c.loop-i-test.true _ (c.type_inv.s c.loop-i.i).fits c.is_white_space.ensures c.if-is_white_space.false c.if-b-ne35.true

pub loop-i-smaller : goal.loop-i-smaller
loop-i-smaller c = omega (arith, c.comment_end-i.ensures.from, c.comment_end-i.ensures.within)

pub loop-i-preserved : goal.loop-i-preserved
loop-i-preserved c = (c.comment_end-i.ensures.within, blanks_comment c.args.s.now c.loop-i.i c.loop-i.invariant.1 c.loop-i-test.true _ (c.type_inv.s c.loop-i.i).fits c.is_white_space.ensures c.if-is_white_space.false c.if-b-ne35.false _ c.comment_end-i.ensures)

pub returns : goal.returns
returns c = blanks_end c.args.s.now c.loop-i.i c.loop-i.invariant.1 c.loop-i.invariant.0 c.loop-i-test.false
