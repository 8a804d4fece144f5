-- `point` meets its contract.
use native.Mathlib.Omega.{arith}
use Rattle.lexer_words.proofs.Numbering.{point_none, point_digit, point_to_e, point_other}
use Rattle.lexer_words.proofs.numbers.point.Goals as goal

pub overflow_sub-s : goal.overflow_sub-s
overflow_sub-s c = omega (arith, c.requires.within)

pub returns-then-s-at-le1 : goal.returns-then-s-at-le1
returns-then-s-at-le1 c = point_none c.args.s.now c.args.at c.requires (omega arith)

pub bounds-s-at : goal.bounds-s-at
bounds-s-at c = omega (arith, c.requires.within)

pub fraction-requires : goal.fraction-requires
fraction-requires c = point_digit c.args.s.now c.args.at c.requires (omega arith) _ c.is_digit.ensures c.if-is_digit.true

pub returns-then-is_digit : goal.returns-then-is_digit
returns-then-is_digit c = c.fraction.ensures

pub exponent-requires : goal.exponent-requires
exponent-requires c = point_to_e c.args.s.now c.args.at c.requires (omega arith) _ c.is_digit.ensures _ c.is_exponent.ensures c.if-is_exponent.true

pub returns-then-is_exponent : goal.returns-then-is_exponent
returns-then-is_exponent c = c.exponent.ensures

pub returns : goal.returns
returns c = point_other c.args.s.now c.args.at c.requires (omega arith) _ c.is_digit.ensures _ c.is_exponent.ensures c.if-is_digit.false c.if-is_exponent.false
