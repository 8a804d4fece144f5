-- `exponent` meets its contract.
use native.Mathlib.Omega.{arith}
use Rattle.lexer_words.proofs.Numbering.{e_none, e_digit, e_other, e_sign_none, e_sign_digit, e_sign_other}
use Rattle.lexer_words.proofs.numbers.exponent.Goals as goal

pub returns-then-s-at : goal.returns-then-s-at
returns-then-s-at c = e_none c.args.s.now c.args.at c.args.before c.requires c.if-s-at.true

pub exponent_digits-requires : goal.exponent_digits-requires
exponent_digits-requires c = e_digit c.args.s.now c.args.at c.args.before c.requires c.if-s-at.false _ c.is_digit.ensures c.if-is_digit.true

pub returns-then-is_digit : goal.returns-then-is_digit
returns-then-is_digit c = c.exponent_digits.ensures

pub returns-then-not-is_sign : goal.returns-then-not-is_sign
returns-then-not-is_sign c = e_other c.args.s.now c.args.at c.args.before c.requires c.if-s-at.false _ c.is_digit.ensures c.if-is_digit.false _ c.is_sign.ensures c.if-not-is_sign.true

pub returns-then-s-at-le1 : goal.returns-then-s-at-le1
returns-then-s-at-le1 c = e_sign_none c.args.s.now c.args.at c.args.before c.requires c.if-s-at.false _ c.is_digit.ensures c.if-is_digit.false _ c.is_sign.ensures c.if-not-is_sign.false (omega arith)

pub exponent_digits-requires-then-is_digit-2 : goal.exponent_digits-requires-then-is_digit-2
exponent_digits-requires-then-is_digit-2 c = e_sign_digit c.args.s.now c.args.at c.args.before c.requires c.if-s-at.false _ c.is_digit.ensures c.if-is_digit.false _ c.is_sign.ensures c.if-not-is_sign.false (omega arith) _ c.is_digit-2.ensures c.if-is_digit-2.true

pub returns-then-is_digit-2 : goal.returns-then-is_digit-2
returns-then-is_digit-2 c = c.exponent_digits-then-is_digit-2.ensures

pub returns : goal.returns
returns c = e_sign_other c.args.s.now c.args.at c.args.before c.requires c.if-s-at.false _ c.is_digit.ensures c.if-is_digit.false _ c.is_sign.ensures c.if-not-is_sign.false (omega arith) _ c.is_digit-2.ensures c.if-is_digit-2.false
