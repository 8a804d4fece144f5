-- `signed` meets its contract.
use Rattle.lexer_words.proofs.Numbering.{sign_none, sign_digit, sign_other, sign_dot_none, sign_dot_digit, sign_dot_other}
use Rattle.lexer_words.proofs.numbers.signed.Goals as goal

pub returns-then-s-le1 : goal.returns-then-s-le1
returns-then-s-le1 c = sign_none c.args.s.now c.requires c.if-s-le1.true

pub integer-requires : goal.integer-requires
integer-requires c = sign_digit c.args.s.now c.requires c.if-s-le1.false _ c.is_digit.ensures c.if-is_digit.true

pub returns-then-is_digit : goal.returns-then-is_digit
returns-then-is_digit c = c.integer.ensures

pub returns-then-b-ne46 : goal.returns-then-b-ne46
returns-then-b-ne46 c = sign_other c.args.s.now c.requires c.if-s-le1.false _ c.is_digit.ensures c.if-is_digit.false c.if-b-ne46.true

pub returns-then-s-le2 : goal.returns-then-s-le2
returns-then-s-le2 c = sign_dot_none c.args.s.now c.requires c.if-s-le1.false c.if-b-ne46.false c.if-s-le2.true

pub fraction-requires : goal.fraction-requires
fraction-requires c = sign_dot_digit c.args.s.now c.requires c.if-s-le1.false c.if-b-ne46.false c.if-s-le2.false _ c.is_digit-2.ensures c.if-is_digit-2.true

pub returns-then-is_digit-2 : goal.returns-then-is_digit-2
returns-then-is_digit-2 c = c.fraction.ensures

pub returns : goal.returns
returns c = sign_dot_other c.args.s.now c.requires c.if-s-le1.false c.if-b-ne46.false c.if-s-le2.false _ c.is_digit-2.ensures c.if-is_digit-2.false
