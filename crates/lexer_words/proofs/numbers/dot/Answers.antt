-- `dot` meets its contract.
use Rattle.lexer_words.proofs.Numbering.{dot_none, dot_digit, dot_other}
use Rattle.lexer_words.proofs.numbers.dot.Goals as goal

pub fraction-requires : goal.fraction-requires
fraction-requires c = dot_digit c.args.s.now c.requires c.if-s-gt1.true _ c.is_digit.ensures c.if-is_digit.true

pub returns-then-is_digit : goal.returns-then-is_digit
returns-then-is_digit c = c.fraction.ensures

pub returns-else-is_digit : goal.returns-else-is_digit
returns-else-is_digit c = dot_other c.args.s.now c.requires c.if-s-gt1.true _ c.is_digit.ensures c.if-is_digit.false

pub returns-else-s-gt1 : goal.returns-else-s-gt1
returns-else-s-gt1 c = dot_none c.args.s.now c.requires c.if-s-gt1.false
