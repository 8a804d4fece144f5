-- `fraction` meets its contract.
use Rattle.lexer_words.proofs.Numbering.{fraction_none, fraction_to_e, fraction_other}
use Rattle.lexer_words.proofs.numbers.fraction.Goals as goal

pub run-i-requires : goal.run-i-requires
run-i-requires c = c.requires.within

pub exponent-requires : goal.exponent-requires
exponent-requires c = fraction_to_e c.args.s.now c.args.at c.run-i.result c.requires c.run-i.ensures c.if-i-s.true _ c.is_exponent.ensures c.if-is_exponent.true

pub returns-then-is_exponent : goal.returns-then-is_exponent
returns-then-is_exponent c = c.exponent.ensures

pub returns-else-is_exponent : goal.returns-else-is_exponent
returns-else-is_exponent c = fraction_other c.args.s.now c.args.at c.run-i.result c.requires c.run-i.ensures c.if-i-s.true _ c.is_exponent.ensures c.if-is_exponent.false

pub returns-else-i-s : goal.returns-else-i-s
returns-else-i-s c = fraction_none c.args.s.now c.args.at c.run-i.result c.requires c.run-i.ensures c.if-i-s.false
