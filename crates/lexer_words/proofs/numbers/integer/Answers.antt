-- `integer` meets its contract.
use Rattle.lexer_words.proofs.Numbering.{integer_none, integer_to_dot, integer_to_e, integer_other}
use Rattle.lexer_words.proofs.numbers.integer.Goals as goal

pub run-i-requires : goal.run-i-requires
run-i-requires c = c.requires.within

pub returns-then-s-i : goal.returns-then-s-i
returns-then-s-i c = integer_none c.args.s.now c.args.at c.run-i.result c.requires c.run-i.ensures c.if-s-i.true

pub point-requires : goal.point-requires
point-requires c = integer_to_dot c.args.s.now c.args.at c.run-i.result c.requires c.run-i.ensures c.if-s-i.false c.if-b-eq46.true

pub returns-then-b-eq46 : goal.returns-then-b-eq46
returns-then-b-eq46 c = c.point.ensures

pub exponent-requires : goal.exponent-requires
exponent-requires c = integer_to_e c.args.s.now c.args.at c.run-i.result c.requires c.run-i.ensures c.if-s-i.false _ c.is_exponent.ensures c.if-is_exponent.true

pub returns-then-is_exponent : goal.returns-then-is_exponent
returns-then-is_exponent c = c.exponent.ensures

pub returns : goal.returns
returns c = integer_other c.args.s.now c.args.at c.run-i.result c.requires c.run-i.ensures c.if-s-i.false _ c.is_exponent.ensures c.if-b-eq46.false c.if-is_exponent.false
