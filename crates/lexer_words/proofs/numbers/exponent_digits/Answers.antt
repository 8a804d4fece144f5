-- `exponent_digits` meets its contract.
use Rattle.lexer_words.proofs.Numbering.{exponent_done}
use Rattle.lexer_words.proofs.numbers.exponent_digits.Goals as goal

pub run-i-requires : goal.run-i-requires
run-i-requires c = c.requires.within

pub returns : goal.returns
returns c = exponent_done c.args.s.now c.args.at c.run-i.result c.requires c.run-i.ensures
