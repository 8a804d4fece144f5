-- `keyword` meets its contract.
use native.Mathlib.Omega.{arith}
use Rattle.lexer_words.proofs.Fronting.{key_whole, key_part}
use Rattle.lexer_words.proofs.names.keyword.Goals as goal

pub agree-len-requires : goal.agree-len-requires
agree-len-requires c = (omega arith, c.requires.0)

pub returns-then-len-low : goal.returns-then-len-low
returns-then-len-low c = key_whole c.requires.1 c.agree-len.ensures c.if-len-low.true

pub returns : goal.returns
returns c = key_part c.requires.1 c.agree-len.ensures c.if-len-low.false
