-- `low_level` meets its contract.
use native.Mathlib.Omega.{arith}
use Rattle.automaton.specs.Levels.{intervals}
use Rattle.automaton.proofs.Uniform.{level_test, level_on}
use Rattle.characters.proofs.names.low_level.Goals as goal

pub returns-in-768-to-879 : goal.returns-in-768-to-879
unfolding level_test intervals
returns-in-768-to-879 c = level_on 0x300 0x36F _ tt c.args.c (omega arith) (omega arith) (omega arith) (omega arith)

pub returns-in-192-to-214 : goal.returns-in-192-to-214
unfolding level_test intervals
returns-in-192-to-214 c = level_on 0xC0 0xD6 _ tt c.args.c (omega arith) (omega arith) (omega arith) (omega arith)

pub returns-in-192-to-214-2 : goal.returns-in-192-to-214-2
unfolding level_test intervals
returns-in-192-to-214-2 c = level_on 0xD8 0xF6 _ tt c.args.c (omega arith) (omega arith) (omega arith) (omega arith)

pub returns-in-192-to-214-3 : goal.returns-in-192-to-214-3
unfolding level_test intervals
returns-in-192-to-214-3 c = level_on 0xF8 0x2FF _ tt c.args.c (omega arith) (omega arith) (omega arith) (omega arith)

pub returns-in_default : goal.returns-in_default
returns-in_default c = absurd (omega arith)

pub returns-in_default-2 : goal.returns-in_default-2
unfolding level_test intervals
returns-in_default-2 c = level_on 0xD7 0xD7 _ tt c.args.c (omega arith) (omega arith) (omega arith) (omega arith)

pub returns-in_default-3 : goal.returns-in_default-3
unfolding level_test intervals
returns-in_default-3 c = level_on 0xF7 0xF7 _ tt c.args.c (omega arith) (omega arith) (omega arith) (omega arith)

pub returns-in_default-4 : goal.returns-in_default-4
returns-in_default-4 c = absurd (omega arith)
