-- `middle_level` meets its contract.
use native.Mathlib.Omega.{arith}
use Rattle.automaton.specs.Levels.{intervals}
use Rattle.automaton.proofs.Uniform.{level_test, level_on}
use Rattle.characters.proofs.names.middle_level.Goals as goal

pub returns-in-8255-to-8256 : goal.returns-in-8255-to-8256
unfolding level_test intervals
returns-in-8255-to-8256 c = level_on 0x203F 0x2040 _ tt c.args.c (omega arith) (omega arith) (omega arith) (omega arith)

pub returns-in-8204-to-8205 : goal.returns-in-8204-to-8205
unfolding level_test intervals
returns-in-8204-to-8205 c = level_on 0x200C 0x200D _ tt c.args.c (omega arith) (omega arith) (omega arith) (omega arith)

pub returns-in-8204-to-8205-2 : goal.returns-in-8204-to-8205-2
unfolding level_test intervals
returns-in-8204-to-8205-2 c = level_on 0x2070 0x218F _ tt c.args.c (omega arith) (omega arith) (omega arith) (omega arith)

pub returns-in-8204-to-8205-3 : goal.returns-in-8204-to-8205-3
unfolding level_test intervals
returns-in-8204-to-8205-3 c = level_on 0x2C00 0x2FEF _ tt c.args.c (omega arith) (omega arith) (omega arith) (omega arith)

pub returns-in_default : goal.returns-in_default
unfolding level_test intervals
returns-in_default c = level_on 0x2000 0x200B _ tt c.args.c (omega arith) (omega arith) (omega arith) (omega arith)

pub returns-in_default-2 : goal.returns-in_default-2
unfolding level_test intervals
returns-in_default-2 c = level_on 0x200E 0x203E _ tt c.args.c (omega arith) (omega arith) (omega arith) (omega arith)

pub returns-in_default-3 : goal.returns-in_default-3
unfolding level_test intervals
returns-in_default-3 c = level_on 0x2041 0x206F _ tt c.args.c (omega arith) (omega arith) (omega arith) (omega arith)

pub returns-in_default-4 : goal.returns-in_default-4
unfolding level_test intervals
returns-in_default-4 c = level_on 0x2190 0x2BFF _ tt c.args.c (omega arith) (omega arith) (omega arith) (omega arith)

pub returns-in_default-5 : goal.returns-in_default-5
unfolding level_test intervals
returns-in_default-5 c = level_on 0x2FF0 0x3000 _ tt c.args.c (omega arith) (omega arith) (omega arith) (omega arith)
