-- `high_level` meets its contract.
use native.Mathlib.Omega.{arith}
use Rattle.automaton.specs.Levels.{intervals}
use Rattle.automaton.proofs.Uniform.{level_test, level_on}
use Rattle.characters.proofs.names.high_level.Goals as goal

pub returns-in-63744-to-64975 : goal.returns-in-63744-to-64975
unfolding level_test intervals
returns-in-63744-to-64975 c = level_on 0xF900 0xFDCF _ tt c.args.c (omega arith) (omega arith) (omega arith) (omega arith)

pub returns-in-63744-to-64975-2 : goal.returns-in-63744-to-64975-2
unfolding level_test intervals
returns-in-63744-to-64975-2 c = level_on 0xFDF0 0xFFFD _ tt c.args.c (omega arith) (omega arith) (omega arith) (omega arith)

pub returns-in-63744-to-64975-3 : goal.returns-in-63744-to-64975-3
unfolding level_test intervals
returns-in-63744-to-64975-3 c = level_on 0x10000 0xEFFFF _ tt c.args.c (omega arith) (omega arith) (omega arith) (omega arith)

pub returns-in_default : goal.returns-in_default
unfolding level_test intervals
returns-in_default c = level_on 0xD800 0xF8FF _ tt c.args.c (omega arith) (omega arith) (omega arith) (omega arith)

pub returns-in_default-2 : goal.returns-in_default-2
unfolding level_test intervals
returns-in_default-2 c = level_on 0xFDD0 0xFDEF _ tt c.args.c (omega arith) (omega arith) (omega arith) (omega arith)

pub returns-in_default-3 : goal.returns-in_default-3
unfolding level_test intervals
returns-in_default-3 c = level_on 0xFFFE 0xFFFF _ tt c.args.c (omega arith) (omega arith) (omega arith) (omega arith)

pub returns-in_default-4 : goal.returns-in_default-4
unfolding level_test intervals
returns-in_default-4 c = level_on 0xF0000 0x10FFFF _ tt c.args.c (omega arith) (omega arith) (omega arith) (omega arith)
