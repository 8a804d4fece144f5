-- `name_level` meets its contract.
use native.Mathlib.Omega.{arith}
use mathlib.Core.Logic.{⊎_elim}
use Rattle.utf8.proofs.Tests.{split}
use Rattle.automaton.specs.Levels.{intervals}
use Rattle.automaton.proofs.Uniform.{level_test, level_on}
use Rattle.characters.proofs.names.name_level.Goals as goal

pub returns-then-c-eq183 : goal.returns-then-c-eq183
unfolding level_test intervals
returns-then-c-eq183 c = level_on 0xB7 0xB7 _ tt c.args.c (omega arith) (omega arith) (omega arith) (omega arith)

pub returns-then-c-lt192 : goal.returns-then-c-lt192
unfolding level_test intervals
returns-then-c-lt192 c = ⊎_elim (λ h. level_on 0x80 0xB6 _ tt c.args.c (omega arith) (omega arith) (omega arith) (omega arith)) (λ h. level_on 0xB8 0xBF _ tt c.args.c (omega arith) (omega arith) (omega (arith, c.if-c-eq183.false)) (omega arith)) (split c.args.c 0xB7)

pub returns-then-c-eq894 : goal.returns-then-c-eq894
unfolding level_test intervals
returns-then-c-eq894 c = level_on 0x37E 0x37E _ tt c.args.c (omega arith) (omega arith) (omega arith) (omega arith)

pub returns-then-c-lt8192 : goal.returns-then-c-lt8192
unfolding level_test intervals
returns-then-c-lt8192 c = ⊎_elim (λ h. level_on 0x370 0x37D _ tt c.args.c (omega arith) (omega arith) (omega arith) (omega arith)) (λ h. level_on 0x37F 0x1FFF _ tt c.args.c (omega arith) (omega arith) (omega (arith, c.if-c-eq894.false)) (omega arith)) (split c.args.c 0x37E)

pub returns-then-c-lt55296 : goal.returns-then-c-lt55296
unfolding level_test intervals
returns-then-c-lt55296 c = level_on 0x3001 0xD7FF _ tt c.args.c (omega arith) (omega arith) (omega arith) (omega arith)
