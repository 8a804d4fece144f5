use borrow.Author.Tests.{ne_eqb}
use Rattle.escape.specs.Escape.{letter_value}
use Rattle.escape.proofs.letter_value.Goals as goal

pub returns-in-116 : goal.returns-in-116
unfolding letter_value
returns-in-116 c = simp c.in-116.is

pub returns-in-98 : goal.returns-in-98
unfolding letter_value
returns-in-98 c = simp c.in-98.is

pub returns-in-110 : goal.returns-in-110
unfolding letter_value
returns-in-110 c = simp c.in-110.is

pub returns-in-114 : goal.returns-in-114
unfolding letter_value
returns-in-114 c = simp c.in-114.is

pub returns-in-102 : goal.returns-in-102
unfolding letter_value
returns-in-102 c = simp c.in-102.is

pub returns-in_default : goal.returns-in_default
unfolding letter_value
returns-in_default c = simp (ne_eqb _ _ c.in_default.in_default-own.rest.0.0.0.0.1, ne_eqb _ _ c.in_default.in_default-own.rest.0.0.0.1, ne_eqb _ _ c.in_default.in_default-own.rest.0.0.1, ne_eqb _ _ c.in_default.in_default-own.rest.0.1, ne_eqb _ _ c.in_default.in_default-own.rest.1)
