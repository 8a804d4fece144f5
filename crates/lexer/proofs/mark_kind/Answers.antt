-- `mark_kind` meets its contract.
use borrow.Author.Tests.{ne_eqb}
use Rattle.lexer.proofs.mark_kind.Goals as goal

pub returns-in-44 : goal.returns-in-44
returns-in-44 c = rw c.in-44.is

pub returns-in-59 : goal.returns-in-59
returns-in-59 c = rw c.in-59.is

pub returns-in-91 : goal.returns-in-91
returns-in-91 c = rw c.in-91.is

pub returns-in-93 : goal.returns-in-93
returns-in-93 c = rw c.in-93.is

pub returns-in-40 : goal.returns-in-40
returns-in-40 c = rw c.in-40.is

pub returns-in-41 : goal.returns-in-41
returns-in-41 c = rw c.in-41.is

pub returns-in-123 : goal.returns-in-123
returns-in-123 c = rw c.in-123.is

pub returns-in-125 : goal.returns-in-125
returns-in-125 c = rw c.in-125.is

pub returns-in_default : goal.returns-in_default
returns-in_default c = simp (ne_eqb c.args.b 125 c.in_default.in_default-own.rest.1, ne_eqb c.args.b 123 c.in_default.in_default-own.rest.0.1, ne_eqb c.args.b 41 c.in_default.in_default-own.rest.0.0.1, ne_eqb c.args.b 40 c.in_default.in_default-own.rest.0.0.0.1, ne_eqb c.args.b 93 c.in_default.in_default-own.rest.0.0.0.0.1, ne_eqb c.args.b 91 c.in_default.in_default-own.rest.0.0.0.0.0.1, ne_eqb c.args.b 59 c.in_default.in_default-own.rest.0.0.0.0.0.0.1, ne_eqb c.args.b 44 c.in_default.in_default-own.rest.0.0.0.0.0.0.0.1)
