use borrow.Author.Tests.{ne_eqb}
use Rattle.rdf_literals.proofs.quotes_of.Goals as goal

pub returns-in-29 : goal.returns-in-29
returns-in-29 c = rw c.in-29.is

pub returns-in-30 : goal.returns-in-30
returns-in-30 c = rw c.in-30.is

pub returns-in_default : goal.returns-in_default
returns-in_default c = simp (ne_eqb c.args.kind 30 c.in_default.in_default-own.rest.1, ne_eqb c.args.kind 29 c.in_default.in_default-own.rest.0.1)
