use Rattle.std.proofs.Common.{refl}
use Rattle.terms.specs.Code.{fourth}
use Rattle.terms.proofs.fourth_word.Goals as goal

pub returns-in-Iri : goal.returns-in-Iri
unfolding fourth
returns-in-Iri c = rw c.in-Iri.is refl

pub returns-in-Blank : goal.returns-in-Blank
unfolding fourth
returns-in-Blank c = rw c.in-Blank.is refl

pub returns-in-Literal : goal.returns-in-Literal
unfolding fourth
returns-in-Literal c = rw c.in-Literal.is refl

pub returns-in-Tagged : goal.returns-in-Tagged
unfolding fourth
returns-in-Tagged c = rw c.in-Tagged.is refl
