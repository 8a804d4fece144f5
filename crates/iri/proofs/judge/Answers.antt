use mathlib.Core.Path.{sym, ◌∙◌}
use Rattle.iri.specs.Code.{verdict}
use Rattle.iri.proofs.judge.Goals as goal

pub returns-then-is_letter : goal.returns-then-is_letter
unfolding verdict
returns-then-is_letter c = rw (c.if-first.true, sym c.is_letter.ensures ∙ c.if-is_letter.true)

pub returns-else-is_letter : goal.returns-else-is_letter
unfolding verdict
returns-else-is_letter c = rw (c.if-first.true, sym c.is_letter.ensures ∙ c.if-is_letter.false)

pub returns-then-is_scheme_byte : goal.returns-then-is_scheme_byte
unfolding verdict
returns-then-is_scheme_byte c = rw (c.if-first.false, sym c.is_scheme_byte.ensures ∙ c.if-is_scheme_byte.true)

pub returns : goal.returns
unfolding verdict
returns c = rw (c.if-first.false, sym c.is_scheme_byte.ensures ∙ c.if-is_scheme_byte.false)
