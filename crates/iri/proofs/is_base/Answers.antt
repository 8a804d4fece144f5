use mathlib.Core.Path.{ap, sym, ◌∙◌}
use mathlib.Core.Bool.{not}
use Rattle.iri.proofs.is_base.Goals as goal

pub returns-then-has_scheme : goal.returns-then-has_scheme
returns-then-has_scheme c = ap not c.holds_forbidden.ensures ∙ rw (sym c.has_scheme.ensures ∙ c.if-has_scheme.true)

pub returns : goal.returns
returns c = rw (sym c.has_scheme.ensures ∙ c.if-has_scheme.false)
