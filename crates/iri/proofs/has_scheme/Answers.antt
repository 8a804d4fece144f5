use mathlib.Core.Path.{sym, ◌∙◌}
use native.Mathlib.Omega.{arith}
use Rattle.iri.proofs.Schemes.{no_scheme_empty, no_scheme_letter, no_scheme_end, scheme_there}
use Rattle.iri.proofs.has_scheme.Goals as goal

pub returns-then-s-eq0 : goal.returns-then-s-eq0
returns-then-s-eq0 c = no_scheme_empty c.args.s.now c.if-s-eq0.true

pub returns-then-not-is_letter : goal.returns-then-not-is_letter
returns-then-not-is_letter c = no_scheme_letter c.args.s.now (omega arith) (sym c.is_letter.ensures ∙ c.if-not-is_letter.true)

pub returns-then-s-n : goal.returns-then-s-n
returns-then-s-n c = no_scheme_end c.args.s.now c.find-n.result c.find-n.ensures c.if-s-n.true

pub returns : goal.returns
returns c = scheme_there c.args.s.now c.find-n.result c.find-n.ensures c.if-s-n.false (sym c.is_letter.ensures ∙ c.if-not-is_letter.false)
