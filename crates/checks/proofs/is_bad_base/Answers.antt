use mathlib.Core.Path.{sym, ◌∙◌}
use native.Mathlib.Omega.{arith}
use Rattle.checks.proofs.Base.{none_lent, long_base, base_not_utf8, base_left}
use Rattle.checks.proofs.is_bad_base.Goals as goal

pub returns-then-base-eq0 : goal.returns-then-base-eq0
returns-then-base-eq0 c = none_lent _ (omega arith)

pub returns-then-base-gt-IRI : goal.returns-then-base-gt-IRI
returns-then-base-gt-IRI c = long_base _ (λ e. omega arith) (omega arith)

pub returns-then-not-is_utf8 : goal.returns-then-not-is_utf8
returns-then-not-is_utf8 c = base_not_utf8 _ (λ e. omega arith) (omega arith) (sym c.is_utf8.ensures ∙ c.if-not-is_utf8.true)

pub returns : goal.returns
returns c = base_left _ (λ e. omega arith) (omega arith) (sym c.is_utf8.ensures ∙ c.if-not-is_utf8.false) _ c.is_base.ensures
