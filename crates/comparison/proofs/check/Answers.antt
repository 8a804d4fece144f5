use mathlib.Core.Path.{refl, sym, ◌∙◌}
use Rattle.table.specs.Usable.{for_long_form}
use Rattle.usable.specs.Lent.{slices_of}
use Rattle.usable.proofs.Facts.{usable_fits}
use Rattle.comparison.specs.Code.{refusal}
use Rattle.comparison.proofs.check.Goals as goal

pub returns-then-not-is_usable : goal.returns-then-not-is_usable
unfolding refusal
returns-then-not-is_usable c = (rw (sym c.is_usable.ensures ∙ c.if-not-is_usable.true), refl)

pub returns-then-not-is_usable-2 : goal.returns-then-not-is_usable-2
unfolding refusal
returns-then-not-is_usable-2 c = (rw (sym c.is_usable.ensures ∙ c.if-not-is_usable.false, sym c.is_usable-2.ensures ∙ c.if-not-is_usable-2.true), refl)

pub is_legal-requires : goal.is_legal-requires
is_legal-requires c = ((usable_fits for_long_form (slices_of c.args.left.now) (sym c.is_usable.ensures ∙ c.if-not-is_usable.false)).terms, (usable_fits for_long_form (slices_of c.args.right.now) (sym c.is_usable-2.ensures ∙ c.if-not-is_usable-2.false)).terms)

pub returns-then-not-is_legal : goal.returns-then-not-is_legal
unfolding refusal
returns-then-not-is_legal c = (rw (sym c.is_usable.ensures ∙ c.if-not-is_usable.false, sym c.is_usable-2.ensures ∙ c.if-not-is_usable-2.false, sym c.is_legal.ensures.0 ∙ c.if-not-is_legal.true), c.is_legal.ensures.1)

pub returns : goal.returns
unfolding refusal
returns c = (rw (sym c.is_usable.ensures ∙ c.if-not-is_usable.false, sym c.is_usable-2.ensures ∙ c.if-not-is_usable-2.false, sym c.is_legal.ensures.0 ∙ c.if-not-is_legal.false), c.is_legal.ensures.1)
