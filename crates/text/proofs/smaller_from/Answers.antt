use mathlib.Core.Path.{refl, sym, ◌∙◌}
use native.Mathlib.Omega.{arith}
use Rattle.text.proofs.Order.{smaller_past, smaller_here, greater_here, smaller_more, smaller_end}
use Rattle.text.proofs.smaller_from.Goals as goal

pub loop-i-init : goal.loop-i-init
loop-i-init c = (c.requires, refl)

pub returns-then-t-i : goal.returns-then-t-i
returns-then-t-i c = sym (c.loop-i.invariant.1 ∙ smaller_past _ _ _ c.loop-i-test.true c.if-t-i.true)

pub returns-then-s-i : goal.returns-then-s-i
returns-then-s-i c = sym (c.loop-i.invariant.1 ∙ smaller_here _ _ _ c.loop-i-test.true c.if-t-i.false c.if-s-i.true)

pub returns-then-t-i-2 : goal.returns-then-t-i-2
returns-then-t-i-2 c = sym (c.loop-i.invariant.1 ∙ greater_here _ _ _ c.loop-i-test.true c.if-t-i.false c.if-t-i-2.true)

pub loop-i-preserved : goal.loop-i-preserved
loop-i-preserved c = (omega arith, c.loop-i.invariant.1 ∙ smaller_more _ _ _ c.loop-i-test.true c.if-t-i.false c.if-s-i.false c.if-t-i-2.false)

pub returns : goal.returns
returns c = sym (c.loop-i.invariant.1 ∙ smaller_end _ _ _ c.loop-i-test.false)
