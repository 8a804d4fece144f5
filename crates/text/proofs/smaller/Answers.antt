use mathlib.Core.Path.{refl, sym, ◌∙◌}
use native.Mathlib.Omega.{arith}
use Rattle.text.specs.Order.{smaller}
use Rattle.text.proofs.Words.{eight_on}
use Rattle.text.proofs.Order.{smaller_on}
use Rattle.text.proofs.smaller.Goals as goal

pub loop-i-init : goal.loop-i-init
loop-i-init c = (omega arith, refl)

pub eight-requires : goal.eight-requires
eight-requires c = omega (arith, c.min-n.ensures)

pub eight-requires-in-loop-i : goal.eight-requires-in-loop-i
eight-requires-in-loop-i c = omega (arith, c.min-n.ensures)

pub smaller_from-requires : goal.smaller_from-requires
smaller_from-requires c = omega (arith, c.min-n.ensures)

pub returns-then-eight : goal.returns-then-eight
returns-then-eight c = c.smaller_from.ensures ∙ sym c.loop-i.invariant.1

pub loop-i-preserved : goal.loop-i-preserved
loop-i-preserved c = (omega arith, c.loop-i.invariant.1 ∙ eight_on smaller c.args.s.now c.args.t.now (λ k. (c.type_inv.s k).fits) (λ k. (c.type_inv.t k).fits) (smaller_on c.args.s.now c.args.t.now) c.loop-i.i (omega (arith, c.min-n.ensures)) (omega (arith, c.min-n.ensures)) (sym c.eight.ensures ∙ (c.if-eight.false ∙ c.eight-in-loop-i.ensures)))

pub smaller_from-requires-2 : goal.smaller_from-requires-2
smaller_from-requires-2 c = omega (arith, c.min-n.ensures)

pub returns : goal.returns
returns c = c.smaller_from-2.ensures ∙ sym c.loop-i.invariant.1
