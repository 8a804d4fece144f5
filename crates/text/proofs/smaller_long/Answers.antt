use mathlib.Core.Path.{ap, refl, sym, ◌∙◌}
use native.Mathlib.Omega.{arith}
use Rattle.std.specs.Ordering.{is_lt}
use Rattle.text.specs.Order.{smaller}
use Rattle.text.proofs.Library.{smaller_is}
use Rattle.text.proofs.Words.{eight_on}
use Rattle.text.proofs.Order.{smaller_on}
use Rattle.text.proofs.Over.{rest_all}
use Rattle.text.proofs.smaller_long.Goals as goal

pub loop-i-init : goal.loop-i-init
loop-i-init c = (omega arith, refl)

pub returns-then-eight : goal.returns-then-eight
returns-then-eight c = c.smaller_from.ensures ∙ sym c.loop-i.invariant.1

pub loop-i-preserved : goal.loop-i-preserved
loop-i-preserved c = (omega (arith, c.loop-i-test.true), c.loop-i.invariant.1 ∙ eight_on smaller c.args.s.now c.args.t.now (λ k. (c.type_inv.s k).fits) (λ k. (c.type_inv.t k).fits) (smaller_on c.args.s.now c.args.t.now) c.loop-i.i (omega arith) (omega arith) (sym c.eight.ensures ∙ (c.if-eight.false ∙ c.eight-in-loop-i.ensures)))

pub returns : goal.returns
returns c =
    let told = rw (rest_all c.args.s.now c.loop-i.i, rest_all c.args.t.now c.loop-i.i) at (c.is_lt.ensures ∙ ap is_lt c.cmp.ensures) in
    told ∙ (smaller_is _ _ ∙ sym c.loop-i.invariant.1)
