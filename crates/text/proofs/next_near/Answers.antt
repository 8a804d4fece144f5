use mathlib.Core.Path.{sym, ◌∙◌}
use native.Mathlib.Omega.{arith}
use Rattle.text.proofs.Runs.{next_here, next_more, next_end}
use Rattle.text.proofs.next_near.Goals as goal

pub returns-then-test-clause-next : goal.returns-then-test-clause-next
returns-then-test-clause-next g c = λ p a. sym (c.loop-i.invariant.1.1 p a ∙ next_here p c.args.s.now c.loop-i.i (omega arith) (sym (a _ _ c.test.ensures) ∙ c.if-test.true))

pub loop-i-preserved : goal.loop-i-preserved
loop-i-preserved g c = (omega arith, (omega (arith, c.loop-i.invariant.1.0), λ p a. c.loop-i.invariant.1.1 p a ∙ next_more p c.args.s.now c.loop-i.i (omega arith) (sym (a _ _ c.test.ensures) ∙ c.if-test.false)))

pub returns-clause-next : goal.returns-clause-next
returns-clause-next g c = λ p a. sym (c.loop-i.invariant.1.1 p a ∙ (next_end p c.args.s.now c.loop-i.i (omega arith) ∙ omega (arith, c.loop-i.invariant.0)))
