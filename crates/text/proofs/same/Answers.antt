use Prim.Native.Nat.{◌+◌, ◌-◌}
use mathlib.Core.Path.{sym, ◌∙◌}
use native.Mathlib.Omega.{arith}
use borrow.Author.Tests.{ne_eqb}
use lib.ListN.{length}
use Rattle.text.proofs.Compare.{same_length}
use Rattle.text.proofs.Library.{same_is}
use Rattle.text.proofs.Words.{four_more, four_not, four_last, eight_more, eight_not, eight_last}
use Rattle.text.proofs.same.Goals as goal
use Rattle.text.proofs.same.Goals.{else-loop-i-test, then-loop-i-test+else-eight+else-i-end-i-gt8}

pub returns-then-n-t : goal.returns-then-n-t
returns-then-n-t c = sym (same_length c.args.s.now c.args.t.now c.if-n-t.true)

pub returns-then-n-lt4 : goal.returns-then-n-lt4
returns-then-n-lt4 c = c.eq.ensures ∙ same_is c.args.s.now c.args.t.now

pub returns-then-four : goal.returns-then-four
returns-then-four c = four_last c.args.s.now c.args.t.now (λ k. (c.type_inv.s k).fits) (λ k. (c.type_inv.t k).fits) c.if-n-t.false 4 (length c.args.s.now - 4) (omega arith) (four_more c.args.s.now c.args.t.now (λ k. (c.type_inv.s k).fits) (λ k. (c.type_inv.t k).fits) 0 (omega arith) (omega (arith, c.if-n-t.false)) (sym c.four.ensures.0 ∙ (c.if-four.true ∙ c.four-then-n-lt8.ensures.0))) (omega arith) _ _ c.four-then-four.ensures.0 c.four-then-four-2.ensures.0

pub returns-else-four : goal.returns-else-four
returns-else-four c = ne_eqb _ _ c.if-four.false ∙ sym (four_not c.args.s.now c.args.t.now 0 (λ e. c.if-four.false (c.four.ensures.0 ∙ (e ∙ sym c.four-then-n-lt8.ensures.0))))

pub returns-then-eight : goal.returns-then-eight
returns-then-eight c = sym (c.loop-i.invariant.1 ∙ eight_not c.args.s.now c.args.t.now c.loop-i.i (λ e. c.if-eight.true (c.eight.ensures ∙ (e ∙ sym c.eight-in-loop-i.ensures))))

pub loop-i-preserved : goal.loop-i-preserved
loop-i-preserved c = (omega arith, c.loop-i.invariant.1 ∙ eight_more c.args.s.now c.args.t.now (λ k. (c.type_inv.s k).fits) (λ k. (c.type_inv.t k).fits) c.loop-i.i (omega arith) (omega (arith, c.if-n-t.false)) (sym c.eight.ensures ∙ (c.if-eight.false ∙ c.eight-in-loop-i.ensures)))

pub returns : goal.returns
returns c =
    let last = eight_last c.args.s.now c.args.t.now (λ k. (c.type_inv.s k).fits) (λ k. (c.type_inv.t k).fits) c.if-n-t.false in
    elim c.loop-i-test.branch [
      | else-loop-i-test w ↦ last c.loop-i.i (length c.args.s.now - 8) (omega arith) c.loop-i.invariant.1 (omega arith) _ _ c.eight-2.ensures c.eight-3.ensures
      | then-loop-i-test+else-eight+else-i-end-i-gt8 w ↦ last (c.loop-i.i + 8) (length c.args.s.now - 8) (omega arith) (c.loop-i.invariant.1 ∙ eight_more c.args.s.now c.args.t.now (λ k. (c.type_inv.s k).fits) (λ k. (c.type_inv.t k).fits) c.loop-i.i (omega arith) (omega (arith, c.if-n-t.false)) (sym w.eight.ensures ∙ (w.if-eight.false ∙ w.eight-in-loop-i.ensures))) (omega arith) _ _ c.eight-2.ensures c.eight-3.ensures
    ]
