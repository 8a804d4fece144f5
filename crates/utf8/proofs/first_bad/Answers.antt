use native.Mathlib.Omega.{arith}
use mathlib.Core.Path.{refl, sym, ◌∙◌}
use Rattle.utf8.specs.Utf8.{first_bad}
use Rattle.utf8.proofs.Decoding.{bad_on, bad_run, bad_here, bad_none}
use Rattle.utf8.proofs.first_bad.Goals as goal

pub loop-i-init : goal.loop-i-init
unfolding first_bad
loop-i-init c = (omega arith, refl)

pub loop-i-smaller-then-s-i-lt128 : goal.loop-i-smaller-then-s-i-lt128
loop-i-smaller-then-s-i-lt128 c = omega (arith, c.next_high-i.ensures.1.0, c.next_high-i.ensures.1.1)

pub loop-i-preserved-then-s-i-lt128 : goal.loop-i-preserved-then-s-i-lt128
loop-i-preserved-then-s-i-lt128 c = (c.next_high-i.ensures.1.1, bad_run c.args.s.now c.loop-i.i c.next_high-i.result c.loop-i-test.true c.if-s-i-lt128.true c.next_high-i.ensures.0 c.loop-i.invariant.1)

pub returns-then-n-eq0 : goal.returns-then-n-eq0
returns-then-n-eq0 c = sym (c.loop-i.invariant.1 ∙ bad_here c.args.s.now c.loop-i.i c.loop-i-test.true (sym c.sequence_size-n.ensures ∙ c.if-n-eq0.true))

pub overflow_add-i-else-s-i-lt128 : goal.overflow_add-i-else-s-i-lt128
overflow_add-i-else-s-i-lt128 c = omega (arith, (bad_on c.args.s.now c.loop-i.i c.sequence_size-n.result c.sequence_size-n.ensures c.if-n-eq0.false).0)

pub loop-i-smaller : goal.loop-i-smaller
loop-i-smaller c = omega (arith, (bad_on c.args.s.now c.loop-i.i c.sequence_size-n.result c.sequence_size-n.ensures c.if-n-eq0.false).0)

pub loop-i-preserved : goal.loop-i-preserved
loop-i-preserved c = ((bad_on c.args.s.now c.loop-i.i c.sequence_size-n.result c.sequence_size-n.ensures c.if-n-eq0.false).0, c.loop-i.invariant.1 ∙ (bad_on c.args.s.now c.loop-i.i c.sequence_size-n.result c.sequence_size-n.ensures c.if-n-eq0.false).1)

pub returns : goal.returns
returns c = sym (c.loop-i.invariant.1 ∙ bad_none c.args.s.now c.loop-i.i c.loop-i-test.false)
