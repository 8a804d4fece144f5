use native.Mathlib.Omega.{arith}
use Rattle.lexer_words.proofs.Parts.{rest_run, rest_end, rest_dot, rest_none, rest_more}
use Rattle.lexer_words.proofs.locals.local_rest.Goals as goal

pub run-i-requires : goal.run-i-requires
run-i-requires c = c.requires.within

pub loop-i-init : goal.loop-i-init
loop-i-init c = rest_run c.args.s.now c.args.at c.run-i.result c.requires c.run-i.ensures

pub loop-i-preserved-then-s-i-eq46 : goal.loop-i-preserved-then-s-i-eq46
loop-i-preserved-then-s-i-eq46 c = rest_dot c.args.s.now c.loop-i.i c.loop-i.end c.loop-i.invariant c.loop-i-test.true c.if-s-i-eq46.true

pub overflow_add-i-else-s-i-eq46 : goal.overflow_add-i-else-s-i-eq46
overflow_add-i-else-s-i-eq46 c = omega (arith, c.local_next.ensures.within _ c.in-Some.is)

pub loop-i-smaller : goal.loop-i-smaller
loop-i-smaller c = omega (arith, c.local_next.ensures.within _ c.in-Some.is)

pub loop-i-preserved : goal.loop-i-preserved
loop-i-preserved c = rest_more c.args.s.now c.loop-i.i c.loop-i.end c.loop-i.invariant c.loop-i-test.true c.if-s-i-eq46.false _ c.local_next.ensures _ c.in-Some.is

pub returns-in_default : goal.returns-in_default
returns-in_default c = rest_none c.args.s.now c.loop-i.i c.loop-i.end c.loop-i.invariant c.loop-i-test.true c.if-s-i-eq46.false _ c.local_next.ensures c.in_default.is

pub returns-after-loop-i : goal.returns-after-loop-i
returns-after-loop-i c = rest_end c.args.s.now c.loop-i.i c.loop-i.end c.loop-i.invariant c.loop-i-test.false
