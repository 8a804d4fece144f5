use native.Mathlib.Omega.{arith}
use Rattle.lexer_words.proofs.Tagging.{sub_end, sub_stop, sub_none, sub_next}
use Rattle.lexer_words.proofs.tags.subtags.Goals as goal

pub loop-end-init : goal.loop-end-init
loop-end-init c = c.requires

pub returns-then-s-end-ne45 : goal.returns-then-s-end-ne45
returns-then-s-end-ne45 c = sub_stop c.args.s.now c.loop-end.end c.loop-end.k c.loop-end.invariant c.loop-end-test.true c.if-s-end-ne45.true

pub returns-then-i-end : goal.returns-then-i-end
returns-then-i-end c = sub_none c.args.s.now c.loop-end.end c.loop-end.k c.loop-end.invariant c.loop-end-test.true c.if-s-end-ne45.false c.run-i.result c.run-i.ensures c.if-i-end.true

pub loop-end-smaller : goal.loop-end-smaller
loop-end-smaller c = omega (arith, c.run-i.ensures.from, c.run-i.ensures.within)

pub loop-end-preserved : goal.loop-end-preserved
loop-end-preserved c = sub_next c.args.s.now c.loop-end.end c.loop-end.k c.loop-end.invariant c.loop-end-test.true c.if-s-end-ne45.false c.run-i.result c.run-i.ensures c.if-i-end.false

pub returns : goal.returns
returns c = sub_end c.args.s.now c.loop-end.end c.loop-end.k c.loop-end.invariant c.loop-end-test.false
