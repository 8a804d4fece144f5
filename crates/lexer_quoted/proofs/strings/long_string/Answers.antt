use native.Mathlib.Omega.{arith}
use Prim.Native.Nat.{◌+◌}
use Rattle.lexer_quoted.proofs.Quoting.{long_begin, long_end, long_close, long_quote, long_plain, long_run, long_broken, long_escaped}
use Rattle.lexer_quoted.proofs.strings.long_string.Goals as goal

pub loop-i-init : goal.loop-i-init
loop-i-init c = (omega arith, long_begin c.args.s.now c.args.quote c.args.kind c.requires.2 c.requires.0 c.requires.1 c.requires.3)

pub returns-then-run-eq2 : goal.returns-then-run-eq2
returns-then-run-eq2 c = long_close c.args.s.now c.args.quote c.args.kind c.requires.2 c.loop-i.i c.loop-i.run c.loop-i.invariant.1 c.loop-i-test.true c.if-b-quote.true c.if-run-eq2.true

pub loop-i-preserved-then-b-quote : goal.loop-i-preserved-then-b-quote
loop-i-preserved-then-b-quote c = (omega arith, long_quote c.args.s.now c.args.quote c.args.kind c.requires.2 c.loop-i.i c.loop-i.run c.loop-i.invariant.1 c.loop-i-test.true c.if-b-quote.true c.if-run-eq2.false)

pub returns-in_err-n : goal.returns-in_err-n
returns-in_err-n c = rw c.from_residual.ensures (long_broken c.args.s.now c.args.quote c.args.kind c.requires.2 c.loop-i.i c.loop-i.run c.loop-i.invariant.1 c.loop-i-test.true c.if-b-eq92.true _ c.escape.ensures c.in_err-n.was)

pub overflow_add-i-then-b-eq92-3 : goal.overflow_add-i-then-b-eq92-3
overflow_add-i-then-b-eq92-3 c = omega (arith, (long_escaped c.args.s.now c.args.quote c.args.kind c.requires.2 c.loop-i.i c.loop-i.run c.loop-i.invariant.1 c.loop-i-test.true c.if-b-eq92.true _ c.escape.ensures _ c.in_ok-n.was).within)

pub loop-i-smaller-then-b-eq92 : goal.loop-i-smaller-then-b-eq92
loop-i-smaller-then-b-eq92 c = omega (arith, (long_escaped c.args.s.now c.args.quote c.args.kind c.requires.2 c.loop-i.i c.loop-i.run c.loop-i.invariant.1 c.loop-i-test.true c.if-b-eq92.true _ c.escape.ensures _ c.in_ok-n.was).within)

pub loop-i-preserved-then-b-eq92 : goal.loop-i-preserved-then-b-eq92
loop-i-preserved-then-b-eq92 c = (omega arith, long_escaped c.args.s.now c.args.quote c.args.kind c.requires.2 c.loop-i.i c.loop-i.run c.loop-i.invariant.1 c.loop-i-test.true c.if-b-eq92.true _ c.escape.ensures _ c.in_ok-n.was)

pub loop-i-smaller : goal.loop-i-smaller
loop-i-smaller c = omega (arith, c.next_of_four-i.ensures.1.0, c.next_of_four-i.ensures.1.1)

pub loop-i-preserved : goal.loop-i-preserved
loop-i-preserved c = (omega arith, long_run c.args.s.now c.args.quote c.args.kind c.requires.2 (c.loop-i.i + 1) c.next_of_four-i.result (omega arith) c.next_of_four-i.ensures.0 (long_plain c.args.s.now c.args.quote c.args.kind c.requires.2 c.loop-i.i c.loop-i.run c.loop-i.invariant.1 c.loop-i-test.true c.if-b-quote.false c.if-b-eq92.false))

pub returns : goal.returns
returns c = long_end c.args.s.now c.args.quote c.args.kind c.requires.2 c.loop-i.i c.loop-i.run c.loop-i.invariant.1 c.loop-i-test.false
