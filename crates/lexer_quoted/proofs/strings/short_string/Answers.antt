use native.Mathlib.Omega.{arith}
use Prim.Native.Nat.{◌+◌}
use Rattle.lexer_quoted.proofs.Quoting.{str_start, str_end, str_close, str_line, str_return, str_plain, str_run, str_broken, str_escaped}
use Rattle.lexer_quoted.proofs.strings.short_string.Goals as goal

pub loop-i-init : goal.loop-i-init
loop-i-init c = str_start c.args.s.now c.args.quote c.args.kind c.requires.2 c.requires.0 c.requires.1 c.requires.3

pub returns-then-b-quote : goal.returns-then-b-quote
returns-then-b-quote c = str_close c.args.s.now c.args.quote c.args.kind c.requires.2 c.loop-i.i c.loop-i.invariant c.loop-i-test.true c.if-b-quote.true

pub returns-then-b-eq10 : goal.returns-then-b-eq10
returns-then-b-eq10 c = str_line c.args.s.now c.args.quote c.args.kind c.requires.2 c.loop-i.i c.loop-i.invariant c.loop-i-test.true c.if-b-eq10.true

pub returns-then-b-eq13 : goal.returns-then-b-eq13
returns-then-b-eq13 c = str_return c.args.s.now c.args.quote c.args.kind c.requires.2 c.loop-i.i c.loop-i.invariant c.loop-i-test.true c.if-b-eq13.true

pub returns-in_err-n : goal.returns-in_err-n
returns-in_err-n c = rw c.from_residual.ensures (str_broken c.args.s.now c.args.quote c.args.kind c.requires.2 c.loop-i.i c.loop-i.invariant c.loop-i-test.true c.if-b-eq92.true _ c.escape.ensures c.in_err-n.was)

pub overflow_add-i-then-b-eq92-2 : goal.overflow_add-i-then-b-eq92-2
overflow_add-i-then-b-eq92-2 c = omega (arith, (str_escaped c.args.s.now c.args.quote c.args.kind c.requires.2 c.loop-i.i c.loop-i.invariant c.loop-i-test.true c.if-b-eq92.true _ c.escape.ensures _ c.in_ok-n.was).within)

pub loop-i-smaller-then-b-eq92 : goal.loop-i-smaller-then-b-eq92
loop-i-smaller-then-b-eq92 c = omega (arith, (str_escaped c.args.s.now c.args.quote c.args.kind c.requires.2 c.loop-i.i c.loop-i.invariant c.loop-i-test.true c.if-b-eq92.true _ c.escape.ensures _ c.in_ok-n.was).within)

pub loop-i-preserved-then-b-eq92 : goal.loop-i-preserved-then-b-eq92
loop-i-preserved-then-b-eq92 c = str_escaped c.args.s.now c.args.quote c.args.kind c.requires.2 c.loop-i.i c.loop-i.invariant c.loop-i-test.true c.if-b-eq92.true _ c.escape.ensures _ c.in_ok-n.was

pub loop-i-smaller : goal.loop-i-smaller
loop-i-smaller c = omega (arith, c.next_of_four-i.ensures.1.0, c.next_of_four-i.ensures.1.1)

pub loop-i-preserved : goal.loop-i-preserved
loop-i-preserved c = str_run c.args.s.now c.args.quote c.args.kind c.requires.2 (c.loop-i.i + 1) c.next_of_four-i.result (omega arith) c.next_of_four-i.ensures.0 (str_plain c.args.s.now c.args.quote c.args.kind c.requires.2 c.loop-i.i c.loop-i.invariant c.loop-i-test.true c.if-b-quote.false c.if-b-eq10.false c.if-b-eq13.false c.if-b-eq92.false)

pub returns : goal.returns
returns c = str_end c.args.s.now c.args.quote c.args.kind c.requires.2 c.loop-i.i c.loop-i.invariant c.loop-i-test.false
