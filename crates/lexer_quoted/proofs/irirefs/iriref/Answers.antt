use native.Mathlib.Omega.{arith}
use Prim.Native.Nat.{◌+◌}
use Rattle.lexer_quoted.proofs.Iris.{iri_start, iri_run, iri_end, iri_close, iri_bad, iri_broken, iri_escaped}
use Rattle.lexer_quoted.proofs.irirefs.iriref.Goals as goal

pub loop-i-init : goal.loop-i-init
loop-i-init c = iri_run c.args.s.now 1 _ (iri_start c.args.s.now c.requires.0 c.requires.1) c.next_stop-i.ensures.0

pub returns-in_err-n : goal.returns-in_err-n
returns-in_err-n c = rw c.from_residual.ensures (iri_broken c.args.s.now c.loop-i.i c.loop-i.invariant c.loop-i-test.true c.if-b-eq92.true _ c.uchar.ensures c.in_err-n.was)

pub overflow_add-i-then-b-eq92-2 : goal.overflow_add-i-then-b-eq92-2
overflow_add-i-then-b-eq92-2 c = omega (arith, (iri_escaped c.args.s.now c.loop-i.i c.loop-i.invariant c.loop-i-test.true c.if-b-eq92.true _ c.uchar.ensures _ c.in_ok-n.was).within)

pub next_stop-i-requires-then-b-eq92 : goal.next_stop-i-requires-then-b-eq92
next_stop-i-requires-then-b-eq92 c = (iri_escaped c.args.s.now c.loop-i.i c.loop-i.invariant c.loop-i-test.true c.if-b-eq92.true _ c.uchar.ensures _ c.in_ok-n.was).within

pub loop-i-preserved : goal.loop-i-preserved
loop-i-preserved c = iri_run c.args.s.now (c.loop-i.i + 1 + c.in_ok-n.n) _ (iri_escaped c.args.s.now c.loop-i.i c.loop-i.invariant c.loop-i-test.true c.if-b-eq92.true _ c.uchar.ensures _ c.in_ok-n.was) c.next_stop-i-then-b-eq92.ensures.0

pub returns-then-b-eq62 : goal.returns-then-b-eq62
returns-then-b-eq62 c = iri_close c.args.s.now c.loop-i.i c.loop-i.invariant c.loop-i-test.true c.if-b-eq62.true

pub returns-else-b-eq92 : goal.returns-else-b-eq92
returns-else-b-eq92 c = iri_bad c.args.s.now c.loop-i.i c.loop-i.invariant c.loop-i-test.true c.if-b-eq62.false c.if-b-eq92.false

pub returns : goal.returns
returns c = iri_end c.args.s.now c.loop-i.i c.loop-i.invariant c.loop-i-test.false
