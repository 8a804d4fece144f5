use native.Mathlib.Omega.{arith}
use Rattle.lexer_words.proofs.Running.{scan_run, scan_dot, scan_name, run_stop, run_end}
use Rattle.lexer_words.proofs.names.name_run.Goals as goal

pub loop-i-init : goal.loop-i-init
loop-i-init c = scan_run c.args.s.now c.args.at c.run-i.result c.requires c.run-i.ensures

pub loop-i-preserved-then-b-eq46 : goal.loop-i-preserved-then-b-eq46
loop-i-preserved-then-b-eq46 c = scan_dot c.args.s.now c.args.at c.loop-i.i c.loop-i.invariant c.loop-i-test.true c.if-b-eq46.true

pub returns-in_default : goal.returns-in_default
returns-in_default c = run_stop c.args.s.now c.args.at c.loop-i.i c.loop-i.invariant _ c.char_at.ensures c.loop-i-test.true c.if-b-eq46.false c.in_default.is

pub overflow_add-i-else-b-eq46 : goal.overflow_add-i-else-b-eq46
overflow_add-i-else-b-eq46 c = omega (arith, c.char_at.ensures.within _ c.in-Some.is)

pub loop-i-smaller : goal.loop-i-smaller
loop-i-smaller c = omega (arith, c.char_at.ensures.within _ c.in-Some.is)

pub loop-i-preserved : goal.loop-i-preserved
loop-i-preserved c = scan_name c.args.s.now c.args.at c.loop-i.i c.loop-i.invariant _ c.char_at.ensures _ c.in-Some.is

pub returns : goal.returns
returns c = run_end c.args.s.now c.args.at c.loop-i.i c.loop-i.invariant c.loop-i-test.false
