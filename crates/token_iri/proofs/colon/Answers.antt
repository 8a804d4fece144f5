use borrow.Author.Tests.{eq-eqb, ne_eqb}
use Rattle.iri.proofs.Places.{before_more, before_here, before_end}
use native.Mathlib.Omega.{arith}
use Rattle.text.specs.Text.{is}
use Rattle.token_iri.proofs.colon.Goals as goal

pub returns-then-s-i-eq58 : goal.returns-then-s-i-eq58
returns-then-s-i-eq58 c = (omega (arith, c.loop-i.invariant.1, before_here (is ":") c.args.s.now c.loop-i.i (omega arith) (eq-eqb _ 58 c.if-s-i-eq58.true)), omega arith)

pub loop-i-preserved : goal.loop-i-preserved
loop-i-preserved c = (omega arith, omega (arith, c.loop-i.invariant.1, before_more (is ":") c.args.s.now c.loop-i.i (omega arith) (ne_eqb _ 58 c.if-s-i-eq58.false)))

pub returns : goal.returns
returns c = (omega (arith, c.loop-i.invariant.1, before_end (is ":") c.args.s.now c.loop-i.i (omega arith)), omega arith)
