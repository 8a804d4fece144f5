use native.Mathlib.Omega.{arith}
use mathlib.Core.Path.{sym, ◌∙◌}
use Rattle.characters.proofs.Spans.{span_begin, span_more, span_stop, span_end}
use Rattle.characters.proofs.runs.run.Goals as goal

pub loop-i-init : goal.loop-i-init
loop-i-init g c = (omega arith, c.requires, span_begin g.C.Class.set c.args.s.now c.args.at)

pub returns-then-not-has : goal.returns-then-not-has
returns-then-not-has g c = span_stop g.C.Class.set c.args.s.now c.args.at c.loop-i.i c.loop-i.invariant.2 c.loop-i.invariant.0 c.loop-i-test.true (sym c.has.ensures ∙ c.if-not-has.true)

pub loop-i-preserved : goal.loop-i-preserved
loop-i-preserved g c = (omega arith, omega arith, span_more g.C.Class.set c.args.s.now c.args.at c.loop-i.i c.loop-i.invariant.2 (sym c.has.ensures ∙ c.if-not-has.false))

pub returns : goal.returns
returns g c = span_end g.C.Class.set c.args.s.now c.args.at c.loop-i.i c.loop-i.invariant.2 c.loop-i.invariant.0 c.loop-i.invariant.1 c.loop-i-test.false
