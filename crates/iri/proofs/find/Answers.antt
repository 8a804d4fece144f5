use mathlib.Core.Path.{sym, ◌∙◌}
use native.Mathlib.Omega.{arith}
use Rattle.iri.specs.Code.{stop}
use Rattle.iri.proofs.Places.{before_more, before_here, before_end}
use Rattle.iri.proofs.find.Goals as goal

pub returns-then-stops : goal.returns-then-stops
returns-then-stops c = omega (arith, c.loop-i.invariant, before_here (stop c.args.part) c.args.s.now c.loop-i.i (omega arith) (sym c.stops.ensures ∙ c.if-stops.true))

pub loop-i-preserved : goal.loop-i-preserved
loop-i-preserved c = omega (arith, c.loop-i.invariant, before_more (stop c.args.part) c.args.s.now c.loop-i.i (omega arith) (sym c.stops.ensures ∙ c.if-stops.false))

pub returns : goal.returns
returns c = omega (arith, c.loop-i.invariant, before_end (stop c.args.part) c.args.s.now c.loop-i.i (omega arith))
