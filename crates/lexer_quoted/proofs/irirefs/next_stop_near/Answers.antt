use mathlib.Core.Path.{refl, sym, ap, ◌∙◌}
use mathlib.Core.Bool.{not}
use native.Mathlib.Omega.{arith}
use lib.ListN.{get_or}
use Rattle.text.proofs.Runs.{next_here, next_more, next_end}
use Rattle.lexer_quoted.specs.Stops.{iri_stop}
use Rattle.lexer_quoted.proofs.Iris.{at_stop, no_stop_low, no_stop_high}
use Rattle.lexer_quoted.proofs.irirefs.next_stop_near.Goals as goal
use Rattle.lexer_quoted.proofs.irirefs.next_stop_near.Goals.{then-b-lt128+else-not-is_iri, else-b-lt128}

pub loop-i-init : goal.loop-i-init
loop-i-init c = (c.requires, (omega arith, refl))

pub returns-then-not-is_iri : goal.returns-then-not-is_iri
returns-then-not-is_iri c = (sym (c.loop-i.invariant.1.1 ∙ next_here iri_stop c.args.s.now c.loop-i.i (omega arith) (at_stop _ _ c.if-b-lt128.true c.is_iri.ensures (ap not c.if-not-is_iri.true))), (c.loop-i.invariant.1.0, omega arith))

pub loop-i-preserved : goal.loop-i-preserved
loop-i-preserved c = (omega arith, (omega (arith, c.loop-i.invariant.1.0), c.loop-i.invariant.1.1 ∙ next_more iri_stop c.args.s.now c.loop-i.i (omega arith) (elim c.if-b-lt128.branch [ then-b-lt128+else-not-is_iri w ↦ no_stop_low (get_or c.args.s.now c.loop-i.i 0) _ w.is_iri.ensures (ap not w.if-not-is_iri.false) | else-b-lt128 w ↦ no_stop_high (get_or c.args.s.now c.loop-i.i 0) w.if-b-lt128.false ])))

pub returns : goal.returns
returns c = (sym (c.loop-i.invariant.1.1 ∙ next_end iri_stop c.args.s.now c.loop-i.i (omega arith)), (c.loop-i.invariant.1.0, c.loop-i.invariant.0))
