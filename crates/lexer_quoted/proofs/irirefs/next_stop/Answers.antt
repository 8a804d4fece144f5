use mathlib.Core.Path.{refl, sym, ◌∙◌}
use native.Mathlib.Omega.{arith}
use Rattle.text.proofs.Runs.{free_run}
use Rattle.lexer_quoted.specs.Stops.{iri_stop}
use Rattle.lexer_quoted.proofs.irirefs.next_stop.Goals as goal

pub loop-i-init : goal.loop-i-init
loop-i-init c = (c.requires, (omega arith, refl))

pub loop-i-preserved : goal.loop-i-preserved
loop-i-preserved c = (omega arith, (omega (arith, c.loop-i.invariant.1.0), c.loop-i.invariant.1.1 ∙ free_run iri_stop c.args.s.now c.loop-i.i 8 (omega arith) (sym c.no_stop_8.ensures ∙ c.if-not-no_stop_8.false)))
