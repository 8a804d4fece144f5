use mathlib.Core.Path.{sym, ◌∙◌}
use native.Mathlib.Omega.{arith}
use Rattle.text.proofs.Runs.{free_run}
use Rattle.text.proofs.next_where.Goals as goal

pub loop-i-preserved : goal.loop-i-preserved
loop-i-preserved g c = (omega arith, (omega (arith, c.loop-i.invariant.1.0), λ p a. c.loop-i.invariant.1.1 p a ∙ free_run p c.args.s.now c.loop-i.i g.row.N (omega arith) (sym (c.none_of.ensures p a) ∙ c.if-not-none_of.false)))
