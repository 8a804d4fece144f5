use mathlib.Core.Path.{sym, ◌∙◌}
use native.Mathlib.Omega.{arith}
use Rattle.text.proofs.Compare.{some_here, some_further, some_nowhere}
use Rattle.iri.specs.Iri.{forbidden}
use Rattle.iri.proofs.holds_forbidden.Goals as goal

pub returns-then-is_forbidden : goal.returns-then-is_forbidden
returns-then-is_forbidden c = sym (c.loop-c.invariant ∙ some_here forbidden c.args.s.now c.loop-c.c-index (omega arith) (sym c.is_forbidden.ensures ∙ c.if-is_forbidden.true))

pub loop-c-preserved : goal.loop-c-preserved
loop-c-preserved c = c.loop-c.invariant ∙ some_further forbidden c.args.s.now c.loop-c.c-index (omega arith) (sym c.is_forbidden.ensures ∙ c.if-is_forbidden.false)

pub returns : goal.returns
returns c = sym (c.loop-c.invariant ∙ some_nowhere forbidden c.args.s.now c.loop-c.c-index (omega arith))
