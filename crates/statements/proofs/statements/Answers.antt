use mathlib.Core.Path.{refl}
use Rattle.limits.proofs.Errors.{handed_on, numbered}
use Rattle.statements.proofs.OfDocuments.{some_start, some_end, some_stop, some_again, some_less}
use Rattle.statements.proofs.statements.Goals as goal

pub loop-held-init : goal.loop-held-init
loop-held-init c = some_start _ _ _ c.requires.0

pub one_statement-requires : goal.one_statement-requires
one_statement-requires c = ((c.loop-held.invariant.ready, c.requires.1), c.loop-held-test.true)

pub returns-in_err-one_statement : goal.returns-in_err-one_statement
returns-in_err-one_statement c = rw (handed_on _ _ c.from_residual.ensures) (some_stop _ _ _ _ c.loop-held.invariant _ _ c.in_err-one_statement.ensures (numbered _))

pub loop-held-smaller : goal.loop-held-smaller
loop-held-smaller c = some_less _ _ _ _ c.loop-held.invariant _ _ c.in_ok-one_statement.ensures refl

pub loop-held-preserved : goal.loop-held-preserved
loop-held-preserved c = some_again _ _ _ _ c.loop-held.invariant _ _ c.in_ok-one_statement.ensures refl

pub returns : goal.returns
returns c = some_end _ _ _ _ c.loop-held.invariant c.loop-held-test.false
