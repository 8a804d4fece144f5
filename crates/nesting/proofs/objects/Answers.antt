use mathlib.Core.Path.{refl}
use Rattle.limits.proofs.Errors.{handed_on, numbered}
use native.Mathlib.Omega.{arith}
use Rattle.token.specs.Kind.{kind_code, comma}
use Rattle.nesting.proofs.OfObjects.{objects_start, objects_ready, objects_stop, objects_end, objects_again, objects_less, objects_more_ready}
use Rattle.nesting.proofs.Aiming.{ready_words, pass_call}
use Rattle.nesting.proofs.objects.Goals as goal

pub loop-held-init : goal.loop-held-init
loop-held-init c = search objects_start

pub aim-requires : goal.aim-requires
aim-requires c = ready_words _ c.loop-held.held c.loop-held.invariant.ready

pub node-requires : goal.node-requires
node-requires c = objects_ready _ _ _ _ _ _ _ _ _ _ c.loop-held.invariant c.aim.ensures c.requires.0.1.0 c.requires.0.1.1 c.requires.1.0 c.requires.1.1

pub returns-in_err-node : goal.returns-in_err-node
returns-in_err-node c = rw (handed_on _ _ c.from_residual.ensures) (objects_stop _ _ _ _ _ _ _ _ _ _ c.loop-held.invariant c.aim.ensures _ _ c.requires.1.0 c.requires.1.1 c.in_err-node.ensures (numbered _))

pub returns-then-held-ne-COMMA : goal.returns-then-held-ne-COMMA
returns-then-held-ne-COMMA c = objects_end _ _ _ _ _ _ _ _ _ _ c.loop-held.invariant c.aim.ensures _ _ c.requires.1.0 c.requires.1.1 c.in_ok-node.ensures refl c.if-held-ne-COMMA.true

pub pass-requires : goal.pass-requires
pass-requires c = pass_call _ _ (kind_code comma) (objects_more_ready _ _ _ _ _ _ _ _ _ _ c.loop-held.invariant c.aim.ensures _ _ c.requires.1.0 c.requires.1.1 c.in_ok-node.ensures refl) c.if-held-ne-COMMA.false (λ h. omega arith) (λ h. omega arith)

pub loop-held-smaller : goal.loop-held-smaller
loop-held-smaller c = objects_less _ _ _ _ _ _ _ _ _ _ c.loop-held.invariant c.aim.ensures _ _ _ _ _ _ _ c.requires.1.0 c.requires.1.1 c.in_ok-node.ensures refl c.if-held-ne-COMMA.false c.pass.ensures

pub loop-held-preserved : goal.loop-held-preserved
loop-held-preserved c = objects_again _ _ _ _ _ _ _ _ _ _ c.loop-held.invariant c.aim.ensures _ _ _ _ _ _ _ c.requires.1.0 c.requires.1.1 c.in_ok-node.ensures refl c.if-held-ne-COMMA.false c.pass.ensures
