use mathlib.Core.Path.{refl}
use Rattle.limits.proofs.Errors.{handed_on, numbered}
use native.Mathlib.Omega.{arith}
use Rattle.nesting.proofs.OfElements.{elements_start, elements_small, elements_call, elements_close_call, elements_close, elements_stop, elements_again, elements_less}
use Rattle.nesting.proofs.Aiming.{ready_words}
use Rattle.nesting.proofs.elements.Goals as goal

pub loop-held-init : goal.loop-held-init
loop-held-init c = search elements_start

pub aim-requires : goal.aim-requires
aim-requires c = ready_words _ c.loop-held.held c.loop-held.invariant.ready

pub close_list-requires : goal.close_list-requires
close_list-requires c = elements_close_call _ _ c.requires.0.1 _ _ _ _ _ _ _ _ _ _ c.loop-held.invariant c.aim.ensures c.if-held-eq-CLOSE_PAREN.true c.requires.1

pub returns-then-held-eq-CLOSE_PAREN : goal.returns-then-held-eq-CLOSE_PAREN
returns-then-held-eq-CLOSE_PAREN c = search elements_close

pub overflow_add-cell : goal.overflow_add-cell
overflow_add-cell c = omega (arith, elements_small _ _ c.requires.0.1 _ _ _ _ _ _ _ _ _ _ c.loop-held.invariant c.aim.ensures)

pub node-requires : goal.node-requires
node-requires c = elements_call _ _ c.requires.0.1 _ _ _ _ _ _ _ _ _ _ c.loop-held.invariant c.aim.ensures c.if-held-eq-CLOSE_PAREN.false

pub returns-in_err-node : goal.returns-in_err-node
returns-in_err-node c = rw (handed_on _ _ c.from_residual.ensures) (elements_stop _ _ c.requires.0.1 _ _ _ _ _ _ _ _ _ _ c.loop-held.invariant c.aim.ensures _ _ c.if-held-eq-CLOSE_PAREN.false c.in_err-node.ensures (numbered _))

pub loop-held-smaller : goal.loop-held-smaller
loop-held-smaller c = elements_less _ _ c.requires.0.1 _ _ _ _ _ _ _ _ _ _ c.loop-held.invariant c.aim.ensures _ _ c.if-held-eq-CLOSE_PAREN.false c.in_ok-node.ensures refl

pub loop-held-preserved : goal.loop-held-preserved
loop-held-preserved c = elements_again _ _ c.requires.0.1 _ _ _ _ _ _ _ _ _ _ c.loop-held.invariant c.aim.ensures _ _ c.if-held-eq-CLOSE_PAREN.false c.in_ok-node.ensures refl _ refl
