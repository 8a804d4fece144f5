use Rattle.limits.proofs.Errors.{handed_on, numbered}
use mathlib.Core.Path.{refl}
use native.Mathlib.Omega.{arith}
use Rattle.nesting.proofs.Aiming.{ready_words}
use Rattle.subjects.proofs.OfLists.{list_asked, list_refused, list_opened, list_entered, list_first, elements_refused, elements_done, list_was_empty, list_had_first}
use Rattle.subjects.proofs.list_subject.Goals as goal

pub aim-requires : goal.aim-requires
aim-requires c = ready_words _ c.args.held.now c.requires.0

pub put_paren-requires : goal.put_paren-requires
put_paren-requires c = list_asked _ _ _ _ _ _ _ c.requires.0 c.requires.1 c.aim.ensures

pub returns-in_err-put_paren : goal.returns-in_err-put_paren
returns-in_err-put_paren c = rw (handed_on _ _ c.from_residual.ensures) (list_refused _ _ _ _ _ _ _ c.requires.0 c.requires.1 c.aim.ensures _ _ _ _ _ _ c.in_err-put_paren.ensures (numbered _))

pub aim-requires-2 : goal.aim-requires-2
aim-requires-2 c = ready_words _ _ (list_opened _ _ _ _ _ _ _ c.requires.0 c.requires.1 c.aim.ensures _ _ _ _ _ _ c.in_ok-put_paren.ensures refl)

pub overflow_add-first : goal.overflow_add-first
overflow_add-first c = omega (arith, list_first _ _ _ _ _ _ _ c.requires.0 c.requires.1 c.aim.ensures _ _ _ _ _ _ c.in_ok-put_paren.ensures refl _ _ refl c.aim-2.ensures)

pub elements-requires : goal.elements-requires
elements-requires c = list_entered _ _ _ _ _ _ _ c.requires.0 c.requires.1 c.aim.ensures _ _ _ _ _ _ c.in_ok-put_paren.ensures refl _ _ refl c.aim-2.ensures

pub returns-in_err-elements : goal.returns-in_err-elements
returns-in_err-elements c = rw (handed_on _ _ c.from_residual-in_err-elements.ensures) (elements_refused _ _ _ _ _ _ _ c.requires.0 c.requires.1 c.aim.ensures _ _ _ _ _ _ c.in_ok-put_paren.ensures refl _ _ refl c.aim-2.ensures _ _ _ _ _ _ c.in_err-elements.ensures (numbered _))

pub aim-requires-then-kind-eq-CLOSE_PAREN : goal.aim-requires-then-kind-eq-CLOSE_PAREN
aim-requires-then-kind-eq-CLOSE_PAREN c = ready_words _ _ (elements_done _ _ _ _ _ _ _ c.requires.0 c.requires.1 c.aim.ensures _ _ _ _ _ _ c.in_ok-put_paren.ensures refl _ _ refl c.aim-2.ensures _ _ _ _ _ _ c.in_ok-elements.ensures refl)

pub returns-then-kind-eq-CLOSE_PAREN : goal.returns-then-kind-eq-CLOSE_PAREN
returns-then-kind-eq-CLOSE_PAREN c = list_was_empty _ _ _ _ _ _ _ c.requires.0 c.requires.1 c.aim.ensures _ _ _ _ _ _ c.in_ok-put_paren.ensures refl _ _ refl c.aim-2.ensures _ _ _ _ _ _ c.in_ok-elements.ensures refl _ refl c.if-kind-eq-CLOSE_PAREN.true _ c.aim-then-kind-eq-CLOSE_PAREN.ensures

pub aim-requires-3 : goal.aim-requires-3
aim-requires-3 c = ready_words _ _ (elements_done _ _ _ _ _ _ _ c.requires.0 c.requires.1 c.aim.ensures _ _ _ _ _ _ c.in_ok-put_paren.ensures refl _ _ refl c.aim-2.ensures _ _ _ _ _ _ c.in_ok-elements.ensures refl)

pub returns : goal.returns
returns c = list_had_first _ _ _ _ _ _ _ c.requires.0 c.requires.1 c.aim.ensures _ _ _ _ _ _ c.in_ok-put_paren.ensures refl _ _ refl c.aim-2.ensures _ _ _ _ _ _ c.in_ok-elements.ensures refl _ refl c.if-kind-eq-CLOSE_PAREN.false _ c.aim-3.ensures
