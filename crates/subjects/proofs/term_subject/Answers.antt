use Rattle.limits.proofs.Errors.{handed_on, numbered}
use mathlib.Core.Path.{refl}
use Rattle.nesting.proofs.Aiming.{ready_words}
use Rattle.subjects.proofs.OfTerms.{term_asked, term_stop, term_ready, term_done}
use Rattle.subjects.proofs.term_subject.Goals as goal

pub aim-requires : goal.aim-requires
aim-requires c = ready_words _ c.args.held.now c.requires.0

pub leaf-requires : goal.leaf-requires
leaf-requires c = let h = term_asked _ _ _ _ _ _ _ c.requires.0 c.requires.1 c.aim.ensures in (h.0, λ _. h.1)

pub returns-in_err-leaf : goal.returns-in_err-leaf
returns-in_err-leaf c = rw (handed_on _ _ c.from_residual.ensures) (term_stop _ _ _ _ _ _ _ c.requires.0 c.requires.1 c.aim.ensures _ _ c.in_err-leaf.ensures.puts (numbered _))

pub aim-requires-2 : goal.aim-requires-2
aim-requires-2 c = ready_words _ _ (term_ready _ _ _ _ _ _ _ c.requires.0 c.requires.1 c.aim.ensures _ _ c.in_ok-leaf.ensures.puts refl)

pub returns : goal.returns
returns c = term_done _ _ _ _ _ _ _ c.requires.0 c.requires.1 c.aim.ensures _ _ _ _ _ _ c.in_ok-leaf.ensures.puts refl _ refl _ c.aim-2.ensures
