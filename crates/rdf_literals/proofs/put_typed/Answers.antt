use mathlib.Core.Path.{refl}
use Rattle.limits.proofs.Errors.{handed_on, numbered}
use Rattle.rdf_literals.proofs.Adding.{obeys_stop, obeys_does}
use Rattle.rdf_literals.proofs.Whole.{typed_call, typed_pass, typed_deep}
use Rattle.rdf_literals.proofs.put_typed.Goals as goal

pub place_typed-requires : goal.place_typed-requires
place_typed-requires c = typed_call c.args.doc.now c.args.held.now _ _ _ _ _ c.requires

pub returns-in_err-place_typed : goal.returns-in_err-place_typed
returns-in_err-place_typed c = rw (handed_on _ _ c.from_residual.ensures) (obeys_stop c.args.held.now _ _ _ _ _ c.place_typed.auto.work c.place_typed.auto.rows c.place_typed.auto.terms c.place_typed.auto.store _ _ _ c.in_err-place_typed.ensures (numbered _))

pub pass-requires : goal.pass-requires
pass-requires c = typed_pass c.args.doc.now c.args.held.now _ _ _ _ _ c.requires.0.0 c.requires.1 c.place_typed.ensures

pub returns : goal.returns
returns c = obeys_does c.args.held.now _ _ _ _ _ c.place_typed.auto.work c.place_typed.auto.rows c.place_typed.auto.terms c.place_typed.auto.store _ _ _ c.in_ok-place_typed.ensures refl _ c.pass.ensures (typed_deep c.args.doc.now c.args.held.now c.requires.1)
