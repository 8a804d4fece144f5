use mathlib.Core.Path.{refl}
use Rattle.limits.proofs.Errors.{handed_on, numbered}
use Rattle.rdf_literals.proofs.Adding.{obeys_stop, obeys_does}
use Rattle.rdf_literals.proofs.Whole.{tag_call, tag_pass, tag_deep}
use Rattle.rdf_literals.proofs.put_tagged.Goals as goal

pub place_tagged-requires : goal.place_tagged-requires
place_tagged-requires c = tag_call c.args.doc.now c.args.held.now _ _ _ _ _ c.requires

pub returns-in_err-place_tagged : goal.returns-in_err-place_tagged
returns-in_err-place_tagged c = rw (handed_on _ _ c.from_residual.ensures) (obeys_stop c.args.held.now _ _ _ _ _ c.place_tagged.auto.work c.place_tagged.auto.rows c.place_tagged.auto.terms c.place_tagged.auto.store _ _ _ c.in_err-place_tagged.ensures (numbered _))

pub pass-requires : goal.pass-requires
pass-requires c = tag_pass c.args.doc.now c.args.held.now _ _ _ _ _ c.requires.0.0 c.requires.1 c.place_tagged.ensures

pub returns : goal.returns
returns c = obeys_does c.args.held.now _ _ _ _ _ c.place_tagged.auto.work c.place_tagged.auto.rows c.place_tagged.auto.terms c.place_tagged.auto.store _ _ _ c.in_ok-place_tagged.ensures refl _ c.pass.ensures (tag_deep c.args.doc.now c.args.held.now c.requires.1)
