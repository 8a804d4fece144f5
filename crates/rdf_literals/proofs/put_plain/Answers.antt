use mathlib.Core.Path.{refl}
use Rattle.limits.proofs.Errors.{numbered}
use Rattle.rdf_literals.proofs.Adding.{puts_back, puts_adds}
use Rattle.rdf_literals.proofs.put_plain.Goals as goal

pub returns-in-Err : goal.returns-in-Err
returns-in-Err c = puts_back c.args.held.now _ _ _ _ _ c.place_plain.auto.work c.place_plain.auto.rows c.place_plain.auto.terms c.place_plain.auto.store _ _ c.in-Err.ensures (numbered _) _ c.requires.0

pub returns : goal.returns
returns c = puts_adds c.args.held.now _ _ _ _ _ c.place_plain.auto.work c.place_plain.auto.rows c.place_plain.auto.terms c.place_plain.auto.store _ _ c.in_default.ensures refl _
