use mathlib.Core.Path.{refl}
use Rattle.limits.proofs.Errors.{numbered}
use Rattle.rdf_literals.proofs.Adding.{puts_back, puts_adds}
use Rattle.rdf_literals.proofs.Fitting.{open_asks, open_puts}
use Rattle.rdf_literals.proofs.put_place.Goals as goal

pub open-requires : goal.open-requires
open-requires c = open_asks _ _ _ _ _ c.spot_at-spot.ensures c.requires

pub returns-in-Err : goal.returns-in-Err
returns-in-Err c = puts_back c.args.held.now _ _ _ _ _ c.open.auto.work c.open.auto.rows c.open.auto.terms c.open.auto.store _ _ (open_puts _ _ _ _ _ _ _ _ _ c.spot_at-spot.ensures c.in-Err.ensures) (numbered _) _ c.requires.0

pub returns : goal.returns
returns c = puts_adds c.args.held.now _ _ _ _ _ c.open.auto.work c.open.auto.rows c.open.auto.terms c.open.auto.store _ _ (open_puts _ _ _ _ _ _ _ _ _ c.spot_at-spot.ensures c.in_default.ensures) refl _
