use mathlib.Core.Path.{refl}
use Rattle.rdf_literals.proofs.Fitting.{plain_asks, plain_puts}
use Rattle.rdf_literals.proofs.place_plain.Goals as goal

pub place-requires : goal.place-requires
place-requires c = plain_asks _ _ _ _ _ _ _ _ _ _ refl c.inside-text.ensures c.spot_at-spot.ensures c.requires

pub returns : goal.returns
returns c = search plain_puts
