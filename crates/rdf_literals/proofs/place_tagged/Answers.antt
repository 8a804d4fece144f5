use mathlib.Core.Path.{refl}
use Rattle.rdf_literals.proofs.Fitting.{tag_asks, tag_puts}
use Rattle.rdf_literals.proofs.place_tagged.Goals as goal

pub place-requires : goal.place-requires
place-requires c = tag_asks _ _ _ _ _ _ _ _ _ _ _ _ _ refl c.inside-text.ensures refl refl c.requires.0

pub returns : goal.returns
returns c = tag_puts _ _ _ _ _ _ _ _ _ _ _ _ _ refl c.inside-text.ensures refl refl _ _ _ _ c.requires.1.1 c.place.ensures
