use Rattle.simple_terms.proofs.Writing.{spot_fits, spot_put}
use Rattle.simple_terms.proofs.place_node.Goals as goal

pub place-requires : goal.place-requires
place-requires c = (c.requires.0.holds, (spot_fits c.args.st.now _ c.spot_here-spot.ensures c.requires.0.fits, c.requires.1))

pub returns : goal.returns
returns c = spot_put c.args.st.now _ c.spot_here-spot.ensures _ _ _ _ _ _ _ _ _ _ c.place.ensures
