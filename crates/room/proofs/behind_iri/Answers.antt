use Rattle.room.proofs.Tests.{behind_iri_list, behind_iri_none}
use Rattle.room.proofs.behind_iri.Goals as goal

pub returns-then-spot : goal.returns-then-spot
returns-then-spot c = behind_iri_list c.args.spot c.if-spot.true

pub returns : goal.returns
returns c = behind_iri_none c.args.spot _ c.if-spot.false c.place_iri.ensures
