use Rattle.room.proofs.Tests.{before_iri_first, before_iri_later, before_iri_none}
use Rattle.room.proofs.before_iri.Goals as goal

pub returns-then-spot-eq0 : goal.returns-then-spot-eq0
returns-then-spot-eq0 c = before_iri_first c.args.spot _ c.if-spot.true c.if-spot-eq0.true c.place_iri.ensures

pub returns-then-spot : goal.returns-then-spot
returns-then-spot c = before_iri_later c.args.spot c.if-spot.true c.if-spot-eq0.false

pub returns : goal.returns
returns c = before_iri_none c.args.spot c.if-spot.false
