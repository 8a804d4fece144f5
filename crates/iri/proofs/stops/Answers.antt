use mathlib.Core.Path.{refl, ap}
use mathlib.Core.Bool.{not}
use Rattle.iri.specs.Code.{stop}
use Rattle.iri.proofs.Schemes.{stop_as}
use Rattle.iri.proofs.stops.Goals as goal

pub returns-in-Authority : goal.returns-in-Authority
unfolding stop
returns-in-Authority c = stop_as c.args.c c.in-Authority.is c.ends_authority.ensures

pub returns-in-Path : goal.returns-in-Path
unfolding stop
returns-in-Path c = stop_as c.args.c c.in-Path.is c.ends_path.ensures

pub returns-in-Query : goal.returns-in-Query
unfolding stop
returns-in-Query c = stop_as c.args.c c.in-Query.is refl

pub returns-in-Scheme : goal.returns-in-Scheme
unfolding stop
returns-in-Scheme c = stop_as c.args.c c.in-Scheme.is (ap not c.is_scheme_byte.ensures)

pub returns-in-Colon : goal.returns-in-Colon
unfolding stop
returns-in-Colon c = stop_as c.args.c c.in-Colon.is refl
