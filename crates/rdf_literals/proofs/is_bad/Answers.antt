use Rattle.rdf_literals.proofs.Fitting.{bad_here}
use Rattle.rdf_literals.proofs.is_bad.Goals as goal

pub returns : goal.returns
returns c = search bad_here
