-- `is_iri` meets its contract.
use Rattle.simulation.proofs.Tests.{or_more, or_none}
use Rattle.rdf_literals.proofs.is_iri.Goals as goal

pub returns : goal.returns
returns c = simp (or_more, or_none)
