-- `is_tie` meets its contract.
use Rattle.simulation.proofs.Tests.{or_more, or_none}
use Rattle.rdf_literals.proofs.is_tie.Goals as goal

pub returns : goal.returns
returns c = simp (or_more, or_none)
