-- `is_string` meets its contract.
use Rattle.simulation.proofs.Tests.{or_more, or_none}
use Rattle.nodes.proofs.is_string.Goals as goal

pub returns : goal.returns
returns c = simp (or_more, or_none)
