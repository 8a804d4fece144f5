-- `has_escapes` meets its contract.
use Rattle.simulation.proofs.Tests.{or_more, or_none}
use Rattle.simulation.proofs.has_escapes.Goals as goal

pub returns : goal.returns
returns c = simp (or_more, or_none)
