-- `is_directive` meets its contract.
use Rattle.simulation.proofs.Tests.{or_more, or_none}
use Rattle.statements.proofs.is_directive.Goals as goal

pub returns : goal.returns
returns c = simp (or_more, or_none)
