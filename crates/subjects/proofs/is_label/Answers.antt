-- `is_label` meets its contract.
use Rattle.simulation.proofs.Tests.{or_more, or_none}
use Rattle.subjects.proofs.is_label.Goals as goal

pub returns : goal.returns
returns c = simp (or_more, or_none)
