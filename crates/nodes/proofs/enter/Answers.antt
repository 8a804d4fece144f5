use Rattle.nodes.proofs.Moving.{passed_enter}
use Rattle.nodes.proofs.enter.Goals as goal

pub returns : goal.returns
returns c = search passed_enter
