use Rattle.nodes.proofs.Moving.{passed}
use Rattle.nodes.proofs.pass.Goals as goal

pub returns : goal.returns
returns c = search passed
