use Rattle.directives.proofs.Calling.{prefix_there}
use Rattle.directives.proofs.prefix_length.Goals as goal

pub returns : goal.returns
returns c = search prefix_there
