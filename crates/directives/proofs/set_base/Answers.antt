use Rattle.directives.proofs.Calling.{base_call, base_token}
use Rattle.directives.proofs.set_base.Goals as goal

pub declare_base-requires : goal.declare_base-requires
declare_base-requires c = base_call _ _ _ c.requires.0 c.requires.1

pub returns : goal.returns
returns c = search base_token
