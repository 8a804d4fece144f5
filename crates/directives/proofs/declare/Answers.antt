use Rattle.directives.proofs.Calling.{namespace_call, namespace_token}
use Rattle.directives.proofs.declare.Goals as goal

pub declare_namespace-requires : goal.declare_namespace-requires
declare_namespace-requires c = namespace_call _ _ _ c.requires.0.0 c.requires.0.1 _ _ c.requires.1

pub returns : goal.returns
returns c = search namespace_token
