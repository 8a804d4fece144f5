use Rattle.simple_terms.proofs.Leaving.{deeper_there, passed_deeper}
use Rattle.simple_terms.proofs.deepen.Goals as goal

pub pass-requires : goal.pass-requires
pass-requires c = deeper_there _ _ _ c.requires.1.0 c.requires.0.0 c.requires.0.1

pub returns : goal.returns
returns c = passed_deeper _ _ _ c.requires.1.0 _ c.pass.ensures
