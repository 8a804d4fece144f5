use mathlib.Core.Path.{refl}
use Rattle.nodes.proofs.Moving.{aimed}
use Rattle.nodes.proofs.aim.Goals as goal

pub returns : goal.returns
returns c = aimed _ _ _ _ _ _ c.requires _ refl
