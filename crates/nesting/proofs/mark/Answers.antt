use mathlib.Core.Path.{refl}
use Rattle.nesting.proofs.Levels.{marked}
use Rattle.nesting.proofs.mark.Goals as goal

pub returns : goal.returns
returns c = marked _ _ _ _ _ c.requires refl refl
