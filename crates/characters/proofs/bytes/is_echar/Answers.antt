-- `is_echar` meets its contract.
use mathlib.Core.List.{[], ◌∷◌}
use native.Mathlib.Omega.{arith}
use Rattle.characters.specs.Bytes.{echar}
use Rattle.characters.proofs.Sets.{ranged, keyed}
use Rattle.characters.proofs.bytes.is_echar.Goals as goal

pub returns-in-34 : goal.returns-in-34
returns-in-34 c = keyed echar _ (34 ∷ 39 ∷ 92 ∷ 98 ∷ 102 ∷ 110 ∷ 114 ∷ 116 ∷ []) tt c.args.b c.in-34.is

pub returns-in_default : goal.returns-in_default
returns-in_default c = ranged echar _ (34 ∷ 39 ∷ 92 ∷ 98 ∷ 102 ∷ 110 ∷ 114 ∷ 116 ∷ []) 0 256 tt c.args.b c.in_default.in_default-own.rest.1 (omega arith) (omega arith)
