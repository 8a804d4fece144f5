-- `is_sign` meets its contract.
use mathlib.Core.List.{[], ◌∷◌}
use native.Mathlib.Omega.{arith}
use Rattle.characters.specs.Bytes.{sign}
use Rattle.characters.proofs.Sets.{ranged, keyed}
use Rattle.characters.proofs.bytes.is_sign.Goals as goal

pub returns-in-43 : goal.returns-in-43
returns-in-43 c = keyed sign _ (43 ∷ 45 ∷ []) tt c.args.b c.in-43.is

pub returns-in_default : goal.returns-in_default
returns-in_default c = ranged sign _ (43 ∷ 45 ∷ []) 0 256 tt c.args.b c.in_default.in_default-own.rest.1 (omega arith) (omega arith)
