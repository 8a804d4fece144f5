-- `is_exponent` meets its contract.
use mathlib.Core.List.{[], ◌∷◌}
use native.Mathlib.Omega.{arith}
use Rattle.characters.specs.Bytes.{exponent}
use Rattle.characters.proofs.Sets.{ranged, keyed}
use Rattle.characters.proofs.bytes.is_exponent.Goals as goal

pub returns-in-69 : goal.returns-in-69
returns-in-69 c = keyed exponent _ (69 ∷ 101 ∷ []) tt c.args.b c.in-69.is

pub returns-in_default : goal.returns-in_default
returns-in_default c = ranged exponent _ (69 ∷ 101 ∷ []) 0 256 tt c.args.b c.in_default.in_default-own.rest.1 (omega arith) (omega arith)
