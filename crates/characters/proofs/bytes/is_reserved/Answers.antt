-- `is_reserved` meets its contract.
use mathlib.Core.List.{[], ◌∷◌}
use native.Mathlib.Omega.{arith}
use Rattle.characters.specs.Bytes.{reserved}
use Rattle.characters.proofs.Sets.{ranged, keyed}
use Rattle.characters.proofs.bytes.is_reserved.Goals as goal

pub returns-in_default : goal.returns-in_default
returns-in_default c = ranged reserved _ (33 ∷ 59 ∷ 61 ∷ 95 ∷ 126 ∷ []) 0 35 tt c.args.b c.in_default.in_default-own.rest.1 (omega arith) (omega arith)

pub returns-in_default-2 : goal.returns-in_default-2
returns-in_default-2 c = ranged reserved _ (33 ∷ 59 ∷ 61 ∷ 95 ∷ 126 ∷ []) 48 15 tt c.args.b c.in_default.in_default-own.rest.1 (omega arith) (omega arith)

pub returns-in_default-3 : goal.returns-in_default-3
returns-in_default-3 c = ranged reserved _ (33 ∷ 59 ∷ 61 ∷ 95 ∷ 126 ∷ []) 65 191 tt c.args.b c.in_default.in_default-own.rest.1 (omega arith) (omega arith)

pub returns-in-33 : goal.returns-in-33
returns-in-33 c = keyed reserved _ (33 ∷ 59 ∷ 61 ∷ 95 ∷ 126 ∷ []) tt c.args.b c.in-33.in-33-own.keys1

pub returns-in-33-2 : goal.returns-in-33-2
returns-in-33-2 c = ranged reserved _ (33 ∷ 59 ∷ 61 ∷ 95 ∷ 126 ∷ []) 35 13 tt c.args.b c.in-33.in_default-own.rest.1 (omega arith) (omega arith)

pub returns-in-33-3 : goal.returns-in-33-3
returns-in-33-3 c = ranged reserved _ (33 ∷ 59 ∷ 61 ∷ 95 ∷ 126 ∷ []) 63 2 tt c.args.b c.in-33.in_default-own.rest.1 (omega arith) (omega arith)
