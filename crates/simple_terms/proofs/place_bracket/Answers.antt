use native.Mathlib.Omega.{arith}
use Rattle.simple_terms.proofs.Writing.{plain_fits, put_new}
use Rattle.simple_terms.proofs.place_bracket.Goals as goal

pub place_node-requires : goal.place_node-requires
place_node-requires c = (c.requires, plain_fits 5 _ _ _ (omega arith) (omega arith) (omega arith) (omega arith) (λ e. absurd (omega arith)))

pub returns : goal.returns
returns c = put_new _ _ _ _ _ _ _ _ _ _ _ c.place_node.ensures
