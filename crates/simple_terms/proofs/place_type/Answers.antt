use native.Mathlib.Omega.{arith}
use Rattle.simple_terms.proofs.Writing.{plain_fits, put_iri}
use Rattle.simple_terms.proofs.place_type.Goals as goal

pub place_node-requires : goal.place_node-requires
place_node-requires c = (c.requires.0, plain_fits 1 _ _ _ (omega arith) (omega arith) (omega arith) c.requires.1 (λ e. absurd (omega arith)))

pub returns : goal.returns
returns c = put_iri _ _ _ _ _ _ _ _ _ _ _ c.place_node.ensures
