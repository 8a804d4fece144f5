use native.Mathlib.Omega.{arith}
use Rattle.simple_terms.proofs.Writing.{label_fits, put_behind}
use Rattle.simple_terms.proofs.place_label.Goals as goal

pub place_node-requires : goal.place_node-requires
place_node-requires c = (c.requires.0, label_fits _ _ c.args.token.now (omega arith) c.requires.1.0 c.requires.1.1)

pub returns : goal.returns
returns c = put_behind _ _ _ _ _ _ _ _ _ _ c.args.token.now c.place_node.ensures
