use mathlib.Core.Path.{sym}
use native.Mathlib.Omega.{arith}
use lib.Seq.{length-take-le}
use Rattle.simple_terms.specs.Leaves.{datatype_of}
use Rattle.simple_terms.proofs.Writing.{plain_fits, put_typed, typed_as, name_part}
use Rattle.simple_terms.proofs.place_literal.Goals as goal

pub slice_bounds-place_node-end : goal.slice_bounds-place_node-end
slice_bounds-place_node-end c = sym (length-take-le c.datatype_size-n.result c.datatype-name.result (omega (arith, c.datatype_size-n.ensures.1)))

pub place_node-requires : goal.place_node-requires
place_node-requires c = (c.requires.0, plain_fits 3 _ _ _ (omega arith) (omega arith) (omega (arith, c.datatype_size-n.ensures.1, length-take-le c.datatype_size-n.result c.datatype-name.result (omega arith))) c.requires.1 (λ e. absurd (omega arith)))

pub returns : goal.returns
returns c = typed_as _ _ _ _ _ _ _ _ _ _ (datatype_of c.args.kind) (name_part c.args.kind c.datatype-name.result c.datatype_size-n.result c.datatype-name.ensures c.datatype_size-n.ensures.0) (put_typed _ _ _ _ _ _ _ _ _ _ _ c.place_node.ensures)
