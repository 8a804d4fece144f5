use Rattle.std.specs.Prelude.{unwrap_or}
use Rattle.room.specs.Supply.{number_of}
use Prim.Native.Nat.{◌+◌, ◌-◌}
use native.Mathlib.Omega.{arith}
use Rattle.state.specs.Writes.{node_iri}
use Rattle.room.proofs.Tests.{no_iri, some_iri, name_length}
use Rattle.room.proofs.tally_iri.Goals as goal

pub returns-then-is_supplied : goal.returns-then-is_supplied
returns-then-is_supplied c = λ ts H. no_iri ts (number_of c.args.p) (node_iri c.args.node c.args.work.now c.args.back.now) c.args.t c.is_supplied.result c.is_supplied.ensures c.if-is_supplied.true

pub overflow_add-end : goal.overflow_add-end
overflow_add-end c = omega (arith, name_length c.args.node c.args.work.now c.args.back.now c.undone_length.result c.requires.1.0 c.undone_length.ensures, c.requires.1.0.short)

pub more-requires : goal.more-requires
more-requires c = (record { terms = omega (arith, c.requires.1.1.terms); bytes = omega (arith, c.requires.1.1.bytes) }, (omega (arith, name_length c.args.node c.args.work.now c.args.back.now c.undone_length.result c.requires.1.0 c.undone_length.ensures, c.requires.1.0.short), c.find_iri-n.ensures.1))

pub returns : goal.returns
returns c = λ ts H. some_iri ts (number_of c.args.p) (node_iri c.args.node c.args.work.now c.args.back.now) c.args.t c.more.result c.is_supplied.result (unwrap_or c.find_iri-n.result 0) (c.args.node.end - c.args.node.start + c.undone_length.result) c.is_supplied.ensures c.if-is_supplied.false c.more.ensures (c.find_iri-n.ensures.0 ts H) (name_length c.args.node c.args.work.now c.args.back.now c.undone_length.result c.requires.1.0 c.undone_length.ensures)
