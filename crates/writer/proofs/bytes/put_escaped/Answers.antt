use native.Mathlib.Omega.{arith}
use Rattle.writer.specs.Writing.{byte_form}
use Rattle.writer.proofs.Escapes.{escaped_none, room_next, wrote_next}
use Rattle.writer.proofs.bytes.put_escaped.Goals as goal

pub loop-c-init : goal.loop-c-init
loop-c-init c = escaped_none (byte_form c.args.rule) c.args.at c.args.s.now c.args.out.now

pub put_byte-end-requires : goal.put_byte-end-requires
put_byte-end-requires c = room_next (byte_form c.args.rule) c.args.s.now c.loop-c.c-index (omega arith) c.loop-c.invariant c.requires

pub loop-c-preserved : goal.loop-c-preserved
loop-c-preserved c = wrote_next (byte_form c.args.rule) c.args.s.now c.loop-c.c-index (omega arith) c.loop-c.invariant c.put_byte-end.ensures
