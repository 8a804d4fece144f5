use Rattle.writer.specs.Writing.{byte_form}
use Rattle.writer.proofs.Chains.{both, room_before, room_after}
use Rattle.writer.proofs.bytes.put_string.Goals as goal

pub put_escaped-close-requires : goal.put_escaped-close-requires
unfolding byte_form
put_escaped-close-requires c = room_before _ _ (room_after c.put-open.ensures c.requires)

pub put-requires : goal.put-requires
unfolding byte_form
put-requires c = room_after c.put_escaped-close.ensures (room_after c.put-open.ensures c.requires)

pub returns : goal.returns
unfolding byte_form
returns c = both c.put-open.ensures (both c.put_escaped-close.ensures c.put.ensures)
