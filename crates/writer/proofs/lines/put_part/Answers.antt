use Rattle.writer.proofs.Chains.{both, room_before, room_after}
use Rattle.writer.proofs.lines.put_part.Goals as goal

pub put_term-end-requires : goal.put_term-end-requires
put_term-end-requires c = (c.requires.0, room_before _ _ c.requires.1)

pub put-requires : goal.put-requires
put-requires c = room_after c.put_term-end.ensures c.requires.1

pub returns : goal.returns
returns c = both c.put_term-end.ensures c.put.ensures
