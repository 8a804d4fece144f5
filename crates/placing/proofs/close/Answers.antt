use Rattle.placing.proofs.Putting.{put_ready}
use Rattle.placing.proofs.close.Goals as goal

pub write_closed-requires : goal.write_closed-requires
write_closed-requires c = (put_ready _ _ _ _ c.in_ok-room_to_close.ensures c.requires.0, c.requires.1)
