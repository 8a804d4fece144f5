use Rattle.placing.proofs.Putting.{put_ready}
use Rattle.placing.proofs.open.Goals as goal

pub write_opened-requires : goal.write_opened-requires
write_opened-requires c = (put_ready _ _ _ _ c.in_ok-room_to_open.ensures c.requires.0, c.requires.1)
