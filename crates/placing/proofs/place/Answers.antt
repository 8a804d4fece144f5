use Rattle.placing.proofs.Putting.{put_ready}
use Rattle.placing.proofs.place.Goals as goal

pub write_placed-requires : goal.write_placed-requires
write_placed-requires c = (put_ready _ _ _ _ c.in_ok-room_to_place.ensures c.requires.0, c.requires.1)
