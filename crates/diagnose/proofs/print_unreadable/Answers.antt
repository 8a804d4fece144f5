use Rattle.std.proofs.KnownBytes.{Appends-trans}
use Rattle.diagnose.proofs.Written.{last_piece}
use Rattle.diagnose.proofs.print_unreadable.Goals as goal

pub returns : goal.returns
returns g c = last_piece _ _ _ _ _ _ (Appends-trans _ _ _ _ _ c.in_ok-write_all.ensures.bytes c.in_ok-say.ensures) c.end_line.ensures
