use Rattle.std.proofs.Common.{ap}
use Rattle.std.proofs.KnownBytes.{Appends-trans}
use Rattle.diagnose.specs.Phrase.{phrase}
use Rattle.diagnose.proofs.Written.{last_piece, appends_same}
use Rattle.diagnose.proofs.print_count.Goals as goal

pub returns : goal.returns
returns g c =
    let a = Appends-trans _ _ _ _ _ c.in_ok-write_all.ensures.bytes c.in_ok-say.ensures in
    let b = Appends-trans _ _ _ _ _ a c.in_ok-write.ensures.bytes in
    let d = Appends-trans _ _ _ _ _ b (appends_same _ _ _ _ (ap (phrase c.args.words.now) c.statements.ensures) c.in_ok-say-2.ensures) in
    last_piece _ _ _ _ _ _ d c.end_line.ensures
