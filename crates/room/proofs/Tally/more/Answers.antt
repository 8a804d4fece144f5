use mathlib.Core.Path.{refl}
use Rattle.room.proofs.Tests.{more_new, more_known}
use Rattle.room.proofs.Tally.more.Goals as goal

pub returns-in-None : goal.returns-in-None
returns-in-None c = rw c.in-None.is (more_new c.args.self 0 c.args.size refl)

pub returns-in-Some : goal.returns-in-Some
returns-in-Some c = more_known c.args.self c.args.number _ c.args.size c.in-Some.is c.requires.1.1
