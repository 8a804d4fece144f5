use Rattle.std.proofs.Common.{refl}
use Rattle.terms.proofs.Growth.{blanks_stay}
use Rattle.terms.specs.Code.{next_counts}
use Rattle.terms.proofs.Counts.with.Goals as goal

pub returns-in-Blank : goal.returns-in-Blank
unfolding next_counts
returns-in-Blank c = rw c.in-Blank.is refl

pub returns-in_default : goal.returns-in_default
returns-in_default c = blanks_stay c.args.self c.args.sort c.args.bytes c.in_default.not-Blank
