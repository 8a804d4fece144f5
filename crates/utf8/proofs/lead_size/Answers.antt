-- The arms are ranges; each has its row in the table for all bytes.
use mathlib.Core.Path.{◌∙◌}
use native.Mathlib.Omega.{arith}
use Rattle.utf8.proofs.Size.{lead_one, lead_inner, lead_more, lead_past}
use Rattle.utf8.proofs.lead_size.Goals as goal

pub returns-in-0-to-127 : goal.returns-in-0-to-127
returns-in-0-to-127 c = lead_one c.args.b c.ranges.b.fits (omega arith)

pub returns-in-194-to-244 : goal.returns-in-194-to-244
returns-in-194-to-244 c = c.leading_ones.ensures ∙ lead_more c.args.b c.ranges.b.fits (omega arith) (omega arith)

pub returns-in_default : goal.returns-in_default
returns-in_default c = lead_inner c.args.b c.ranges.b.fits (omega arith) (omega arith)

pub returns-in_default-2 : goal.returns-in_default-2
returns-in_default-2 c = lead_past c.args.b c.ranges.b.fits (omega arith)
