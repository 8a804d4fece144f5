use native.Mathlib.Omega.{arith}
use lib.Seq.{length-take-le}
use Rattle.iri.proofs.Places.{slash_end_take}
use Rattle.iri.proofs.cut.Goals as goal

pub returns : goal.returns
returns c = rw (c.saturating_sub.ensures, c.slash_end.ensures, length-take-le c.args.w c.args.b.now c.requires, slash_end_take c.args.b.now c.args.w c.args.w (omega arith))
