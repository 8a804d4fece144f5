use native.Mathlib.Omega.{arith}
use Rattle.table.specs.Layout.{entry_at}
use Rattle.comparison.proofs.values.text_of.Goals as goal

pub span_of-requires : goal.span_of-requires
unfolding entry_at
span_of-requires c = (c.requires.stands, (omega arith, c.requires.text_in))

pub returns : goal.returns
unfolding entry_at
returns c = c.span_of.ensures
