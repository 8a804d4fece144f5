use native.Mathlib.Omega.{arith}
use Rattle.table.specs.Layout.{entry_at}
use Rattle.comparison.proofs.values.tag_of.Goals as goal

pub span_of-requires : goal.span_of-requires
unfolding entry_at
span_of-requires c = (c.requires.0, (omega arith, c.requires.1))

pub returns : goal.returns
unfolding entry_at
returns c = c.span_of.ensures
