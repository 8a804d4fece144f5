use native.Mathlib.Omega.{arith}
use Rattle.text.specs.Words.{four_at}
use Rattle.text.proofs.four.Goals as goal

pub returns : goal.returns
unfolding four_at
returns c = (omega (arith, c.from_le_bytes.ensures), omega arith)
