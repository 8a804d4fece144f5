use native.Mathlib.Nat.{mod-lt}
use native.Mathlib.Omega.{arith}
use Rattle.spelling.proofs.Hashes.{four_steps}
use Rattle.spelling.proofs.stir_4.Goals as goal

pub returns : goal.returns
returns c = (four_steps c.args.h c.args.a c.args.b c.args.c c.args.d, mod-lt _ (omega arith))
