use borrow.Author.Tests.{lt-ltb, le-ltb}
use native.Mathlib.Omega.{arith}
use Rattle.escape.specs.Escape.{hex_value}
use Rattle.escape.proofs.hex_value.Goals as goal
use Rattle.escape.proofs.hex_value.Goals.{in-0-to-57, in-0-to-70, in_default}

pub returns : goal.returns
unfolding hex_value
returns c = elim c.if-c-lt58.branch [
  | in-0-to-57 w ↦ (simp (lt-ltb c.args.c 58 (omega arith)) (omega (arith, c.saturating_sub.ensures, c.wide.ensures.0)), omega (arith, c.saturating_sub.ensures, c.wide.ensures.0))
  | in-0-to-70 w ↦ (simp (le-ltb c.args.c 58 (omega arith), lt-ltb c.args.c 71 (omega arith)) (omega (arith, c.saturating_sub.ensures, c.wide.ensures.0)), omega (arith, c.saturating_sub.ensures, c.wide.ensures.0))
  | in_default w ↦ (simp (le-ltb c.args.c 58 (omega arith), le-ltb c.args.c 71 (omega arith)) (omega (arith, c.saturating_sub.ensures, c.wide.ensures.0)), omega (arith, c.ranges.c, c.saturating_sub.ensures, c.wide.ensures.0))
]
