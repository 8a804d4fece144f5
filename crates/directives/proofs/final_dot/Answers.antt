use native.Mathlib.Omega.{arith}
use Rattle.directives.proofs.Parts.{dot_none, dot_done}
use Rattle.directives.proofs.final_dot.Goals as goal

pub returns-then-st-ne-DOT : goal.returns-then-st-ne-DOT
returns-then-st-ne-DOT c = search dot_none

pub pass-requires : goal.pass-requires
pass-requires c = ((c.requires.0, c.requires.0.token (λ h. omega arith) (λ h. omega arith)), c.requires.1)

pub returns : goal.returns
returns c = search dot_done
