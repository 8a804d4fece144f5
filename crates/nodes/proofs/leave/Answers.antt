use mathlib.Core.Logic.{inr}
use native.Mathlib.Omega.{arith}
use Rattle.state.specs.Words.{depth_word}
use Rattle.nodes.proofs.Moving.{passed_leave}
use Rattle.nodes.proofs.leave.Goals as goal

pub overflow_sub-st : goal.overflow_sub-st
overflow_sub-st c = omega (arith, c.advance.ensures.beside depth_word (inr (omega arith)))

pub returns : goal.returns
returns c = search passed_leave
