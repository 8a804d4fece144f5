use native.Mathlib.Omega.{arith}
use Rattle.environment.proofs.Directives.{base_read}
use Rattle.environment.proofs.base.Goals as goal

pub returns-then-work-lt-WORK : goal.returns-then-work-lt-WORK
returns-then-work-lt-WORK c = λ u. absurd (omega (arith, u.room))

pub returns : goal.returns
returns c = λ u. base_read c.args.work.now c.args.lens.now _ c.min-end.ensures
