use mathlib.Core.Path.{refl, sym}
use native.Mathlib.Omega.{arith}
use Rattle.environment.specs.Code.{binding, count}
use Rattle.environment.proofs.Bindings.{listed_length}
use Rattle.environment.proofs.Cells.{found_at, missing}
use Rattle.environment.proofs.look_up.Goals as goal

pub returns-then-work-lt-WORK : goal.returns-then-work-lt-WORK
returns-then-work-lt-WORK c = λ room. absurd (omega arith)

pub returns-in_err-i : goal.returns-in_err-i
returns-in_err-i c = λ room.
    let f = binding c.args.work.now c.args.lens.now in
    rw c.from_residual.ensures (missing c.args.prefix.now c.args.work.now c.args.lens.now (count c.args.lens.now) _ refl (sym (c.in_err-i.ensures.place)) (omega (arith, listed_length c.args.prefix.now f 0 (count c.args.lens.now))))

pub returns : goal.returns
returns c = λ room. found_at c.args.prefix.now c.args.work.now c.args.lens.now (count c.args.lens.now) c.in_ok-i.i c.min.result refl (sym (c.in_ok-i.ensures.place)) c.in_ok-i.ensures.within (omega arith) c.min.ensures (omega arith) room
