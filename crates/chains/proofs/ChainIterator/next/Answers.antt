use mathlib.Core.Path.{◌≡◌, ap}
use native.Mathlib.Omega.{arith}
use Rattle.std.proofs.Common.{rules, Some}
use Rattle.chains.specs.Chains.{behind}
use Rattle.chains.proofs.ChainIterator.next.Goals as goal

pub invariant_of-self : goal.invariant_of-self
invariant_of-self c =
    let s = c.args.self.now in
    let e : s.at ≡ Some c.in_ok-j.j = search rules in
    record { low = omega (arith, c.before-self.ensures.falls s.falling, ap behind e, s.low); falling = s.falling }

pub returns-clause-goes : goal.returns-clause-goes
returns-clause-goes c =
    let s = c.args.self.now in
    let e : s.at ≡ Some c.in_ok-j.j = search rules in
    record { on = λ h. (tt, tt, omega (arith, c.before-self.ensures.falls s.falling, ap behind e)); keeps = tt; rests = λ h. tt }
