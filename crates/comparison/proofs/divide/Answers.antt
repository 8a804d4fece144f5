use mathlib.Core.Path.{ap}
use Prim.Native.Nat.{◌/◌}
use Rattle.comparison.proofs.Parting.{cut_some}
use Rattle.comparison.proofs.divide.Goals as goal

pub returns : goal.returns
returns c =
    let e = c.in_ok-heads.ensures {u = tt} in
    cut_some c.args.size c.args.pairs c.args.left c.args.right _ c.requires.0 c.requires.1 e.0 (ap (λ n. n / 3) e.1) c.if-heads-eq0.false
