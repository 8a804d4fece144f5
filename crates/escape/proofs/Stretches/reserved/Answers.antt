use mathlib.Core.Path.{refl}
use Rattle.text.proofs.Over.{rest_all}
use Rattle.escape.proofs.Walk.{reserved_yields}
use Rattle.escape.proofs.Stretches.reserved.Goals as goal

pub returns : goal.returns
returns c = λ e. (
  rw e (reserved_yields c.args.self.now.rest.now _ c.next-to.result _ c.requires.0 c.requires.1 c.next-to.ensures.0 c.next-to.ensures.1.0 c.next-to.ensures.1.1 refl (rest_all c.args.self.now.rest.now c.next-to.result)),
  refl,
)
