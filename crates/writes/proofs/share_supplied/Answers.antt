use mathlib.Core.Path.{refl}
use native.Mathlib.Omega.{arith}
use Rattle.spelling.specs.Form.{joined, undo, bad}
use Rattle.writes.proofs.share_supplied.Goals as goal

pub share_iri-requires : goal.share_iri-requires
unfolding joined undo bad
share_iri-requires c = (rw c.text.ensures c.requires, record { order = omega arith; front = omega arith; right = refl })

pub returns : goal.returns
unfolding joined undo
returns c = rw c.text.ensures at c.share_iri.ensures
