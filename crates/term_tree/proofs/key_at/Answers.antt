use mathlib.Core.Path.{◌∙◌}
use native.Mathlib.Omega.{arith}
use native.Mathlib.Nat.{mod-lt}
use Rattle.term_tree.specs.Keys.{key_at}
use Rattle.term_tree.proofs.key_at.Goals as goal

pub hash_bytes-whole-requires : goal.hash_bytes-whole-requires
hash_bytes-whole-requires c = (omega arith, c.hash_joined-text.ensures.1)

pub stir-requires : goal.stir-requires
stir-requires c = (omega arith, (c.hash_bytes-whole.ensures.1, mod-lt _ (omega arith)))

pub returns : goal.returns
unfolding key_at
returns c = (c.stir.ensures.0 ∙ rw (c.datatype.ensures, c.hash_bytes-whole.ensures.0, c.hash_joined-text.ensures.0), c.stir.ensures.1)
