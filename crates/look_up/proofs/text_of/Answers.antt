use mathlib.Core.Path.{◌≡◌}
use Prim.Native.Nat.{ℕ, ◌+◌, ◌-◌}
use native.Mathlib.Omega.{arith}
use lib.ListN.{take, drop}
use Rattle.text.specs.Text.{Text}
use Rattle.limits.specs.Limits.{iri_limit}
use Rattle.look_up.specs.Record.{head_size, size_of, text_of}
use Rattle.look_up.proofs.Records.{record_in}
use Rattle.look_up.proofs.text_of.Goals as goal

part : (r : Text) (size : ℕ) → size ≡ size_of r → take (head_size + size - head_size) (drop head_size r) ≡ text_of r
unfolding text_of
part r size e = let z : head_size + size - head_size ≡ size_of r = omega (arith, e) in rw z

pub size_of-end-requires : goal.size_of-end-requires
size_of-end-requires c = omega (arith, record_in iri_limit _ c.requires)

pub overflow_add-end : goal.overflow_add-end
overflow_add-end c = omega (arith, c.size_of-end.ensures.1)

pub slice_bounds-result-end : goal.slice_bounds-result-end
slice_bounds-result-end c = omega (arith, c.size_of-end.ensures.0, record_in iri_limit _ c.requires)

pub returns : goal.returns
returns c = part _ _ c.size_of-end.ensures.0
