-- `is_iri` meets its contract.
use native.Mathlib.Omega.{arith}
use mathlib.Core.Path.{◌∙◌}
use Rattle.characters.specs.Bytes.{iri, bit_at}
use Rattle.characters.proofs.Sets.{told}
use Rattle.characters.proofs.bytes.is_iri.Goals as goal

pub returns : goal.returns
returns c = c.in_bits.ensures ∙ told iri (bit_at 0xAFFFFFFA00000000 0xC7FFFFFEAFFFFFFF) tt c.args.b (omega arith)
