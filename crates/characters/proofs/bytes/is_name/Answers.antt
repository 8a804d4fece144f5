-- `is_name` meets its contract.
use native.Mathlib.Omega.{arith}
use mathlib.Core.Path.{◌∙◌}
use Rattle.characters.specs.Bytes.{name, bit_at}
use Rattle.characters.proofs.Sets.{told}
use Rattle.characters.proofs.bytes.is_name.Goals as goal

pub returns : goal.returns
returns c = c.in_bits.ensures ∙ told name (bit_at 0x03FF200000000000 0x07FFFFFE87FFFFFE) tt c.args.b (omega arith)
