-- `is_local` meets its contract.
use native.Mathlib.Omega.{arith}
use mathlib.Core.Path.{◌∙◌}
use Rattle.characters.specs.Bytes.{local, bit_at}
use Rattle.characters.proofs.Sets.{told}
use Rattle.characters.proofs.bytes.is_local.Goals as goal

pub returns : goal.returns
returns c = c.in_bits.ensures ∙ told local (bit_at 0x07FF200000000000 0x07FFFFFE87FFFFFE) tt c.args.b (omega arith)
