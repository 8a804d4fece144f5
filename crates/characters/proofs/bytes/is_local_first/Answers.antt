-- `is_local_first` meets its contract.
use native.Mathlib.Omega.{arith}
use mathlib.Core.Path.{◌∙◌}
use Rattle.characters.specs.Bytes.{local_first, bit_at}
use Rattle.characters.proofs.Sets.{told}
use Rattle.characters.proofs.bytes.is_local_first.Goals as goal

pub returns : goal.returns
returns c = c.in_bits.ensures ∙ told local_first (bit_at 0x07FF000000000000 0x07FFFFFE87FFFFFE) tt c.args.b (omega arith)
