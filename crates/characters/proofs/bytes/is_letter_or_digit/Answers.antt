-- `is_letter_or_digit` meets its contract.
use native.Mathlib.Omega.{arith}
use mathlib.Core.Path.{◌∙◌}
use Rattle.characters.specs.Bytes.{letter_or_digit, bit_at}
use Rattle.characters.proofs.Sets.{told}
use Rattle.characters.proofs.bytes.is_letter_or_digit.Goals as goal

pub returns : goal.returns
returns c = c.in_bits.ensures ∙ told letter_or_digit (bit_at 0x03FF000000000000 0x07FFFFFE07FFFFFE) tt c.args.b (omega arith)
