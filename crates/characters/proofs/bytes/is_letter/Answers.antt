-- `is_letter` meets its contract.
use native.Mathlib.Omega.{arith}
use mathlib.Core.Path.{◌∙◌}
use Rattle.std.specs.Char.{is_ascii_alphabetic}
use Rattle.characters.specs.Bytes.{letter}
use Rattle.characters.proofs.Sets.{told}
use Rattle.characters.proofs.bytes.is_letter.Goals as goal

pub returns : goal.returns
returns c = c.is_ascii_alphabetic.ensures.value ∙ told letter is_ascii_alphabetic tt c.args.b (omega arith)
