-- `is_digit` meets its contract.
use native.Mathlib.Omega.{arith}
use mathlib.Core.Path.{◌∙◌}
use Rattle.std.specs.Char.{is_ascii_digit}
use Rattle.characters.specs.Bytes.{digit}
use Rattle.characters.proofs.Sets.{told}
use Rattle.characters.proofs.bytes.is_digit.Goals as goal

pub returns : goal.returns
returns c = c.is_ascii_digit.ensures.value ∙ told digit is_ascii_digit tt c.args.b (omega arith)
