-- `is_hex` meets its contract.
use native.Mathlib.Omega.{arith}
use mathlib.Core.Path.{◌∙◌}
use Rattle.std.specs.Char.{is_ascii_hexdigit}
use Rattle.characters.specs.Bytes.{hex}
use Rattle.characters.proofs.Sets.{told}
use Rattle.characters.proofs.bytes.is_hex.Goals as goal

pub returns : goal.returns
returns c = c.is_ascii_hexdigit.ensures.value ∙ told hex is_ascii_hexdigit tt c.args.b (omega arith)
