-- `is_white_space` meets its contract.
use native.Mathlib.Omega.{arith}
use Rattle.lexer.proofs.Blanking.{blank_ranges}
use Rattle.lexer.proofs.is_white_space.Goals as goal

pub returns : goal.returns
returns c = blank_ranges c.args.b (omega arith)
