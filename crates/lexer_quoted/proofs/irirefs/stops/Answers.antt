-- `stops` meets its contract.
use native.Mathlib.Omega.{arith}
use Rattle.lexer_quoted.proofs.Iris.{stop_test}
use Rattle.lexer_quoted.proofs.irirefs.stops.Goals as goal

pub returns : goal.returns
returns c = stop_test c.args.b (omega arith)
