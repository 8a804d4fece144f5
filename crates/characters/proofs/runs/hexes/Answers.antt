-- `hexes` meets its contract.
use native.Mathlib.Omega.{arith}
use mathlib.Core.Path.{ap}
use lib.ListN.{length}
use Rattle.utf8.proofs.Decoding.{tail_eq}
use Rattle.characters.proofs.Spans.{hex_all, hex_short}
use Rattle.characters.proofs.runs.hexes.Goals as goal

pub returns-in-Some : goal.returns-in-Some
returns-in-Some c = let l = c.in-Some.ensures.lookup in hex_all c.args.s.now c.args.at c.args.n l.0.1 _ l.0.2 _ c.all_hex.ensures

pub returns-in-None : goal.returns-in-None
returns-in-None c = let l = c.in-None.ensures.lookup in hex_short _ _ (omega (arith, ap length (tail_eq c.args.s.now c.args.at), l.0))
