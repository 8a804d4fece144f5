-- The invariant: what was reached is a place in the chain of the key, and the statement is found if it is there or behind it.
use mathlib.Core.Path.{◌≡◌}
use lib.ListN.{length}
use Rattle.chains.specs.Chains.{behind, heads}
use Rattle.chains.proofs.Chains.{At}
use Rattle.comparison.specs.Code.{tables_of, row_key, finds}
use Rattle.comparison.proofs.sides.is_found.Given as goal

abbrev pub invariant-loop-j : goal.invariant-loop-j
invariant-loop-j l = (l.j-iterator.links ≡ l.other.links) × At (heads (length l.other.links.words.now) l.other.links.count) (row_key l.other.edition l.pairing.words.now (tables_of l.other)) l.key (finds l.pairing.words.now l.mine l.i l.other) (behind l.fn.from) l.j-iterator.at
