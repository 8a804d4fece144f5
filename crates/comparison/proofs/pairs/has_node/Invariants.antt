-- The invariant: what was reached is a place in the chain of n, and the node is there if it is there or behind it.
use mathlib.Core.Path.{◌≡◌}
use Prim.Native.Nat.{suc}
use lib.ListN.{length}
use Rattle.table.specs.Layout.{term_size}
use Rattle.chains.specs.Chains.{heads, word_at}
use Rattle.chains.proofs.Chains.{At}
use Rattle.comparison.specs.Code.{with_terms, is_node}
use Rattle.comparison.proofs.pairs.has_node.Given as goal

abbrev pub invariant-loop-k : goal.invariant-loop-k
invariant-loop-k l = (l.k-iterator.links ≡ l.fn.links) × At (heads (length l.fn.links.words.now) l.count) (word_at l.tables.terms.now 3 term_size) l.n (λ k. is_node (with_terms l.tables l.count) l.n (suc k)) l.count l.k-iterator.at
