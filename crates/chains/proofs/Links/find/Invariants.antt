-- The invariant: what was reached is a place in the chain of x, and what is found from there is what is found from the first place.
use mathlib.Core.Path.{◌≡◌}
use lib.ListN.{length}
use Rattle.chains.specs.Chains.{behind, heads, word_at, has_word}
use Rattle.chains.proofs.Chains.{At}
use Rattle.chains.proofs.Links.find.Given as goal

abbrev pub invariant-loop-j : goal.invariant-loop-j
invariant-loop-j l = (l.j-iterator.links ≡ l.self) × At (heads (length l.self.words.now) l.self.count) (word_at l.column.words.now l.column.from l.column.step) l.x (has_word l.column.words.now l.column.from l.column.step l.x) (behind l.fn.from) l.j-iterator.at
