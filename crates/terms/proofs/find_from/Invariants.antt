-- The invariant: the search from the start on answers what the search from the place reached on answers.
use Prim.Native.Nat.{suc, ◌-◌}
use mathlib.Core.Path.{◌≡◌}
use Rattle.table.specs.Layout.{entry_at}
use Rattle.terms.specs.Sorts.{text_in}
use Rattle.terms.specs.Code.{matches, first}
use Rattle.terms.proofs.find_from.Given as goal

abbrev pub invariant-loop-i : goal.invariant-loop-i
invariant-loop-i l = first (λ k. matches l.store (entry_at l.terms (suc k)) l.sought.sort (text_in l.sought) l.sought.tag.now) l.from (l.count - l.from) ≡ first (λ k. matches l.store (entry_at l.terms (suc k)) l.sought.sort (text_in l.sought) l.sought.tag.now) l.i (l.count - l.i)
