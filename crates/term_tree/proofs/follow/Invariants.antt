-- The invariant: every term that passes the test is still to be reached from the slot at hand, to which the turns have led.
use Prim.Native.Nat.{suc, ◌/◌, ◌%◌}
use mathlib.Core.Path.{◌≡◌}
use Rattle.table.specs.Layout.{entry_at}
use Rattle.terms.specs.Code.{matches}
use Rattle.term_tree.specs.Keys.{key_at, turn_at}
use Rattle.terms.specs.Sorts.{type_of, text_in}
use Rattle.term_tree.specs.Tree.{buckets, least}
use Rattle.term_tree.proofs.Trees.{Leaves, Came, ahead}
use Rattle.term_tree.proofs.follow.Given as goal

abbrev pub invariant-loop-k : goal.invariant-loop-k
invariant-loop-k l = (Came l.index l.count (turn_at (text_in l.sought) l.sought.tag.now (type_of l.sought.sort)) (l.first % buckets l.index) l.place l.level l.k × (l.key ≡ key_at (l.level / 16) (text_in l.sought) l.sought.tag.now (type_of l.sought.sort))) × Leaves l.index (l.first % buckets l.index) (turn_at (text_in l.sought) l.sought.tag.now (type_of l.sought.sort)) (least l.count (buckets l.index)) (λ i. matches l.store (entry_at l.terms (suc i)) l.sought.sort (text_in l.sought) l.sought.tag.now) l.place l.level

abbrev pub decreases-loop-k : goal.decreases-loop-k
decreases-loop-k l = ahead (least l.count (buckets l.index)) l.k
