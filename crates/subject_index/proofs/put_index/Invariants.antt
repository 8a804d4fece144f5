-- The invariant: the output with the index over its front is the output reached with the records behind the subject reached, from the place reached on.
use mathlib.Core.Path.{◌≡◌}
use Prim.Native.Nat.{◌+◌, ◌-◌}
use lib.ListN.{length}
use Rattle.text.specs.Slice.{over, over_at}
use Rattle.usable.specs.Lent.{slices_of}
use Rattle.subject_index.specs.Index.{index_of, subject}
use Rattle.subject_index.specs.Code.{named, Known}
use Rattle.subject_index.proofs.Checking.{left}
use Rattle.subject_index.proofs.put_index.Given as goal

abbrev pub invariant-loop-c : goal.invariant-loop-c
invariant-loop-c l = (length l.out ≡ length l.initial.out) × (Known (slices_of l.tables) l.before × ((length (index_of (subject (slices_of l.tables)) l.tables.row_count) ≡ l.at + length (left (subject (slices_of l.tables)) l.tables.row_count (named (slices_of l.tables) l.before))) × (over (index_of (subject (slices_of l.tables)) l.tables.row_count) l.initial.out ≡ over_at l.at (left (subject (slices_of l.tables)) l.tables.row_count (named (slices_of l.tables) l.before)) l.out)))

abbrev pub decreases-loop-c : goal.decreases-loop-c
decreases-loop-c l = length l.out - l.at
