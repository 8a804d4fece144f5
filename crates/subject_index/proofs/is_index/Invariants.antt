-- The invariant: the bytes are the index just if, from the place reached on, they are the records behind the subject reached.
use mathlib.Core.Path.{◌≡◌}
use Prim.Native.Nat.{◌≤◌, ◌-◌}
use lib.ListN.{length, drop}
use Rattle.text.specs.Text.{same_text}
use Rattle.usable.specs.Lent.{slices_of}
use Rattle.subject_index.specs.Index.{index_of, subject}
use Rattle.subject_index.specs.Code.{named, Known}
use Rattle.subject_index.proofs.Checking.{left}
use Rattle.subject_index.proofs.is_index.Given as goal

abbrev pub invariant-loop-c : goal.invariant-loop-c
invariant-loop-c l = (l.at ≤ length l.bytes) × (Known (slices_of l.tables) l.before × (same_text (index_of (subject (slices_of l.tables)) l.tables.row_count) l.bytes ≡ same_text (left (subject (slices_of l.tables)) l.tables.row_count (named (slices_of l.tables) l.before)) (drop l.at l.bytes)))

abbrev pub decreases-loop-c : goal.decreases-loop-c
decreases-loop-c l = length l.bytes - l.at
