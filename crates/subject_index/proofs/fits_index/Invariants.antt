-- The invariant: the index is as long as what was measured and the records behind the subject reached.
use mathlib.Core.Path.{◌≡◌}
use Prim.Native.Nat.{◌+◌, ◌≤◌, ◌-◌}
use lib.ListN.{length}
use Rattle.usable.specs.Lent.{slices_of}
use Rattle.subject_index.specs.Index.{index_of, subject}
use Rattle.subject_index.specs.Code.{named, Known}
use Rattle.subject_index.proofs.Checking.{left}
use Rattle.subject_index.proofs.fits_index.Given as goal

abbrev pub invariant-loop-c : goal.invariant-loop-c
invariant-loop-c l = (l.used ≤ l.room) × (Known (slices_of l.tables) l.before × (length (index_of (subject (slices_of l.tables)) l.tables.row_count) ≡ l.used + length (left (subject (slices_of l.tables)) l.tables.row_count (named (slices_of l.tables) l.before))))

abbrev pub decreases-loop-c : goal.decreases-loop-c
decreases-loop-c l = l.room - l.used
