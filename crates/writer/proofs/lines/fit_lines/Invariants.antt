-- The invariant: the total is the length of as many lines as rows were passed, and within the limit.
use Rattle.table.specs.LongForm.{lines_from}
use Rattle.usable.specs.Lent.{slices_of}
use mathlib.Core.Path.{◌≡◌}
use lib.ListN.{length}
use Prim.Native.Nat.{◌≤◌}
use Rattle.writer.proofs.lines.fit_lines.Given as goal

abbrev pub invariant-loop-i : goal.invariant-loop-i
invariant-loop-i l = (l.total ≡ length (lines_from (slices_of l.tables) 0 l.i)) × (l.total ≤ l.limit) × (length l.nowhere ≡ 1)
