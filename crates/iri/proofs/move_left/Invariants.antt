-- The invariant: i bytes have moved.
use mathlib.Core.Path.{◌≡◌}
use lib.ListN.{take, drop}
use Rattle.text.specs.Slice.{over_at}
use Rattle.iri.proofs.move_left.Given as goal

abbrev pub invariant-loop-i : goal.invariant-loop-i
invariant-loop-i l = l.out ≡ over_at l.to (take l.i (take l.n (drop l.start l.initial.out))) l.initial.out
