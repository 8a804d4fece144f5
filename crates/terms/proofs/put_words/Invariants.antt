-- The invariant: as many words as were passed are written.
use mathlib.Core.Path.{◌≡◌}
use lib.ListN.{take}
use Rattle.text.specs.Slice.{over_at}
use Rattle.terms.proofs.put_words.Given as goal

abbrev pub invariant-loop-i : goal.invariant-loop-i
invariant-loop-i l = l.words ≡ over_at l.at (take l.i l.s) l.initial.words
