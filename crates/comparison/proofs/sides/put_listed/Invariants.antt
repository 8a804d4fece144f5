-- The invariant: the rows that were passed and are listed stand in front of the list.
use mathlib.Core.Path.{◌≡◌}
use lib.ListN.{length}
use Rattle.text.specs.Slice.{over}
use Rattle.comparison.specs.Comparison.{picked, listed}
use Rattle.comparison.specs.Code.{tables_of, in_both}
use Rattle.comparison.proofs.sides.put_listed.Given as goal

abbrev pub invariant-loop-i : goal.invariant-loop-i
invariant-loop-i l =
    let t = listed (in_both l.mine.edition l.pairing.words.now) (tables_of l.mine) (tables_of l.other) in
    (l.at ≡ length (picked t l.i)) × (l.out ≡ over (picked t l.i) l.initial.out)
