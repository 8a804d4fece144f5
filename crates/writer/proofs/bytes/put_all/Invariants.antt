-- The invariant: as many bytes of the text as were passed are written.
use Rattle.table.specs.LongForm.{escaped}
use Rattle.writer.specs.Writing.{Wrote}
use mathlib.Core.List.{[], ◌∷◌}
use lib.ListN.{take}
use Rattle.writer.proofs.bytes.put_all.Given as goal

abbrev pub invariant-loop-c : goal.invariant-loop-c
invariant-loop-c l = Wrote l.at (escaped (λ c. c ∷ []) (take l.c-index l.s)) l.initial.out l.out l.end
