-- `name_run` meets its contract. The invariant: the bytes passed are a run.
use Prim.Native.Nat.{◌-◌}
use lib.ListN.{length}
use Rattle.lexer_words.specs.Runs.{Scanned}
use Rattle.lexer_words.proofs.names.name_run.Given as goal

abbrev pub invariant-loop-i : goal.invariant-loop-i
invariant-loop-i l = Scanned l.s l.at l.i

abbrev pub decreases-loop-i : goal.decreases-loop-i
decreases-loop-i l = length l.s - l.i
