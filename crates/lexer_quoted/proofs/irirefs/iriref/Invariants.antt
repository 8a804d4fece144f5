-- `iriref` meets its contract. The invariant: the automaton is within an IRIREF, where a run of its text stops.
use Prim.Native.Nat.{◌-◌}
use lib.ListN.{length}
use Rattle.lexer_quoted.proofs.Iris.{Stopped}
use Rattle.lexer_quoted.proofs.irirefs.iriref.Given as goal

abbrev pub invariant-loop-i : goal.invariant-loop-i
invariant-loop-i l = Stopped l.s l.i

abbrev pub decreases-loop-i : goal.decreases-loop-i
decreases-loop-i l = length l.s - l.i
