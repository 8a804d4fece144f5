-- `long_string` meets its contract. The invariant: the automaton is within a long string of this quote, after a run of quotes.
use Prim.Native.Nat.{◌-◌, ◌<◌}
use lib.ListN.{length}
use Rattle.lexer_quoted.proofs.Quoting.{LongAt}
use Rattle.lexer_quoted.proofs.strings.long_string.Given as goal

abbrev pub invariant-loop-i : goal.invariant-loop-i
invariant-loop-i l = (l.run < 3) × LongAt l.s l.quote l.i l.run

abbrev pub decreases-loop-i : goal.decreases-loop-i
decreases-loop-i l = length l.s - l.i
