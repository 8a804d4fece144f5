-- `short_string` meets its contract. The invariant: the automaton is within a string of this quote.
use Prim.Native.Nat.{◌-◌}
use lib.ListN.{length}
use Rattle.std.specs.Prelude.{None}
use Rattle.automaton.specs.States.{in_string}
use Rattle.automaton.specs.Run.{In}
use Rattle.lexer_quoted.proofs.strings.short_string.Given as goal

abbrev pub invariant-loop-i : goal.invariant-loop-i
invariant-loop-i l = In l.s (in_string l.quote) l.i None

abbrev pub decreases-loop-i : goal.decreases-loop-i
decreases-loop-i l = length l.s - l.i
