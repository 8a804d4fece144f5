-- `local_rest` meets its contract. The invariant: the automaton is within a local part, whose last character but for dots ends at `end`.
use Prim.Native.Nat.{◌-◌}
use lib.ListN.{length}
use Rattle.std.specs.Prelude.{Some}
use Rattle.automaton.specs.States.{in_local}
use Rattle.automaton.specs.Run.{tok, At}
use Rattle.lexer_words.proofs.locals.local_rest.Given as goal

abbrev pub invariant-loop-i : goal.invariant-loop-i
invariant-loop-i l = At l.s in_local l.i (Some (tok 3 l.end))

abbrev pub decreases-loop-i : goal.decreases-loop-i
decreases-loop-i l = length l.s - l.i
