-- `label_rest` meets its contract. The invariant: the automaton is within a label, whose last character but for dots ends at `end`.
use Prim.Native.Nat.{◌-◌}
use lib.ListN.{length}
use Rattle.std.specs.Prelude.{Some}
use Rattle.automaton.specs.States.{in_label}
use Rattle.automaton.specs.Run.{tok, At}
use Rattle.lexer_words.proofs.labels.label_rest.Given as goal

abbrev pub invariant-loop-i : goal.invariant-loop-i
invariant-loop-i l = At l.s in_label l.i (Some (tok 4 l.end))

abbrev pub decreases-loop-i : goal.decreases-loop-i
decreases-loop-i l = length l.s - l.i
