-- `subtags` meets its contract. The invariant: at `end` the letters of the tag or of a subtag have ended.
use Prim.Native.Nat.{◌-◌}
use lib.ListN.{length}
use Rattle.lexer_words.specs.Agree.{TagAt}
use Rattle.lexer_words.proofs.tags.subtags.Given as goal

abbrev pub invariant-loop-end : goal.invariant-loop-end
invariant-loop-end l = TagAt l.s l.end l.k

abbrev pub decreases-loop-end : goal.decreases-loop-end
decreases-loop-end l = length l.s - l.end
