-- `agree` meets its contract. The invariant: the first k bytes agree.
use Prim.Native.Nat.{◌≤◌, ◌-◌}
use lib.ListN.{length}
use Rattle.lexer_words.proofs.Agreeing.{Agrees}
use Rattle.lexer_words.proofs.words.agree.Given as goal

abbrev pub invariant-loop-k : goal.invariant-loop-k
invariant-loop-k l = (l.k ≤ length l.low) × Agrees l.s l.at l.low l.up l.k

abbrev pub decreases-loop-k : goal.decreases-loop-k
decreases-loop-k l = length l.low - l.k
