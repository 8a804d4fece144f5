-- The invariant: the keys of the numbers that were passed are written.
use Prim.Native.Nat.{◌+◌}
use Rattle.chains.specs.Chains.{Keyed}
use Rattle.chains.proofs.link.Given as goal

abbrev pub invariant-loop-j : goal.invariant-loop-j
invariant-loop-j g l = Keyed l.initial.chain l.chain (l.count + l.n) (goal.F-post g l.key_of) l.j
