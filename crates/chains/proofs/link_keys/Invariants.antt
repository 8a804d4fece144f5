-- The invariant: the numbers that were passed are linked, by the keys that stood there.
use mathlib.Core.Path.{◌≡◌}
use Prim.Native.Nat.{◌+◌}
use lib.ListN.{length, get_or}
use Rattle.chains.specs.Chains.{Linked}
use Rattle.chains.proofs.link_keys.Given as goal

abbrev pub invariant-loop-j : goal.invariant-loop-j
invariant-loop-j l = (length l.chain ≡ length l.initial.chain) × Linked l.chain l.count l.n (λ k. get_or l.initial.chain (l.count + l.n + k) 0) l.j
