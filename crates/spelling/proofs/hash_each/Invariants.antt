-- The invariant: the hash of the whole is that of the rest from the number so far on.
use Prim.Native.Nat.{◌<◌}
use mathlib.Core.Path.{◌≡◌}
use lib.ListN.{drop}
use Rattle.spelling.specs.Hash.{hash_from}
use Rattle.spelling.proofs.hash_each.Given as goal

abbrev pub invariant-loop-b : goal.invariant-loop-b
invariant-loop-b l = (l.total < 4294967296) × (hash_from l.m l.h l.s ≡ hash_from l.m l.total (drop l.b-index l.s))
