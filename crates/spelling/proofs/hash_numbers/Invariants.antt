-- The invariant: the hash of the whole is that of the rest from the number so far on.
use Prim.Native.Nat.{◌<◌}
use mathlib.Core.Path.{◌≡◌}
use lib.ListN.{drop}
use Rattle.spelling.specs.Hash.{hash_from}
use Rattle.spelling.proofs.hash_numbers.Given as goal

abbrev pub invariant-loop-n : goal.invariant-loop-n
invariant-loop-n l = (l.total < 4294967296) × (hash_from l.m l.h l.s ≡ hash_from l.m l.total (drop l.n-index l.s))
