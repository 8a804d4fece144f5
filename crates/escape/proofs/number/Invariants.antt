-- The invariant: the digits so far make the number so far, which is small.
use Prim.Native.Nat.{◌≤◌}
use mathlib.Core.Path.{◌≡◌}
use lib.ListN.{drop}
use Rattle.escape.specs.Code.{number, most}
use Rattle.escape.proofs.number.Given as goal

abbrev pub invariant-loop-c : goal.invariant-loop-c
invariant-loop-c l = (l.value ≤ most l.c-index) × (number 0 l.digits ≡ number l.value (drop l.c-index l.digits))
