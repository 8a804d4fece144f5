-- The invariant: the hash of the whole is that of what the rest stands for, from the number so far on.
use Prim.Native.Nat.{◌<◌}
use mathlib.Core.Path.{◌≡◌}
use Rattle.escape.specs.Code.{undone}
use Rattle.spelling.specs.Hash.{hash_from}
use Rattle.spelling.proofs.hash_stretches.Given as goal

abbrev pub invariant-loop-part : goal.invariant-loop-part
invariant-loop-part l = record {
  kind : l.part-iterator.escapes ≡ l.fn.escapes;
  small : l.total < 4294967296;
  same : hash_from l.m l.h (undone l.fn.escapes l.s) ≡ hash_from l.m l.total (undone l.fn.escapes l.part-iterator.rest.now);
}
