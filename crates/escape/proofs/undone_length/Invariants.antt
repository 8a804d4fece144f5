-- The invariant: what the parts so far and the rest stand for is as long as the whole.
use Prim.Native.Nat.{◌+◌}
use mathlib.Core.Path.{◌≡◌}
use lib.ListN.{length}
use Rattle.escape.specs.Code.{undone}
use Rattle.escape.proofs.undone_length.Given as goal

abbrev pub invariant-loop-part : goal.invariant-loop-part
invariant-loop-part l = record {
  kind : l.part-iterator.escapes ≡ l.fn.escapes;
  long : l.total + length (undone l.fn.escapes l.part-iterator.rest.now) ≡ length (undone l.fn.escapes l.s);
}
