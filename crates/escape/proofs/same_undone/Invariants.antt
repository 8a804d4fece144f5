-- The invariant: the texts are the same just if what the rest stands for is the rest of t.
use Prim.Native.Nat.{◌≤◌}
use mathlib.Core.Path.{◌≡◌}
use lib.ListN.{length, drop}
use Rattle.text.specs.Text.{same_text}
use Rattle.escape.specs.Code.{undone}
use Rattle.escape.proofs.same_undone.Given as goal

abbrev pub invariant-loop-part : goal.invariant-loop-part
invariant-loop-part l = record {
  kind : l.part-iterator.escapes ≡ l.fn.escapes;
  within : l.j ≤ length l.t;
  same : same_text (undone l.fn.escapes l.s) l.t ≡ same_text (undone l.fn.escapes l.part-iterator.rest.now) (drop l.j l.t);
}
