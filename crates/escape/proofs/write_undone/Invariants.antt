-- The invariant: a front of the text is written, and the rest of it is what the rest stands for.
use mathlib.Core.Path.{◌≡◌}
use Rattle.escape.specs.Code.{undone}
use Rattle.escape.proofs.Walk.{Halfway}
use Rattle.escape.proofs.write_undone.Given as goal

abbrev pub invariant-loop-part : goal.invariant-loop-part
invariant-loop-part l = record {
  kind : l.part-iterator.escapes ≡ l.fn.escapes;
  front : Halfway (undone l.fn.escapes l.s) (undone l.fn.escapes l.part-iterator.rest.now) l.initial.out l.out l.j;
}
