-- The invariant: an escape of the text names no character just if one of the rest does.
use mathlib.Core.Path.{◌≡◌}
use Rattle.escape.specs.Escape.{bad_escape}
use Rattle.escape.specs.declared.Escapes.TheVariants.{Quoted}
use Rattle.escape.proofs.has_bad_escape.Given as goal

abbrev pub invariant-loop-part : goal.invariant-loop-part
invariant-loop-part l = record {
  kind : l.part-iterator.escapes ≡ Quoted;
  bad : bad_escape l.s ≡ bad_escape l.part-iterator.rest.now;
}
