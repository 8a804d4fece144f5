-- The invariant: the text has a scheme just if what the rest stands for goes on with one.
use mathlib.Core.Path.{◌≡◌}
use Rattle.escape.specs.Escape.{unescape}
use Rattle.escape.specs.Code.{undone}
use Rattle.escape.specs.declared.Escapes.TheVariants.{Quoted}
use Rattle.iri.specs.Iri.{has_scheme}
use Rattle.iri.specs.Code.{scheme_from}
use Rattle.iri.proofs.has_scheme_unescaped.Given as goal

abbrev pub invariant-loop-part : goal.invariant-loop-part
invariant-loop-part l = record {
  kind : l.part-iterator.escapes ≡ Quoted;
  same : has_scheme (unescape l.s) ≡ scheme_from l.first (undone Quoted l.part-iterator.rest.now);
}
