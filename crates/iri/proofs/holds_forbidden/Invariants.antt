-- The invariant: a forbidden byte stands in the text just if one stands from here on.
use mathlib.Core.Path.{◌≡◌}
use lib.ListN.{drop}
use Rattle.text.specs.Text.{some_byte}
use Rattle.iri.specs.Iri.{forbidden}
use Rattle.iri.proofs.holds_forbidden.Given as goal

abbrev pub invariant-loop-c : goal.invariant-loop-c
invariant-loop-c l = some_byte forbidden l.s ≡ some_byte forbidden (drop l.c-index l.s)
