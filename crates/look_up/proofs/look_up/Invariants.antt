-- The invariant: what is left, behind the text before it, gives what the whole gives.
use mathlib.Core.Path.{◌≡◌}
use lib.ListN.{length}
use Rattle.limits.specs.Limits.{iri_limit}
use Rattle.look_up.specs.Code.{prior}
use Rattle.look_up.specs.Look.{look}
use Rattle.look_up.proofs.Stops.{left}
use Rattle.look_up.proofs.look_up.Given as goal

abbrev pub invariant-loop-before : goal.invariant-loop-before
invariant-loop-before l = look iri_limit l.address l.index ≡ left iri_limit l.address (prior l.before) l.rest

abbrev pub decreases-loop-before : goal.decreases-loop-before
decreases-loop-before l = length l.rest
