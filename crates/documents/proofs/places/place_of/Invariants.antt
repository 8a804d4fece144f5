use mathlib.Core.Path.{◌≡◌}
use Rattle.documents.specs.Places.{place}
use Rattle.documents.proofs.places.place_of.Given as goal

abbrev pub invariant-loop-i : goal.invariant-loop-i
invariant-loop-i l = l.p ≡ place l.document l.i
