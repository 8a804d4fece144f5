use mathlib.Core.Path.{refl, ◌∙◌}
use native.Mathlib.Omega.{arith}
use Rattle.documents.specs.Places.{place}
use Rattle.documents.proofs.Lines.{bounded_place, next_place, place_read}
use Rattle.documents.proofs.places.place_of.Goals as goal

pub loop-i-init : goal.loop-i-init
unfolding place
loop-i-init c = refl

pub passed-p-requires : goal.passed-p-requires
passed-p-requires c = let b = bounded_place _ _ _ c.loop-i.invariant in (b.0, b.1, omega arith)

pub loop-i-preserved : goal.loop-i-preserved
loop-i-preserved c = next_place _ _ _ _ _ c.loop-i.invariant c.ends_line.ensures c.passed-p.ensures

pub returns : goal.returns
returns c = c.loop-i.invariant ∙ place_read _ c.args.at _ (omega arith)
