-- The invariant: what is left of the path gives the same as the whole. The measure is how much is left.
use Prim.Native.Nat.{◌-◌}
use Rattle.iri.proofs.Buffer.{Turning}
use Rattle.iri.proofs.remove_dots.Given as goal

abbrev pub invariant-loop-t : goal.invariant-loop-t
invariant-loop-t l = Turning l.initial.path l.path l.n l.t

abbrev pub decreases-loop-t : goal.decreases-loop-t
decreases-loop-t l = l.t.end - l.t.at
