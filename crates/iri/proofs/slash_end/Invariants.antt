-- The invariant: no slash stands from n on.
use mathlib.Core.Path.{◌≡◌}
use lib.ListN.{length}
use Rattle.iri.specs.Code.{slash_end}
use Rattle.iri.proofs.slash_end.Given as goal

abbrev pub invariant-loop-n : goal.invariant-loop-n
invariant-loop-n l = slash_end l.s (length l.s) ≡ slash_end l.s l.n
