use Prim.Native.Nat.{◌≤◌, ◌-◌, ◌+◌}
use mathlib.Core.Path.{◌≡◌}
use lib.ListN.{length as len, drop}
use Rattle.text.specs.Text.{is}
use Rattle.iri.specs.Code.{before}
use Rattle.token_iri.proofs.colon.Given as goal

abbrev pub invariant-loop-i : goal.invariant-loop-i
invariant-loop-i l = (l.i ≤ len l.s) × (before (is ":") l.s ≡ l.i + before (is ":") (drop l.i l.s))

abbrev pub decreases-loop-i : goal.decreases-loop-i
decreases-loop-i l = len l.s - l.i
