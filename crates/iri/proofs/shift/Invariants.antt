-- The invariant: n bytes have moved, all of the first segment.
use Prim.Native.Nat.{◌≤◌, ◌<◌, ◌-◌, ◌+◌}
use mathlib.Core.Path.{◌≡◌}
use lib.ListN.{drop}
use Rattle.text.specs.Text.{is}
use Rattle.iri.specs.Code.{before, window, segment, Moved}
use Rattle.iri.proofs.shift.Given as goal

abbrev pub invariant-loop-n : goal.invariant-loop-n
invariant-loop-n l = Moved l.initial.b l.b l.at l.w l.n × ((l.at + l.n ≤ l.end) × (0 < l.n → segment (window l.initial.b l.at l.end) ≡ l.n + before (is "/") (drop l.n (window l.initial.b l.at l.end))))

abbrev pub decreases-loop-n : goal.decreases-loop-n
decreases-loop-n l = l.end - (l.at + l.n)
