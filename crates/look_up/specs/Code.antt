-- What the routines compute.
use Rattle.std.specs.Prelude as code
use Rattle.std.specs.Prelude.{List, ℕ, Some, None}
use Rattle.std.proofs.Math.Option.{Option, none, some}
use denote.Bor.{Bor}
use Rattle.text.specs.Text.{Text}

-- The text before a record; the first has none.
abbrev pub prior : code.Option (Bor (List ℕ)) → Option Text
prior None = none
prior (Some b) = some b.now
