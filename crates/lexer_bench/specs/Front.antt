-- How much of a text is UTF-8.
use Rattle.std.proofs.Math.Option.{Option, none, some}
use Rattle.std.specs.Prelude.{ℕ, length}
use Rattle.text.specs.Text.{Text}
use Rattle.utf8.specs.Utf8.{first_bad}

abbrev pub up_to : Option ℕ → ℕ → ℕ
up_to none n = n
up_to (some i) n = i

abbrev pub valid_size : Text → ℕ
valid_size s = up_to (first_bad s) (length s)
