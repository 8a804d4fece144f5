-- Bytes as numbers, the low byte first.
use Rattle.std.specs.Prelude.{ℕ, ◌+◌, ◌*◌, get_or}
use Rattle.text.specs.Text.{Text}

unfoldable pub four_at : Text → ℕ → ℕ
four_at s i = get_or s i 0 + 256 * get_or s (i + 1) 0 + 65536 * get_or s (i + 2) 0 + 16777216 * get_or s (i + 3) 0

abbrev pub eight_at : Text → ℕ → ℕ
eight_at s i = four_at s i + 4294967296 * four_at s (i + 4)
