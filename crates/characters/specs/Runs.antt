-- Runs of bytes.
use Rattle.std.specs.Prelude.{◌≡◌, Bool, true, false, ◌&&◌, List, [], ◌∷◌, ℕ, zero, suc, ◌≤◌, ◌<◌, length, get_or}
use Rattle.text.specs.Text.{Text}
use Rattle.utf8.specs.Utf8.{Range}
use Rattle.token.specs.Regular.{in_ranges}
use Rattle.characters.specs.Bytes.{hex}

-- Do n hexadecimal digits stand at the front?
unfoldable pub hex_run : ℕ → Text → Bool
hex_run zero s = true
hex_run (suc n) [] = false
hex_run (suc n) (b ∷ s) = let r = hex_run n s in in_ranges b hex && r

-- The bytes from a to e are of the set, and the byte at e, if there is one, is not.
pub record Span (rs : List Range) (s : Text) (a e : ℕ) : Type 0 where
  pub from : a ≤ e
  pub within : e ≤ length s
  pub all : (j : ℕ) → a ≤ j → j < e → in_ranges (get_or s j 0) rs ≡ true
  pub stop : e < length s → in_ranges (get_or s e 0) rs ≡ false
