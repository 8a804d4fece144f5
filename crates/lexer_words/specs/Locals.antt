-- The characters of PN_LOCAL.
use Rattle.std.specs.Prelude.{◌≡◌, Option, Some, None, Bool, true, false, ◌||◌, List, [], ◌∷◌, ℕ, ◌+◌, ◌≤◌, ◌<◌, eqb, length, get_or, drop}
use Rattle.text.specs.Text.{Text, cond}
use Rattle.utf8.specs.Utf8.{Range}
use Rattle.token.specs.Regular.{in_ranges}
use Rattle.characters.specs.Bytes.{reserved}
use Rattle.characters.specs.Runs.{hex_run}
use Rattle.characters.specs.Names.{CharAt}

abbrev pub reserved_size : Text → Option ℕ
reserved_size [] = None
reserved_size (b ∷ s) = cond (in_ranges b reserved) (Some 2) None

-- The length of PLX at the front.
unfoldable pub plx_size : Text → Option ℕ
plx_size [] = None
plx_size (b ∷ s) = cond (eqb b 37) (cond (hex_run 2 s) (Some 3) None) (cond (eqb b 92) (reserved_size s) None)

-- PLX begins with % or a backslash.
abbrev pub is_plx : ℕ → Bool
is_plx b = eqb b 37 || eqb b 92

-- r is the length of PLX at i, or of a code point that passes.
pub record LocalAt (rs : List Range) (least : ℕ) (s : Text) (i : ℕ) (r : Option ℕ) : Type 0 where
  pub within : (n : ℕ) → r ≡ Some n → (0 < n) × (i + n ≤ length s)
  pub plx : is_plx (get_or s i 0) ≡ true → r ≡ plx_size (drop i s)
  pub char : is_plx (get_or s i 0) ≡ false → CharAt rs least s i r
