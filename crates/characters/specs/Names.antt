-- The code points of names: below 128 by a set of bytes, from 128 on by their level.
use Rattle.std.specs.Prelude.{◌≡◌, Option, Some, None, Bool, List, ◌++◌, ℕ, ◌+◌, ◌≤◌, ◌<◌, leb, ltb, length, drop}
use Rattle.text.specs.Text.{Text, cond}
use Rattle.utf8.specs.Utf8.{Range, encode, width}
use Rattle.utf8.specs.Scalar.{Scalar}
use Rattle.token.specs.Regular.{in_ranges}
use Rattle.automaton.specs.Levels.{level}

-- PN_CHARS_BASE is of the level 2, PN_CHARS of 1 and 2.
abbrev pub base : ℕ
base = 2

abbrev pub inner : ℕ
inner = 1

-- A code point of the set, or of at least this level.
abbrev pub passes : List Range → ℕ → ℕ → Bool
passes rs least c = cond (ltb c 128) (in_ranges c rs) (leb least (level c))

-- r is the length of the code point at i, if it passes.
pub record CharAt (rs : List Range) (least : ℕ) (s : Text) (i : ℕ) (r : Option ℕ) : Type 0 where
  pub within : (n : ℕ) → r ≡ Some n → (0 < n) × (i + n ≤ length s)
  pub right : (c : ℕ) (t : Text) → Scalar c → drop i s ≡ encode c ++ t → r ≡ cond (passes rs least c) (Some (width c)) None
