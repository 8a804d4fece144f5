-- The lengths of escapes, after their backslash.
use Rattle.std.specs.Prelude.{Option, Some, None, [], ◌∷◌, ℕ, eqb}
use Rattle.text.specs.Text.{Text, cond}
use Rattle.token.specs.Regular.{in_ranges}
use Rattle.characters.specs.Bytes.{echar}
use Rattle.characters.specs.Runs.{hex_run}

-- u and four hexadecimal digits, or U and eight.
unfoldable pub uchar_size : Text → Option ℕ
uchar_size [] = None
uchar_size (b ∷ s) = cond (eqb b 117) (cond (hex_run 4 s) (Some 5) None) (cond (eqb b 85) (cond (hex_run 8 s) (Some 9) None) None)

-- One character of ECHAR, or that.
unfoldable pub escape_size : Text → Option ℕ
escape_size [] = None
escape_size (b ∷ s) = cond (in_ranges b echar) (Some 1) (uchar_size (b ∷ s))
