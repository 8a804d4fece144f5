-- Writing a text from a place of the output on.
use Rattle.std.specs.Prelude.{◌≡◌, [], ◌∷◌, ◌++◌, ℕ, ◌+◌, ◌/◌, ◌%◌, ◌^◌, ◌<◌, length, Option, Some, None}
use Rattle.text.specs.Text.{Text, ascii, cond, is}
use Rattle.text.specs.Slice.{over_at}
use Rattle.table.specs.LongForm.{hex_digit, iri_byte, string_byte}
use Rattle.writer.specs.declared.bytes.Rule.{Rule}
use Rattle.writer.specs.declared.bytes.Rule.TheVariants.{Plain, Iri, Literal}

-- The place behind the text is a number that the code can hold.
pub record Countable (at : ℕ) (s : Text) : Type 0 where
  pub fits : at + length s < 2 ^ 64

-- The text s was written from the place `at` on over x, as far as it goes, which gave y; the place behind it is r.
pub record Wrote (at : ℕ) (s x y : Text) (r : ℕ) : Type 0 where
  pub end : r ≡ at + length s
  pub out : y ≡ over_at at s x

-- \u00 and two digits.
abbrev pub code_form : ℕ → Text
code_form c = ascii "\\u00" ++ hex_digit (c / 16) ∷ hex_digit (c % 16) ∷ []

-- What stands behind the backslash, where there is one.
unfoldable pub escape_of : ℕ → Option ℕ
escape_of c = cond (is "\"" c) (Some 34) (cond (is "\\" c) (Some 92) (cond (is "\n" c) (Some 110) (cond (is "\r" c) (Some 114) None)))

unfoldable pub byte_form : Rule → ℕ → Text
byte_form Plain c = c ∷ []
byte_form Iri c = iri_byte c
byte_form Literal c = string_byte c
