-- Escapes undone, and those that name no character, by computing.
use mathlib.Core.Path.{refl}
use mathlib.Core.Bool.{true, false}
use mathlib.Core.List.{[], ◌∷◌}
use Rattle.text.specs.Text.{ascii}
use Rattle.text.proofs.Table.{◌⇒◌, Gives}
use Rattle.escape.specs.Escape.{hex_value, unescape, bad_escape, no_character, unreserve, computing}

-- [0-9], [A-F] and [a-f] at their bounds.
hex_values : Gives hex_value (48 ⇒ 0 ∷ 57 ⇒ 9 ∷ 65 ⇒ 10 ∷ 70 ⇒ 15 ∷ 97 ⇒ 10 ∷ 102 ⇒ 15 ∷ [])
unfolding computing
hex_values = refl

-- The table of string escapes (4.4), numeric escapes of one to four bytes, and what only looks like an escape.
unescaped : Gives (λ s. unescape (ascii s)) (
    "" ⇒ []
    ∷ "ab" ⇒ (97 ∷ 98 ∷ [])
    ∷ "\\t\\b\\n\\r\\f\\\"\\'\\\\" ⇒ (9 ∷ 8 ∷ 10 ∷ 13 ∷ 12 ∷ 34 ∷ 39 ∷ 92 ∷ [])
    ∷ "a\\u0041b" ⇒ (97 ∷ 65 ∷ 98 ∷ [])
    ∷ "\\u00411" ⇒ (65 ∷ 49 ∷ [])
    ∷ "\\U000000411" ⇒ (65 ∷ 49 ∷ [])
    ∷ "\\u007F\\u0080" ⇒ (0x7F ∷ 0xC2 ∷ 0x80 ∷ [])
    ∷ "\\u07ff\\u0800" ⇒ (0xDF ∷ 0xBF ∷ 0xE0 ∷ 0xA0 ∷ 0x80 ∷ [])
    ∷ "\\uABCD\\uef01" ⇒ (0xEA ∷ 0xAF ∷ 0x8D ∷ 0xEE ∷ 0xBC ∷ 0x81 ∷ [])
    ∷ "\\uFFFF\\U00010000\\U0010FFFF" ⇒ (0xEF ∷ 0xBF ∷ 0xBF ∷ 0xF0 ∷ 0x90 ∷ 0x80 ∷ 0x80 ∷ 0xF4 ∷ 0x8F ∷ 0xBF ∷ 0xBF ∷ [])
    ∷ "\\\\u0041" ⇒ ascii "\\u0041"
    ∷ "\\\\\\u0041" ⇒ ascii "\\A"
    ∷ "\\u005Ct" ⇒ ascii "\\t"
    ∷ [])
unfolding computing
unescaped = refl

-- D800 to DFFF, and over 10FFFF.
no_characters : Gives no_character (0xD7FF ⇒ false ∷ 0xD800 ⇒ true ∷ 0xDFFF ⇒ true ∷ 0xE000 ⇒ false ∷ 0x10FFFF ⇒ false ∷ 0x110000 ⇒ true ∷ 0xFFFFFFFF ⇒ true ∷ [])
unfolding computing
no_characters = refl

bad_escapes : Gives (λ s. bad_escape (ascii s)) (
    "" ⇒ false
    ∷ "uD800" ⇒ false
    ∷ "\\uD800" ⇒ true
    ∷ "a\\t\\u0041\\uDFFFb" ⇒ true
    ∷ "\\uD7FF\\uE000\\U0010FFFF" ⇒ false
    ∷ "\\U00110000" ⇒ true
    ∷ "\\UFFFFFFFF" ⇒ true
    ∷ "\\\\uD800" ⇒ false
    ∷ "\\\\\\uD800" ⇒ true
    ∷ [])
unfolding computing
bad_escapes = refl

-- Reserved escapes are undone, percent signs kept.
unreserved : Gives (λ s. unreserve (ascii s)) (
    "" ⇒ []
    ∷ "a.b" ⇒ ascii "a.b"
    ∷ "\\_\\~\\.\\-\\!\\$\\&\\'\\(\\)\\*\\+\\,\\;\\=\\/\\?\\#\\@\\%" ⇒ ascii "_~.-!$&'()*+,;=/?#@%"
    ∷ "a\\/..\\/b%66" ⇒ ascii "a/../b%66"
    ∷ [])
unfolding computing
unreserved = refl
