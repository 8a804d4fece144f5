-- Escape sequences (TriG, section 4.4): numeric and string escapes in references and strings, reserved character escapes in local names.
use Rattle.std.specs.Prelude.{List, [], ◌∷◌, ◌++◌, Bool, true, false, ◌||◌, ℕ, zero, suc, ◌+◌, ◌*◌, ◌-◌, ltb}
use Rattle.text.specs.Text.{Text, cond, is, between, computing as text_computing}
use Rattle.utf8.specs.Utf8.{encode, computing as utf8_computing}

-- A text is a list of pieces: a byte as it is, a numeric escape (UCHAR), a character behind a backslash (ECHAR).
pub data Piece : Type 0 where
  plain numeric letter : ℕ → Piece

-- Where the scan is: outside an escape, behind a backslash, or where so many hex digits more than one are to come, after a number so far.
pub data Scan : Type 0 where
  outside behind : Scan
  digits : ℕ → ℕ → Scan

unfoldable pub hex_value : ℕ → ℕ
hex_value c = cond (ltb c 58) (c - 48) (cond (ltb c 71) (c - 55) (c - 87))

unfoldable pub pieces_from : Scan → Text → List Piece
pieces_from s [] = []
pieces_from outside (c ∷ cs) = elim (is "\\" c) [ true ↦ pieces_from behind cs | false ↦ plain c ∷ pieces_from outside cs ]
pieces_from behind (c ∷ cs) =
    elim (is "u" c) [
      | true ↦ pieces_from (digits 3 0) cs
      | false ↦ elim (is "U" c) [ true ↦ pieces_from (digits 7 0) cs | false ↦ letter c ∷ pieces_from outside cs ]
    ]
pieces_from (digits zero v) (c ∷ cs) = numeric (v * 16 + hex_value c) ∷ pieces_from outside cs
pieces_from (digits (suc n) v) (c ∷ cs) = pieces_from (digits n (v * 16 + hex_value c)) cs

unfoldable pub pieces : Text → List Piece
pieces s = pieces_from outside s

-- \t \b \n \r \f; the others of ECHAR, \" \' \\, stand for the character itself.
unfoldable pub letter_value : ℕ → ℕ
letter_value c = cond (is "t" c) 9 (cond (is "b" c) 8 (cond (is "n" c) 10 (cond (is "r" c) 13 (cond (is "f" c) 12 c))))

unfoldable pub unescape_piece : Piece → Text
unescape_piece (plain c) = c ∷ []
unescape_piece (numeric v) = encode v
unescape_piece (letter c) = letter_value c ∷ []

unfoldable pub unescape_pieces : List Piece → Text
unescape_pieces [] = []
unescape_pieces (u ∷ us) = unescape_piece u ++ unescape_pieces us

-- The text with its numeric and string escapes undone.
unfoldable pub unescape : Text → Text
unescape s = unescape_pieces (pieces s)

-- A number that names no character: "D800 to DFFF or over 10FFFF".
unfoldable pub no_character : ℕ → Bool
no_character v = between 0xD800 0xDFFF v || ltb 0x10FFFF v

unfoldable pub bad_pieces : List Piece → Bool
bad_pieces [] = false
bad_pieces (plain c ∷ us) = bad_pieces us
bad_pieces (numeric v ∷ us) = no_character v || bad_pieces us
bad_pieces (letter c ∷ us) = bad_pieces us

-- Does a numeric escape of the text name no character?
unfoldable pub bad_escape : Text → Bool
bad_escape s = bad_pieces (pieces s)

-- "reserved escapes undone, percent signs kept": PN_LOCAL_ESC is a backslash and a character that is none.
unfoldable pub unreserve : Text → Text
unreserve [] = []
unreserve (c ∷ s) = let r = unreserve s in cond (is "\\" c) r (c ∷ r)

-- All that computes here; an example that is checked by evaluation names it.
unfoldable pub computing : ℕ
unfolding text_computing utf8_computing hex_value pieces_from pieces letter_value unescape_piece unescape_pieces unescape no_character bad_pieces bad_escape unreserve
computing = 0
