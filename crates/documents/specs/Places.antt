-- Lines and columns of a document. A line ends with LF, with CR, or with CR LF, which counts as one.
use Rattle.std.specs.Prelude.{Bool, true, false, not, ◌&&◌, ◌||◌, [], ◌∷◌, ℕ, zero, suc, ◌+◌, ltb, length, get_or, drop}
use Rattle.text.specs.Text.{Text, cond, is, between, computing as text_computing}
use Rattle.documents.specs.declared.places.Place.{Place}

-- Is byte i the last byte of a line end?
unfoldable pub ends_line : Text → ℕ → Bool
ends_line doc i = is "\n" (get_or doc i 0) || is "\r" (get_or doc i 0) && not (is "\n" (get_or doc (i + 1) 0))

-- UTF8-tail = %x80-BF
abbrev pub continues : ℕ → Bool
continues b = between 0x80 0xBF b

-- Behind one more byte, b at i. Behind a line end a new line begins; else the column is one more, unless the byte continues a character.
unfoldable pub passed : ℕ → ℕ → Bool → Place → Place
passed i b true p = record { line = p.line + 1; column = 1; start = i + 1 }
passed i b false p = cond (continues b) p (record { line = p.line; column = p.column + 1; start = p.start })

-- Line and column of a place, from 1 on, and where its line begins.
unfoldable pub place : Text → ℕ → Place
place doc zero = record { line = 1; column = 1; start = 0 }
place doc (suc i) = passed i (get_or doc i 0) (ends_line doc i) (place doc i)

-- LF or CR
abbrev pub breaks : ℕ → Bool
breaks b = is "\n" b || is "\r" b

-- The text up to the next LF or CR has so many bytes.
unfoldable pub left_in_line : Text → ℕ
left_in_line [] = 0
left_in_line (b ∷ s) = let n = left_in_line s in cond (breaks b) 0 (n + 1)

-- A place past the end is the end.
abbrev pub within : Text → ℕ → ℕ
within doc at = cond (ltb (length doc) at) (length doc) at

abbrev pub line_end : Text → ℕ → ℕ
line_end doc at = at + left_in_line (drop at doc)

-- All that computes here; an example that is checked by evaluation names it.
unfoldable pub computing : ℕ
unfolding text_computing ends_line passed place left_in_line
computing = 0
