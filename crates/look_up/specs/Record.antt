-- A record of an index of subjects (C-16), written and read.
use Rattle.std.specs.Prelude.{List, [], ◌∷◌, ◌++◌, Bool, ◌&&◌, ℕ, zero, suc, ◌+◌, ◌*◌, ◌-◌, ◌/◌, ◌%◌, leb, length, get_or, take, drop}
use Rattle.std.proofs.Math.Option.{Option, none, some}
use Rattle.text.specs.Text.{Text, cond, begins}
use Rattle.text.specs.Words.{four_at}
pub use Rattle.look_up.specs.declared.Rows.{Rows}

abbrev pub rows : ℕ → ℕ → Rows
rows count first = record { count = count; first = first }

-- ---- Written

-- "the two bytes 47 58 hex"
abbrev pub mark : Text
mark = 0x47 ∷ 0x58 ∷ []

-- "all low byte first"
abbrev pub two_bytes : ℕ → Text
two_bytes n = n % 256 ∷ n / 256 % 256 ∷ []

abbrev pub four_bytes : ℕ → Text
four_bytes n = n % 256 ∷ n / 256 % 256 ∷ n / 65536 % 256 ∷ n / 16777216 % 256 ∷ []

-- "the text length in two bytes, the number of its rows in four, the number of its first row (from 0) in four, .. then the text"
unfoldable pub head_of : ℕ → Rows → Text
head_of size r = mark ++ two_bytes size ++ four_bytes r.count ++ four_bytes r.first

abbrev pub record_of : Text → Rows → Text
record_of t r = head_of (length t) r ++ t

-- ---- Read, from the front of some bytes

-- So many bytes stand before the text.
abbrev pub head_size : ℕ
head_size = 12

unfoldable pub size_of : Text → ℕ
size_of bytes = get_or bytes 2 0 + 256 * get_or bytes 3 0

unfoldable pub text_of : Text → Text
text_of bytes = take (size_of bytes) (drop head_size bytes)

abbrev pub rows_of : Text → Rows
rows_of bytes = rows (four_at bytes 4) (four_at bytes 8)

-- It has its mark, a length up to a limit, and is not cut short.
unfoldable pub is_record : ℕ → Text → Bool
is_record limit bytes = begins mark bytes && leb (size_of bytes) limit && leb (head_size + size_of bytes) (length bytes)

pub record Entry : Type 0 where
  pub text : Text
  pub rows : Rows

abbrev pub entry_of : Text → Entry
entry_of bytes = record { text = text_of bytes; rows = rows_of bytes }

-- The records one behind the other, up to the first place where none stands; so many bytes of one are left to pass.
unfoldable pub entries_from : ℕ → ℕ → Text → List (Option Entry)
entries_from limit left [] = []
entries_from limit (suc left) (b ∷ bs) = entries_from limit left bs
entries_from limit zero (b ∷ bs) =
    let bytes = b ∷ bs in
    let rest = entries_from limit (head_size + size_of bytes - 1) bs in
    cond (is_record limit bytes) (some (entry_of bytes) ∷ rest) (none ∷ [])

abbrev pub entries : ℕ → Text → List (Option Entry)
entries limit bytes = entries_from limit 0 bytes
