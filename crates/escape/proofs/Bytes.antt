-- A text whose escapes all name characters stands for bytes.
use Prim.Native.Nat.{ℕ, zero, suc, ◌+◌, ◌*◌, ◌/◌, ◌%◌, ◌≤◌, ◌<◌}
use mathlib.Core.Path.{◌≡◌, refl}
use mathlib.Core.List.{List, [], ◌∷◌, ◌++◌}
use mathlib.Core.Bool.{Bool, true, false, ◌||◌}
use native.Mathlib.Nat.{mod-eq_of_lt}
use native.Mathlib.Omega.{arith}
use lib.ListN.{get_or, take, drop}
use lib.Dec.{eqb, ltb}
use borrow.Author.Tests.{ltb-true, ltb-false}
use Rattle.text.specs.Text.{Text, between}
use Rattle.text.proofs.Compare.{by, contrary}
use Rattle.utf8.specs.Utf8.{encode}
use Rattle.escape.specs.Escape.{Piece, plain, numeric, letter, outside, behind, digits, letter_value, pieces_from, pieces, unescape_piece, unescape_pieces, unescape, bad_pieces, bad_escape, no_character, unreserve}
use Rattle.escape.specs.Escape as escape
use Rattle.escape.specs.Code.{low}
use Rattle.escape.proofs.Steps.{at_backslash, at_plain, at_short, at_long, at_letter}

-- Each number is a byte.
pub data Bytes : Text → Type 0 where
  none : Bytes []
  more : {b : ℕ} {s : Text} → b < 256 → Bytes s → Bytes (b ∷ s)

pub bytes_of : (s : Text) → ((i : ℕ) → get_or s i 0 < 256) → Bytes s
bytes_of [] f = none
bytes_of (b ∷ s) f = more (f 0) (bytes_of s (λ i. f (suc i)))

pub bytes_take : {s : Text} (n : ℕ) → Bytes s → Bytes (take n s)
bytes_take zero b = none
bytes_take (suc n) none = none
bytes_take (suc n) (more h b) = more h (bytes_take n b)

pub bytes_drop : {s : Text} (n : ℕ) → Bytes s → Bytes (drop n s)
bytes_drop zero b = b
bytes_drop (suc n) none = none
bytes_drop (suc n) (more h b) = bytes_drop n b

bytes_append : {s t : Text} → Bytes s → Bytes t → Bytes (s ++ t)
bytes_append none q = q
bytes_append (more h p) q = more h (bytes_append p q)

pub low_bytes : {s : Text} → Bytes s → low s ≡ s
unfolding low
low_bytes none = refl
low_bytes (more {b} h p) = let e : b % 256 ≡ b = mod-eq_of_lt h in rw (e, low_bytes p)

pub unreserve_bytes : {s : Text} → Bytes s → Bytes (unreserve s)
unfolding unreserve
unreserve_bytes none = none
unreserve_bytes (more {b} h p) = by (eqb b 92) (λ e. rw e (unreserve_bytes p)) (λ e. rw e (more h (unreserve_bytes p)))

-- The pieces of bytes hold bytes.
data Fine : List Piece → Type 0 where
  end : Fine []
  plainly : {c : ℕ} {us : List Piece} → c < 256 → Fine us → Fine (plain c ∷ us)
  by_letter : {c : ℕ} {us : List Piece} → c < 256 → Fine us → Fine (letter c ∷ us)
  by_number : {v : ℕ} {us : List Piece} → Fine us → Fine (numeric v ∷ us)

fine_pieces : (p : escape.Scan) {cs : Text} → Bytes cs → Fine (pieces_from p cs)
unfolding pieces_from
fine_pieces outside none = end
fine_pieces behind none = end
fine_pieces (digits n v) none = end
fine_pieces outside (more {b = c} {s = cs} h b) = by (eqb c 92) (λ e. rw (at_backslash c cs e) (fine_pieces behind b)) (λ e. rw (at_plain c cs e) (plainly h (fine_pieces outside b)))
fine_pieces behind (more {b = c} {s = cs} h b) =
    by (eqb c 117) (λ e. rw (at_short c cs e) (fine_pieces (digits 3 0) b))
    (λ e. by (eqb c 85) (λ f. rw (at_long c cs e f) (fine_pieces (digits 7 0) b)) (λ f. rw (at_letter c cs e f) (by_letter h (fine_pieces outside b))))
fine_pieces (digits zero v) (more h b) = by_number (fine_pieces outside b)
fine_pieces (digits (suc n) v) (more {b = c} h b) = fine_pieces (digits n (v * 16 + escape.hex_value c)) b

letter_byte : (c : ℕ) → c < 256 → letter_value c < 256
unfolding letter_value
letter_byte c h =
    by (eqb c 116) (λ e. rw e (omega arith)) (λ e. by (eqb c 98) (λ f. rw (e, f) (omega arith)) (λ f. by (eqb c 110) (λ g. rw (e, f, g) (omega arith))
    (λ g. by (eqb c 114) (λ i. rw (e, f, g, i) (omega arith)) (λ i. by (eqb c 102) (λ j. rw (e, f, g, i, j) (omega arith)) (λ j. rw (e, f, g, i, j) h)))))

encode_bytes : (v : ℕ) → v ≤ 0x10FFFF → Bytes (encode v)
encode_bytes v h =
    by (ltb v 0x80) (λ e. rw e (more {b = v} (omega (arith, ltb-true v 0x80 e)) none))
    (λ e. by (ltb v 0x800) (λ f. rw (e, f) (more {b = 0xC0 + v / 64} (omega (arith, ltb-true v 0x800 f)) last))
    (λ f. by (ltb v 0x10000) (λ g. rw (e, f, g) (more {b = 0xE0 + v / 4096} (omega (arith, ltb-true v 0x10000 g)) third))
    (λ g. rw (e, f, g) (more {b = 0xF0 + v / 262144} (omega arith) (more {b = 0x80 + v / 4096 % 64} (omega arith) third)))))
  where
    last : Bytes ((0x80 + v % 64) ∷ [])
    last = more {b = 0x80 + v % 64} (omega arith) none

    third : Bytes ((0x80 + v / 64 % 64) ∷ (0x80 + v % 64) ∷ [])
    third = more {b = 0x80 + v / 64 % 64} (omega arith) last

pub or_left : (a b : Bool) → (a || b) ≡ false → a ≡ false
or_left true b e = e
or_left false b e = refl

pub or_right : (a b : Bool) → (a || b) ≡ false → b ≡ false
or_right true b e = contrary e
or_right false b e = e

character : (v : ℕ) → no_character v ≡ false → v ≤ 0x10FFFF
unfolding no_character
character v e = ltb-false 0x10FFFF v (or_right (between 0xD800 0xDFFF v) (ltb 0x10FFFF v) e)

pieces_bytes : {us : List Piece} → Fine us → bad_pieces us ≡ false → Bytes (unescape_pieces us)
unfolding bad_pieces unescape_pieces unescape_piece
pieces_bytes end e = none
pieces_bytes (plainly h f) e = more h (pieces_bytes f e)
pieces_bytes (by_letter {c} h f) e = more (letter_byte c h) (pieces_bytes f e)
pieces_bytes (by_number {v} {us} f) e = bytes_append (encode_bytes v (character v (or_left (no_character v) (bad_pieces us) e))) (pieces_bytes f (or_right (no_character v) (bad_pieces us) e))

pub unescape_bytes : {s : Text} → Bytes s → bad_escape s ≡ false → Bytes (unescape s)
unfolding unescape bad_escape pieces
unescape_bytes b e = pieces_bytes (fine_pieces outside b) e
