-- What the routines compute: the size of a sequence by the leading ones of its first byte.
use Rattle.std.proofs.Math.Option.{Option, none, some}
use Rattle.std.specs.Prelude.{ℕ, ◌-◌, eqb, ltb, length, get_or, Option as Answer, Some, None}
use Rattle.std.specs.Int.Count.{count_leading_zeros}
use Rattle.text.specs.Text.{Text, cond, between}

-- An answer as a place.
abbrev pub bad_place : Answer ℕ → Option ℕ
bad_place None = none
bad_place (Some i) = some i

abbrev pub leading_ones : ℕ → ℕ
leading_ones b = count_leading_zeros 8 (255 - b)

-- How many bytes the sequences have that begin with b; 0 where none does.
abbrev pub lead_size : ℕ → ℕ
lead_size b = cond (eqb (leading_ones b) 0) 1 (cond (ltb b 0xC2) 0 (cond (ltb 0xF4 b) 0 (leading_ones b)))

-- The range of the second byte after the first byte b.
abbrev pub second_low : ℕ → ℕ
second_low b = cond (eqb b 0xE0) 0xA0 (cond (eqb b 0xF0) 0x90 0x80)

abbrev pub second_high : ℕ → ℕ
second_high b = cond (eqb b 0xED) 0x9F (cond (eqb b 0xF4) 0x8F 0xBF)

-- The size of the sequence at the front, where the first byte says n.
abbrev pub sized : ℕ → Text → ℕ
sized n s =
    cond (ltb n 2) n
    (cond (ltb (length s) n) 0
    (cond (between (second_low (get_or s 0 0)) (second_high (get_or s 0 0)) (get_or s 1 0))
    (cond (eqb n 2) 2 (cond (between 0x80 0xBF (get_or s 2 0)) (cond (eqb n 3) 3 (cond (between 0x80 0xBF (get_or s 3 0)) 4 0)) 0))
    0))
