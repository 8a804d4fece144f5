-- UTF-8: the syntax of byte sequences in RFC 3629, section 4, and the code points they stand for.
use Rattle.std.specs.Prelude.{List, [], ◌∷◌, ◌++◌, Bool, true, false, ◌&&◌, ℕ, zero, suc, pred, ◌+◌, ◌*◌, ◌-◌, ◌^◌, ◌/◌, ◌%◌, eqb, ltb, length, take}
use Rattle.std.proofs.Math.Option.{Option, none, some}
use Rattle.text.specs.Text.{Text, cond, between, computing as text_computing}

-- The numbers from the first to the last.
infixl 60 ◌–◌
pub data Range : Type 0 where
  ◌–◌ : ℕ → ℕ → Range

-- UTF8-tail = %x80-BF
abbrev pub tail : Range
tail = 0x80 – 0xBF

-- UTF8-1, UTF8-2, UTF8-3 and UTF8-4: the range of each byte of a sequence.
unfoldable pub sequences : List (List Range)
sequences =
    ((0x00 – 0x7F) ∷ [])
    ∷ ((0xC2 – 0xDF) ∷ tail ∷ [])
    ∷ ((0xE0 – 0xE0) ∷ (0xA0 – 0xBF) ∷ tail ∷ [])
    ∷ ((0xE1 – 0xEC) ∷ tail ∷ tail ∷ [])
    ∷ ((0xED – 0xED) ∷ (0x80 – 0x9F) ∷ tail ∷ [])
    ∷ ((0xEE – 0xEF) ∷ tail ∷ tail ∷ [])
    ∷ ((0xF0 – 0xF0) ∷ (0x90 – 0xBF) ∷ tail ∷ tail ∷ [])
    ∷ ((0xF1 – 0xF3) ∷ tail ∷ tail ∷ tail ∷ [])
    ∷ ((0xF4 – 0xF4) ∷ (0x80 – 0x8F) ∷ tail ∷ tail ∷ [])
    ∷ []

-- Does the text begin with one byte of each range?
unfoldable pub fits : List Range → Text → Bool
fits [] s = true
fits (r ∷ rs) [] = false
fits ((lo – hi) ∷ rs) (b ∷ s) = let q = fits rs s in between lo hi b && q

unfoldable pub first_fit : List (List Range) → Text → ℕ
first_fit [] s = 0
first_fit (q ∷ qs) s = let r = first_fit qs s in cond (fits q s) (length q) r

-- How many bytes the sequence at the front has; 0 where there is none.
unfoldable pub sequence_size : Text → ℕ
sequence_size s = first_fit sequences s

-- Section 3: the code point of a sequence has the low bits of the first byte, then six bits of each other.
unfoldable pub lead_bits : ℕ → ℕ → ℕ
lead_bits n b = cond (eqb n 1) b (b % (2 ^ (7 - n)))

unfoldable pub more_bits : ℕ → Text → ℕ
more_bits v [] = v
more_bits v (b ∷ s) = more_bits (v * 64 + b % 64) s

unfoldable pub code_point : Text → ℕ
code_point [] = 0
code_point (b ∷ s) = more_bits (lead_bits (suc (length s)) b) s

-- The code points of a text; the number is of the bytes that the last one still has.
unfoldable pub decode_from : ℕ → Text → List ℕ
decode_from k [] = []
decode_from zero (b ∷ s) = let n = sequence_size (b ∷ s) in code_point (take n (b ∷ s)) ∷ decode_from (pred n) s
decode_from (suc k) (b ∷ s) = decode_from k s

unfoldable pub decode : Text → List ℕ
decode s = decode_from 0 s

-- Where the first bad sequence begins, if there is one: at `at`, k bytes of the sequence before are left.
unfoldable pub bad_from : ℕ → ℕ → Text → Option ℕ
bad_from at k [] = none
bad_from at zero (b ∷ s) = let n = sequence_size (b ∷ s) in let r = bad_from (suc at) (pred n) s in cond (eqb n 0) (some at) r
bad_from at (suc k) (b ∷ s) = bad_from (suc at) k s

unfoldable pub first_bad : Text → Option ℕ
first_bad s = bad_from 0 0 s

-- The bytes of a code point, and how many they are.
abbrev pub width : ℕ → ℕ
width c = cond (ltb c 0x80) 1 (cond (ltb c 0x800) 2 (cond (ltb c 0x10000) 3 4))

abbrev pub encode : ℕ → Text
encode c =
    cond (ltb c 0x80) (c ∷ [])
    (cond (ltb c 0x800) ((0xC0 + c / 64) ∷ (0x80 + c % 64) ∷ [])
    (cond (ltb c 0x10000) ((0xE0 + c / 4096) ∷ (0x80 + c / 64 % 64) ∷ (0x80 + c % 64) ∷ [])
    ((0xF0 + c / 262144) ∷ (0x80 + c / 4096 % 64) ∷ (0x80 + c / 64 % 64) ∷ (0x80 + c % 64) ∷ [])))

unfoldable pub encodes : List ℕ → Text
encodes [] = []
encodes (c ∷ cs) = encode c ++ encodes cs

-- All that computes here; an example that is checked by evaluation names it.
unfoldable pub computing : ℕ
unfolding text_computing sequences fits first_fit sequence_size lead_bits more_bits code_point decode_from decode bad_from first_bad encodes
computing = 0
