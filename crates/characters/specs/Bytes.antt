-- Sets of bytes below 128.
use Rattle.std.specs.Prelude.{Bool, false, List, [], ◌∷◌, ◌++◌, ℕ, ◌-◌, ◌/◌, ◌%◌, ◌^◌, eqb, ltb}
use Rattle.text.specs.Text.{cond}
use Rattle.utf8.specs.Utf8.{Range, ◌–◌}

abbrev pub digit : List Range
digit = (48 – 57) ∷ []

abbrev pub letter : List Range
letter = (65 – 90) ∷ (97 – 122) ∷ []

abbrev pub letter_or_digit : List Range
letter_or_digit = digit ++ letter

abbrev pub hex : List Range
hex = (48 – 57) ∷ (65 – 70) ∷ (97 – 102) ∷ []

abbrev pub sign : List Range
sign = (43 – 43) ∷ (45 – 45) ∷ []

abbrev pub exponent : List Range
exponent = (69 – 69) ∷ (101 – 101) ∷ []

-- PN_CHARS below 128; with the colon; and the first character of PN_LOCAL and of a label.
abbrev pub name : List Range
name = letter_or_digit ++ (95 – 95) ∷ (45 – 45) ∷ []

abbrev pub local : List Range
local = name ++ (58 – 58) ∷ []

abbrev pub label_first : List Range
label_first = letter_or_digit ++ (95 – 95) ∷ []

abbrev pub local_first : List Range
local_first = label_first ++ (58 – 58) ∷ []

-- PN_LOCAL_ESC and ECHAR after the backslash.
abbrev pub reserved : List Range
reserved = (33 – 33) ∷ (35 – 47) ∷ (59 – 59) ∷ (61 – 61) ∷ (63 – 64) ∷ (95 – 95) ∷ (126 – 126) ∷ []

abbrev pub echar : List Range
echar = (34 – 34) ∷ (39 – 39) ∷ (92 – 92) ∷ (98 – 98) ∷ (102 – 102) ∷ (110 – 110) ∷ (114 – 114) ∷ (116 – 116) ∷ []

-- What may stand in an IRIREF.
abbrev pub iri : List Range
iri = (33 – 33) ∷ (35 – 59) ∷ (61 – 61) ∷ (63 – 91) ∷ (93 – 93) ∷ (95 – 95) ∷ (97 – 122) ∷ (126 – 127) ∷ []

-- The bit of a byte in two numbers: in the first of a byte below 64, in the second of the others below 128.
abbrev pub bit_at : ℕ → ℕ → ℕ → Bool
bit_at low high b = cond (ltb b 64) (eqb (low / 2 ^ b % 2) 1) (cond (ltb b 128) (eqb (high / 2 ^ (b - 64) % 2) 1) false)
