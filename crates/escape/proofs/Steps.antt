-- Laws of the definition's scan: what it does at a byte, and where hex digits are to come.
use Prim.Native.Nat.{ℕ, zero, suc, ◌+◌, ◌*◌, ◌≤◌, ◌<◌}
use mathlib.Core.Path.{◌≡◌, refl}
use mathlib.Core.List.{[], ◌∷◌}
use mathlib.Core.Bool.{true, false}
use native.Mathlib.Omega.{arith}
use lib.ListN.{length, get_or, take, drop, drop_of_length-le}
use lib.Seq.{drop-cons}
use native.Mathlib.Numerals.{add-one}
use lib.Dec.{eqb}
use Rattle.text.specs.Text.{Text}
use Rattle.escape.specs.Escape.{plain, numeric, letter, outside, behind, digits, hex_value, pieces_from}
use Rattle.escape.specs.Code.{number, most}

pub at_backslash : (c : ℕ) (cs : Text) → eqb c 92 ≡ true → pieces_from outside (c ∷ cs) ≡ pieces_from behind cs
unfolding pieces_from
at_backslash c cs e = rw (e, pieces_from)

pub at_plain : (c : ℕ) (cs : Text) → eqb c 92 ≡ false → pieces_from outside (c ∷ cs) ≡ plain c ∷ pieces_from outside cs
unfolding pieces_from
at_plain c cs e = rw (e, pieces_from)

pub at_short : (c : ℕ) (cs : Text) → eqb c 117 ≡ true → pieces_from behind (c ∷ cs) ≡ pieces_from (digits 3 0) cs
unfolding pieces_from
at_short c cs e = rw (e, pieces_from)

pub at_long : (c : ℕ) (cs : Text) → eqb c 117 ≡ false → eqb c 85 ≡ true → pieces_from behind (c ∷ cs) ≡ pieces_from (digits 7 0) cs
unfolding pieces_from
at_long c cs e f = rw (e, f, pieces_from)

pub at_letter : (c : ℕ) (cs : Text) → eqb c 117 ≡ false → eqb c 85 ≡ false → pieces_from behind (c ∷ cs) ≡ letter c ∷ pieces_from outside cs
unfolding pieces_from
at_letter c cs e f = rw (e, f, pieces_from)

-- n digits more than one are to come, and they are there; or the text ends before.
pub at_digits : (n v : ℕ) (s : Text) → n < length s → pieces_from (digits n v) s ≡ numeric (number v (take (suc n) s)) ∷ pieces_from outside (drop (suc n) s)
unfolding pieces_from number
at_digits n v [] h = absurd (omega arith)
at_digits zero v (c ∷ s) h = refl
at_digits (suc n) v (c ∷ s) h = at_digits n (v * 16 + hex_value c) s (omega arith)

pub too_few : (n v : ℕ) (s : Text) → length s ≤ n → pieces_from (digits n v) s ≡ []
unfolding pieces_from
too_few n v [] h = refl
too_few zero v (c ∷ s) h = absurd (omega arith)
too_few (suc n) v (c ∷ s) h = too_few n (v * 16 + hex_value c) s (omega arith)

-- Numbers of few digits are small.
pub most_small : (k : ℕ) → k < 8 → most k * 16 + 168 < 1099511627776
unfolding most
most_small zero h = omega arith
most_small (suc zero) h = omega arith
most_small (suc (suc zero)) h = omega arith
most_small (suc (suc (suc zero))) h = omega arith
most_small (suc (suc (suc (suc zero)))) h = omega arith
most_small (suc (suc (suc (suc (suc zero))))) h = omega arith
most_small (suc (suc (suc (suc (suc (suc zero)))))) h = omega arith
most_small (suc (suc (suc (suc (suc (suc (suc zero))))))) h = omega arith
most_small (suc (suc (suc (suc (suc (suc (suc (suc k)))))))) h = absurd (omega arith)

pub most_more : (k v d : ℕ) → v ≤ most k → d ≤ 168 → v * 16 + d ≤ most (k + 1)
unfolding most
most_more k v d h g = rw (add-one k) (omega arith)

-- A digit more, and the last.
pub number_more : (v : ℕ) (s : Text) (i : ℕ) → i < length s → number v (drop i s) ≡ number (v * 16 + hex_value (get_or s i 0)) (drop (i + 1) s)
unfolding number
number_more v s i h = rw (add-one i, drop-cons s i 0 h)

pub number_end : (v : ℕ) (s : Text) (i : ℕ) → length s ≤ i → number v (drop i s) ≡ v
unfolding number
number_end v s i h = rw (drop_of_length-le s {i = i} h)
