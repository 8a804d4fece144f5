-- Hashing a text part by part.
use Prim.Native.Nat.{ℕ, ◌+◌, ◌*◌, ◌/◌, ◌%◌, ◌≤◌, ◌<◌}
use mathlib.Core.Path.{◌≡◌, refl, ap, sym, ◌∙◌}
use mathlib.Core.List.{[], ◌∷◌, ◌++◌}
use native.Mathlib.Numerals.{add-one}
use native.Mathlib.Nat.{mul-le-mul, mod-eq_of_lt, div-add-mod', mul-add-mod_self_right}
use native.Mathlib.Omega.{arith}
use lib.ListN.{length, get_or, drop, drop_of_length-le}
use lib.Seq.{drop-cons}
use Rattle.text.specs.Text.{Text}
use Rattle.escape.specs.Code.{undone, shown, Yields}
use Rattle.escape.specs.declared.Escapes.{Escapes}
use Rattle.escape.specs.declared.Stretch.{Stretch}
use Rattle.spelling.specs.Hash.{first_multiplier, most_multiplier, stir, stir_4, hash_from}

pub product : (m h : ℕ) → m ≤ most_multiplier → h < 4294967296 → h * m ≤ 4294967296 * 33554432
product m h k l = mul-le-mul (let q : h ≤ 4294967296 = omega arith in q) k

-- Four steps at once: what is carried over from a step counts modulo 2^32 alone.
carried : (x n : ℕ) → (x % 4294967296 * 16777619 + n) % 4294967296 ≡ (x * 16777619 + n) % 4294967296
carried x n =
    let z : x * 16777619 + n ≡ x / 4294967296 * 16777619 * 4294967296 + (x % 4294967296 * 16777619 + n) = omega (arith, div-add-mod' x 4294967296) in
    sym (ap (λ (k : ℕ). k % 4294967296) z ∙ mul-add-mod_self_right (x / 4294967296 * 16777619) 4294967296 (x % 4294967296 * 16777619 + n))

reduced : (h a b c d : ℕ) → (h * 1345077009 + (a * 1055306571 + b * 637696617 + c * 16777619 + d)) % 4294967296 ≡ ((((h * 16777619 + a) * 16777619 + b) * 16777619 + c) * 16777619 + d) % 4294967296
reduced h a b c d = omega arith

pub four_steps : (h a b c d : ℕ) → (h * 1345077009 + (a * 1055306571 + b * 637696617 + c * 16777619 + d)) % 4294967296 ≡ stir_4 h a b c d
unfolding stir_4 stir
four_steps h a b c d =
    reduced h a b c d
    ∙ sym (rw (carried (h * 16777619 + a) b, carried ((h * 16777619 + a) * 16777619 + b) c, carried (((h * 16777619 + a) * 16777619 + b) * 16777619 + c) d))

module _ (m : ℕ) where
  pub hash_append : (h : ℕ) (s t : Text) → hash_from m h (s ++ t) ≡ hash_from m (hash_from m h s) t
  unfolding hash_from
  hash_append h [] t = refl
  hash_append h (b ∷ s) t = hash_append (stir m h (b % 256)) s t

  -- One byte more, and the end.
  pub hash_more : (h : ℕ) (s : Text) (i : ℕ) → i < length s → hash_from m h (drop i s) ≡ hash_from m (stir m h (get_or s i 0 % 256)) (drop (i + 1) s)
  unfolding hash_from
  hash_more h s i l = rw (add-one i, drop-cons s i 0 l)

  pub hash_end : (h : ℕ) (s : Text) (i : ℕ) → length s ≤ i → hash_from m h (drop i s) ≡ h
  unfolding hash_from
  hash_end h s i l = rw (drop_of_length-le s {i = i} l)

  -- A part of an escaped text is mixed in.
  pub hash_part : (k : Escapes) (s t : Text) (p : Stretch) → Yields k s t p → (h n : ℕ) → n ≡ hash_from m h (shown p) → hash_from m h (undone k s) ≡ hash_from m n (undone k t)
  hash_part k s t p y h n e = ap (hash_from m h) y.text ∙ (hash_append h (shown p) (undone k t) ∙ rw e)

  pub hash_none : (k : Escapes) (s : Text) (h : ℕ) → undone k s ≡ [] → hash_from m h (undone k s) ≡ h
  unfolding hash_from
  hash_none k s h e = rw e

-- Four bytes of a text.
pub hash_four : (h : ℕ) (s : Text) (i : ℕ) → i + 4 ≤ length s → ((k : ℕ) → get_or s k 0 < 256)
    → hash_from first_multiplier h (drop i s) ≡ hash_from first_multiplier (stir_4 h (get_or s i 0) (get_or s (i + 1) 0) (get_or s (i + 2) 0) (get_or s (i + 3) 0)) (drop (i + 4) s)
unfolding stir_4
hash_four h s i l small =
    one h i (omega arith)
    ∙ (one (stir first_multiplier h (get_or s i 0)) (i + 1) (omega arith)
    ∙ (at_next (stir first_multiplier (stir first_multiplier h (get_or s i 0)) (get_or s (i + 1) 0)) (i + 1 + 1) (i + 2) (omega arith)
    ∙ (one (stir first_multiplier (stir first_multiplier h (get_or s i 0)) (get_or s (i + 1) 0)) (i + 2) (omega arith)
    ∙ (at_next (stir first_multiplier (stir first_multiplier (stir first_multiplier h (get_or s i 0)) (get_or s (i + 1) 0)) (get_or s (i + 2) 0)) (i + 2 + 1) (i + 3) (omega arith)
    ∙ (one (stir first_multiplier (stir first_multiplier (stir first_multiplier h (get_or s i 0)) (get_or s (i + 1) 0)) (get_or s (i + 2) 0)) (i + 3) (omega arith)
    ∙ at_next (stir first_multiplier (stir first_multiplier (stir first_multiplier (stir first_multiplier h (get_or s i 0)) (get_or s (i + 1) 0)) (get_or s (i + 2) 0)) (get_or s (i + 3) 0)) (i + 3 + 1) (i + 4) (omega arith))))))
  where
    one : (h j : ℕ) → j < length s → hash_from first_multiplier h (drop j s) ≡ hash_from first_multiplier (stir first_multiplier h (get_or s j 0)) (drop (j + 1) s)
    one h j g =
        hash_more first_multiplier h s j g
        ∙ ap (λ (n : ℕ). hash_from first_multiplier (stir first_multiplier h n) (drop (j + 1) s)) (mod-eq_of_lt (small j))

    at_next : (h j k : ℕ) → j ≡ k → hash_from first_multiplier h (drop j s) ≡ hash_from first_multiplier h (drop k s)
    at_next h j k e = ap (λ (n : ℕ). hash_from first_multiplier h (drop n s)) e

pub first_byte : (s : Text) (i w : ℕ) → ((k : ℕ) → get_or s k 0 < 256) → w ≡ get_or s i 0 → w < 256
first_byte s i w small e = rw e (small i)
