-- A slot that was set reads as what was set, and every other as before.
use mathlib.Core.Path.{◌≡◌, refl, ap, ◌∙◌}
use mathlib.Core.List.{[], ◌∷◌, ◌++◌}
use Prim.Native.Nat.{ℕ, zero, suc, ◌+◌, ◌*◌, ◌/◌, ◌%◌, ◌<◌, ◌≤◌}
use native.Mathlib.Nat.{suc-add}
use native.Mathlib.Omega.{arith}
use lib.ListN.{length, get_or, take, drop, set, length-set}
use lib.Seq.{get_or-set_same, get_or-set_other}
use Rattle.text.specs.Text.{Text}
use Rattle.text.specs.Words.{four_at}
use Rattle.term_tree.specs.Slots.{slot_at, put_slot}

pub put_length : (s : Text) (i v : ℕ) → length (put_slot s i v) ≡ length s
unfolding put_slot
put_length s i v = simp length-set

-- Four bytes at a place, and the byte at j behind them.
module _ (s : Text) (at a b c d : ℕ) (h : at + 4 ≤ length s) where
  abbrev four : Text
  four = set (set (set (set s at a) (at + 1) b) (at + 2) c) (at + 3) d

  byte_0 : get_or four at 0 ≡ a
  byte_0 =
      get_or-set_other (set (set (set s at a) (at + 1) b) (at + 2) c) (at + 3) at d 0 (λ e. omega arith)
      ∙ (get_or-set_other (set (set s at a) (at + 1) b) (at + 2) at c 0 (λ e. omega arith)
      ∙ (get_or-set_other (set s at a) (at + 1) at b 0 (λ e. omega arith) ∙ get_or-set_same s at a 0 (omega arith)))

  byte_1 : get_or four (at + 1) 0 ≡ b
  byte_1 =
      get_or-set_other (set (set (set s at a) (at + 1) b) (at + 2) c) (at + 3) (at + 1) d 0 (λ e. omega arith)
      ∙ (get_or-set_other (set (set s at a) (at + 1) b) (at + 2) (at + 1) c 0 (λ e. omega arith)
      ∙ get_or-set_same (set s at a) (at + 1) b 0 (simp length-set (omega arith)))

  byte_2 : get_or four (at + 2) 0 ≡ c
  byte_2 =
      get_or-set_other (set (set (set s at a) (at + 1) b) (at + 2) c) (at + 3) (at + 2) d 0 (λ e. omega arith)
      ∙ get_or-set_same (set (set s at a) (at + 1) b) (at + 2) c 0 (simp length-set (omega arith))

  byte_3 : get_or four (at + 3) 0 ≡ d
  byte_3 = get_or-set_same (set (set (set s at a) (at + 1) b) (at + 2) c) (at + 3) d 0 (simp length-set (omega arith))

byte_other : (s : Text) (at a b c d j : ℕ) → (j ≡ at → ⊥) → (j ≡ at + 1 → ⊥) → (j ≡ at + 2 → ⊥) → (j ≡ at + 3 → ⊥)
    → get_or (set (set (set (set s at a) (at + 1) b) (at + 2) c) (at + 3) d) j 0 ≡ get_or s j 0
byte_other s at a b c d j p q r t =
    get_or-set_other (set (set (set s at a) (at + 1) b) (at + 2) c) (at + 3) j d 0 t
    ∙ (get_or-set_other (set (set s at a) (at + 1) b) (at + 2) j c 0 r ∙ (get_or-set_other (set s at a) (at + 1) j b 0 q ∙ get_or-set_other s at j a 0 p))

-- Four digits to the base 256 make the number again.
digits : (v a b c d : ℕ) → v < 4294967296 → a ≡ v % 256 → b ≡ v / 256 % 256 → c ≡ v / 256 / 256 % 256 → d ≡ v / 256 / 256 / 256 % 256
    → a + 256 * b + 65536 * c + 16777216 * d ≡ v
digits v a b c d h p q r s = omega arith

pub slot_same : (s : Text) (i v : ℕ) → 4 * i + 4 ≤ length s → v < 4294967296 → slot_at (put_slot s i v) i ≡ v
unfolding slot_at four_at put_slot
slot_same s i v h l =
    let a = v % 256 in
    let b = v / 256 % 256 in
    let c = v / 256 / 256 % 256 in
    let d = v / 256 / 256 / 256 % 256 in
    digits v _ _ _ _ l (byte_0 s (4 * i) a b c d h) (byte_1 s (4 * i) a b c d h) (byte_2 s (4 * i) a b c d h) (byte_3 s (4 * i) a b c d h)

pub slot_other : (s : Text) (i v j : ℕ) → (j ≡ i → ⊥) → slot_at (put_slot s i v) j ≡ slot_at s j
unfolding slot_at four_at put_slot
slot_other s i v j ne =
    let a = v % 256 in
    let b = v / 256 % 256 in
    let c = v / 256 / 256 % 256 in
    let d = v / 256 / 256 / 256 % 256 in
    rw (same 0 (4 * j) (omega arith, omega arith), same 1 (4 * j + 1) (refl, omega arith), same 2 (4 * j + 2) (refl, omega arith), same 3 (4 * j + 3) (refl, omega arith))
  where
    apart : (k l : ℕ) → k < 4 → l < 4 → 4 * j + k ≡ 4 * i + l → ⊥
    apart k l p q e = ne (let r : j ≡ i = omega arith in r)

    same : (k n : ℕ) → (n ≡ 4 * j + k) × (k < 4)
        → get_or (set (set (set (set s (4 * i) (v % 256)) (4 * i + 1) (v / 256 % 256)) (4 * i + 2) (v / 256 / 256 % 256)) (4 * i + 3) (v / 256 / 256 / 256 % 256)) n 0 ≡ get_or s n 0
    same k n (e, h) =
        byte_other s (4 * i) (v % 256) (v / 256 % 256) (v / 256 / 256 % 256) (v / 256 / 256 / 256 % 256) n
        (λ q. apart k 0 h (omega arith) (omega arith)) (λ q. apart k 1 h (omega arith) (omega arith)) (λ q. apart k 2 h (omega arith) (omega arith)) (λ q. apart k 3 h (omega arith) (omega arith))

-- Four bytes copied to a place are four that are set.
copied : (at n : ℕ) (s : Text) (a b c d : ℕ) → at + 4 ≤ length s → n ≡ 4
    → take at s ++ ((a ∷ b ∷ c ∷ d ∷ []) ++ drop n (drop at s)) ≡ set (set (set (set s at a) (at + 1) b) (at + 2) c) (at + 3) d
copied zero n (w ∷ x ∷ y ∷ z ∷ s) a b c d h e = rw e refl
copied zero n [] a b c d h e = absurd (omega arith)
copied zero n (w ∷ []) a b c d h e = absurd (omega arith)
copied zero n (w ∷ x ∷ []) a b c d h e = absurd (omega arith)
copied zero n (w ∷ x ∷ y ∷ []) a b c d h e = absurd (omega arith)
copied (suc at) n [] a b c d h e = absurd (omega arith)
copied (suc at) n (w ∷ s) a b c d h e = rw (suc-add at 1, suc-add at 2, suc-add at 3) (ap (λ (l : Text). w ∷ l) (copied at n s a b c d (omega arith) e))

pub slot_copied : (s w : Text) (i v n : ℕ) → 4 * i + 4 ≤ length s → n ≡ 4 → w ≡ v % 256 ∷ v / 256 % 256 ∷ v / 65536 % 256 ∷ v / 16777216 % 256 ∷ []
    → take (4 * i) s ++ (w ++ drop n (drop (4 * i) s)) ≡ put_slot s i v
unfolding put_slot
slot_copied s w i v n h e q =
    let third : v / 65536 % 256 ≡ v / 256 / 256 % 256 = omega arith in
    let fourth : v / 16777216 % 256 ≡ v / 256 / 256 / 256 % 256 = omega arith in
    rw (q, third, fourth) (copied (4 * i) n s _ _ _ _ h e)
