-- A search among the numbers below n, and those of them that pass a test.
use mathlib.Core.Path.{◌≡◌, refl, sym, ap, ◌∙◌}
use mathlib.Core.Bool.{Bool, true, false, not, ◌&&◌, ◌||◌}
use mathlib.Core.List.{List, [], ◌∷◌, ◌++◌}
use Prim.Native.Nat.{ℕ, zero, suc, ◌≤◌, ◌<◌}
use native.Mathlib.Omega.{arith}
use borrow.Author.Tests.{eq-eqb, ne_eqb, eqb-true, ltb-true, ltb-false}
use lib.Dec.{eqb, ltb}
use lib.ListN.{length}
use Rattle.text.specs.Text.{cond, empty, member}
use Rattle.text.proofs.Compare.{by, contrary, and_left, and_right, or_left, or_right}
use Rattle.comparison.specs.Comparison.{any, picked}

-- A number below n + 1 is n, or below n.
last : {X : Type 0} (n i : ℕ) → i < suc n → (i ≡ n → X) → (i < n → X) → X
last n i h f g = by (ltb i n) (λ t. g (ltb-true i n t)) (λ t. let k = ltb-false i n t in f (omega arith))

module _ (p : ℕ → Bool) where
  pub any_none : (n : ℕ) → any p n ≡ false → (i : ℕ) → i < n → p i ≡ false
  unfolding any
  any_none zero e i h = absurd (omega arith)
  any_none (suc n) e i h = last n i h (λ z. rw z (or_left (p n) (any p n) e)) (any_none n (or_right (p n) (any p n) e) i)

  pub any_one : (n i : ℕ) → i < n → p i ≡ true → any p n ≡ true
  any_one n i h e = by (any p n) (λ t. t) (λ t. contrary (sym e ∙ any_none n t i h))

  pub record Passes (n : ℕ) : Type 0 where
    pub at : ℕ
    pub below : at < n
    pub passes : p at ≡ true

  pub any_found : (n : ℕ) → any p n ≡ true → Passes n
  unfolding any
  any_found zero e = contrary (sym e)
  any_found (suc n) e =
      by (p n) (λ t. record { at = n; below = omega arith; passes = t })
      (λ t. let f = any_found n (rw t at e) in record { at = f.at; below = (let b = f.below in omega arith); passes = f.passes })

-- ---- Those that pass, in order and each once

-- From m on and below n, every number greater than the one before.
abbrev pub Rising : ℕ → ℕ → List ℕ → Type 0
Rising m n [] = m ≤ n
Rising m n (x ∷ xs) = (m ≤ x) × Rising (suc x) n xs

-- With n at the end, if it passes.
module _ (n : ℕ) where
  member_last : (k : ℕ) (b : Bool) (xs : List ℕ) → member k (xs ++ cond b (n ∷ []) []) ≡ (member k xs || (b && eqb k n))
  member_last k true [] = by (eqb k n) (λ t. rw t) (λ t. rw t)
  member_last k false [] = refl
  member_last k b (x ∷ xs) = by (eqb k x) (λ t. rw t) (λ t. rw t (member_last k b xs))

  empty_last : (b : Bool) (xs : List ℕ) → empty (xs ++ cond b (n ∷ []) []) ≡ (empty xs && not b)
  empty_last true [] = refl
  empty_last false [] = refl
  empty_last b (x ∷ xs) = refl

  rising_last : (b : Bool) (m : ℕ) (xs : List ℕ) → Rising m n xs → Rising m (suc n) (xs ++ cond b (n ∷ []) [])
  rising_last true m [] h = (h, omega arith)
  rising_last false m [] h = omega arith
  rising_last b m (x ∷ xs) (h, t) = (h, rising_last b (suc x) xs t)

module _ (p : ℕ → Bool) where
  pub picked_passes : (n k : ℕ) → member k (picked p n) ≡ true → (k < n) × (p k ≡ true)
  unfolding picked
  picked_passes zero k e = contrary (sym e)
  picked_passes (suc n) k e =
      by (member k (picked p n)) (λ t. let (l, q) = picked_passes n k t in (omega arith, q))
      (λ t.
      let q : (p n && eqb k n) ≡ true = rw t at (sym (member_last n k (p n) (picked p n)) ∙ e) in
      let z = eqb-true k n (and_right (p n) (eqb k n) q) in
      (omega arith, ap p z ∙ and_left (p n) (eqb k n) q))

  pub picked_all : (n k : ℕ) → k < n → p k ≡ true → member k (picked p n) ≡ true
  unfolding picked
  picked_all zero k h e = absurd (omega arith)
  picked_all (suc n) k h e =
      member_last n k (p n) (picked p n)
      ∙ last n k h (λ z. by (member k (picked p n)) (λ t. rw t) (λ t. rw (t, sym (ap p z) ∙ e, eq-eqb k n z))) (λ l. rw (picked_all n k l e))

  pub picked_empty : (n : ℕ) → empty (picked p n) ≡ not (any p n)
  unfolding any picked
  picked_empty zero = refl
  picked_empty (suc n) = empty_last n (p n) (picked p n) ∙ rw (picked_empty n) (neither (p n) (any p n))
    where
      neither : (a b : Bool) → (not b && not a) ≡ not (a || b)
      neither true true = refl
      neither true false = refl
      neither false true = refl
      neither false false = refl

  pub picked_rising : (n : ℕ) → Rising 0 n (picked p n)
  unfolding picked
  picked_rising zero = omega arith
  picked_rising (suc n) = rising_last n (p n) 0 (picked p n) (picked_rising n)

pub empty_length : (xs : List ℕ) → empty xs ≡ eqb (length xs) 0
empty_length [] = refl
empty_length (x ∷ xs) = sym (ne_eqb (suc (length xs)) 0 (λ z. omega arith))
