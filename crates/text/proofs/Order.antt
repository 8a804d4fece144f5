-- Laws of the order of texts.
use mathlib.Core.Path.{◌≡◌, refl, sym, ap, ◌∙◌}
use mathlib.Core.List.{[], ◌∷◌}
use mathlib.Core.Bool.{true, false}
use Prim.Native.Nat.{ℕ, ◌+◌, ◌≤◌, ◌<◌}
use native.Mathlib.Numerals.{add-one}
use native.Mathlib.Omega.{arith}
use lib.Dec.{eqb, ltb}
use lib.ListN.{length, get_or, drop, drop_of_length-le}
use lib.Seq.{drop-cons}
use borrow.Author.Tests.{lt-ltb, le-ltb, ltb-true, ltb-false, eq-eqb, ne_eqb, eqb-true, eqb-false}
use Rattle.text.specs.Text.{Text, same_text}
use Rattle.text.proofs.Compare.{by, contrary, and_left, and_right, same_eq}
use Rattle.text.specs.Order.{smaller}
use Rattle.text.proofs.Words.{GoesOn}

-- One byte further in a comparison.
module _ (s t : Text) (i : ℕ) (h : i < length s) where
  pub smaller_past : length t ≤ i → smaller (drop i s) (drop i t) ≡ false
  unfolding smaller
  smaller_past g = rw (drop-cons s i 0 h, drop_of_length-le t {i = i} g)

  module _ (g : i < length t) where
    pub smaller_here : get_or s i 0 < get_or t i 0 → smaller (drop i s) (drop i t) ≡ true
    unfolding smaller
    smaller_here l = rw (drop-cons s i 0 h, drop-cons t i 0 g, lt-ltb (get_or s i 0) (get_or t i 0) l)

    pub greater_here : get_or t i 0 < get_or s i 0 → smaller (drop i s) (drop i t) ≡ false
    unfolding smaller
    greater_here l =
        rw (
          drop-cons s i 0 h,
          drop-cons t i 0 g,
          le-ltb (get_or s i 0) (get_or t i 0) (omega arith),
          ne_eqb (get_or s i 0) (get_or t i 0) (λ e. omega (arith, e)),
        )

    pub smaller_more : get_or t i 0 ≤ get_or s i 0 → get_or s i 0 ≤ get_or t i 0 → smaller (drop i s) (drop i t) ≡ smaller (drop (i + 1) s) (drop (i + 1) t)
    unfolding smaller
    smaller_more l k =
        let e : get_or s i 0 ≡ get_or t i 0 = omega arith in
        rw (add-one i, drop-cons s i 0 h, drop-cons t i 0 g, le-ltb (get_or s i 0) (get_or t i 0) l, eq-eqb (get_or s i 0) (get_or t i 0) e)

pub smaller_end : (s t : Text) (i : ℕ) → length s ≤ i → smaller (drop i s) (drop i t) ≡ ltb i (length t)
unfolding smaller
smaller_end s t i h =
    by (ltb i (length t)) (λ e. rw (drop_of_length-le s {i = i} h, drop-cons t i 0 (ltb-true i (length t) e), e))
    (λ e. rw (drop_of_length-le s {i = i} h, drop_of_length-le t {i = i} (ltb-false i (length t) e), e))

pub smaller_on : (s t : Text) → GoesOn smaller s t
smaller_on s t i h g e = smaller_more s t i h g (omega (arith, e)) (omega (arith, e))

-- ---- A strict order

pub smaller_self : (s : Text) → smaller s s ≡ false
unfolding smaller
smaller_self [] = refl
smaller_self (a ∷ s) = rw (le-ltb a a (omega arith), eq-eqb a a refl) (smaller_self s)

pub smaller_trans : (s t u : Text) → smaller s t ≡ true → smaller t u ≡ true → smaller s u ≡ true
unfolding smaller
smaller_trans [] [] u e f = contrary (sym e)
smaller_trans [] (b ∷ t) [] e f = f
smaller_trans [] (b ∷ t) (c ∷ u) e f = refl
smaller_trans (a ∷ s) [] u e f = contrary (sym e)
smaller_trans (a ∷ s) (b ∷ t) [] e f = f
smaller_trans (a ∷ s) (b ∷ t) (c ∷ u) e f =
    by (ltb a b)
    (λ l. let l' = ltb-true a b l in
    by (ltb b c) (λ k. let k' = ltb-true b c k in rw (lt-ltb a c (omega arith)))
    (λ k. let q = eqb-true b c (and_left (eqb b c) (smaller t u) (sym (rw k) ∙ f)) in rw (lt-ltb a c (omega arith))))
    (λ l. let p = eqb-true a b (and_left (eqb a b) (smaller s t) (sym (rw l) ∙ e)) in
    let e' = and_right (eqb a b) (smaller s t) (sym (rw l) ∙ e) in
    by (ltb b c) (λ k. let k' = ltb-true b c k in rw (lt-ltb a c (omega arith)))
    (λ k. let q = eqb-true b c (and_left (eqb b c) (smaller t u) (sym (rw k) ∙ f)) in
    let f' = and_right (eqb b c) (smaller t u) (sym (rw k) ∙ f) in
    rw (le-ltb a c (omega arith), eq-eqb a c (p ∙ q)) (smaller_trans s t u e' f')))

pub smaller_other : (s t : Text) → smaller s t ≡ true → smaller t s ≡ false
smaller_other s t e = by (smaller t s) (λ f. contrary (sym (smaller_trans s t s e f) ∙ smaller_self s)) (λ f. f)

pub smaller_differs : (s t : Text) → smaller s t ≡ true → same_text t s ≡ false
smaller_differs s t e = by (same_text t s) (λ f. contrary (sym e ∙ (ap (smaller s) (same_eq t s f) ∙ smaller_self s))) (λ f. f)

pub one_of_three : (s t : Text) → smaller s t ≡ false → same_text s t ≡ false → smaller t s ≡ true
unfolding smaller same_text
one_of_three [] [] e f = contrary f
one_of_three [] (b ∷ t) e f = contrary e
one_of_three (a ∷ s) [] e f = refl
one_of_three (a ∷ s) (b ∷ t) e f =
    by (ltb a b) (λ l. contrary (sym (rw l) ∙ e))
    (λ l. let l' = ltb-false a b l in
    by (eqb a b)
    (λ q. let q' = eqb-true a b q in rw (le-ltb b a (omega arith), eq-eqb b a (sym q')) (one_of_three s t (sym (rw (l, q)) ∙ e) (sym (rw q) ∙ f)))
    (λ q. let q' = eqb-false a b q in rw (lt-ltb b a (less b a l' (λ z. q' (sym z))))))
  where
    less : (m n : ℕ) → m ≤ n → (m ≡ n → ⊥) → m < n
    less m n h k = by (ltb m n) (ltb-true m n) (λ z. absurd (k (omega (arith, ltb-false m n z))))

pub smaller_unlike : (s t : Text) → smaller s t ≡ true → same_text s t ≡ false
smaller_unlike s t e = by (same_text s t) (λ f. contrary (sym e ∙ (ap (λ (x : Text). smaller x t) (same_eq s t f) ∙ smaller_self t))) (λ f. f)
