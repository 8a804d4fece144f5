-- Laws of comparing texts.
use Prim.Native.Nat.{ℕ, ◌+◌, ◌≤◌, ◌<◌}
use mathlib.Core.Path.{◌≡◌, refl, ap, sym}
use mathlib.Core.List.{[], ◌∷◌, ◌++◌}
use mathlib.Core.Bool.{Bool, true, false, ◌&&◌, ◌||◌}
use native.Mathlib.Numerals.{add-one}
use native.Mathlib.Omega.{arith}
use lib.ListN.{length, get_or, drop, drop_of_length-le}
use lib.Seq.{drop-cons}
use lib.Dec.{eqb, ltb}
use borrow.Author.Tests.{eq-eqb, ne_eqb, eqb-true, eqb-false, ltb-true, ltb-false}
use Rattle.text.specs.Text.{Text, same_text, begins, some_byte}

-- Cases on a test, with its equation.
pub by : {X : Type 0} (b : Bool) → (b ≡ true → X) → (b ≡ false → X) → X
by true f g = f refl
by false f g = g refl

pub contrary : {X : Type 0} → true ≡ false → X
contrary e = absurd (let z : ◌≡◌ {A = ℕ} 0 1 = cc in omega arith)

pub and_left : (a b : Bool) → (a && b) ≡ true → a ≡ true
and_left true b e = refl
and_left false b e = e

pub and_right : (a b : Bool) → (a && b) ≡ true → b ≡ true
and_right true b e = e
and_right false b e = contrary (sym e)

pub and_false : (b : Bool) → (b && false) ≡ false
and_false true = refl
and_false false = refl

pub or_left : (a b : Bool) → (a || b) ≡ false → a ≡ false
or_left true b e = e
or_left false b e = refl

pub or_right : (a b : Bool) → (a || b) ≡ false → b ≡ false
or_right true b e = contrary e
or_right false b e = e

pub same_eq : (s t : Text) → same_text s t ≡ true → s ≡ t
unfolding same_text
same_eq [] [] e = refl
same_eq [] (b ∷ t) e = contrary (sym e)
same_eq (a ∷ s) [] e = contrary (sym e)
same_eq (a ∷ s) (b ∷ t) e = let p = eqb-true a b (and_left (eqb a b) (same_text s t) e) in let q = same_eq s t (and_right (eqb a b) (same_text s t) e) in cc

pub same_refl : (s : Text) → same_text s s ≡ true
unfolding same_text
same_refl [] = refl
same_refl (a ∷ s) = rw (eq-eqb a a refl, same_refl s)

pub begins_length : (s t : Text) → begins s t ≡ true → length s ≤ length t
unfolding begins
begins_length [] t e = omega arith
begins_length (a ∷ s) [] e = contrary (sym e)
begins_length (a ∷ s) (b ∷ t) e = omega (arith, begins_length s t (and_right (eqb a b) (begins s t) e))

-- A text in two parts is compared part by part.
pub begins_append : (s u t : Text) → begins (s ++ u) t ≡ (begins s t && begins u (drop (length s) t))
unfolding begins
begins_append [] u t = refl
begins_append (a ∷ s) u [] = refl
begins_append (a ∷ s) u (b ∷ t) = by (eqb a b) (λ e. rw e (begins_append s u t)) (λ e. rw e)

pub same_append : (s u t : Text) → same_text (s ++ u) t ≡ (begins s t && same_text u (drop (length s) t))
unfolding same_text begins
same_append [] u t = refl
same_append (a ∷ s) u [] = refl
same_append (a ∷ s) u (b ∷ t) = by (eqb a b) (λ e. rw e (same_append s u t)) (λ e. rw e)

-- One byte further in a comparison.
module _ (s t : Text) (i j : ℕ) (h : i < length s) (g : j < length t) where
  pub begins_more : get_or t j 0 ≡ get_or s i 0 → begins (drop i s) (drop j t) ≡ begins (drop (i + 1) s) (drop (j + 1) t)
  unfolding begins
  begins_more e = rw (add-one i, add-one j, drop-cons s i 0 h, drop-cons t j 0 g, eq-eqb (get_or s i 0) (get_or t j 0) (sym e))

  pub begins_not : (get_or t j 0 ≡ get_or s i 0 → ⊥) → begins (drop i s) (drop j t) ≡ false
  unfolding begins
  begins_not e = rw (drop-cons s i 0 h, drop-cons t j 0 g, ne_eqb (get_or s i 0) (get_or t j 0) (λ q. e (sym q)))

  pub same_more : get_or t j 0 ≡ get_or s i 0 → same_text (drop i s) (drop j t) ≡ same_text (drop (i + 1) s) (drop (j + 1) t)
  unfolding same_text
  same_more e = rw (add-one i, add-one j, drop-cons s i 0 h, drop-cons t j 0 g, eq-eqb (get_or s i 0) (get_or t j 0) (sym e))

  pub same_not : (get_or t j 0 ≡ get_or s i 0 → ⊥) → same_text (drop i s) (drop j t) ≡ false
  unfolding same_text
  same_not e = rw (drop-cons s i 0 h, drop-cons t j 0 g, ne_eqb (get_or s i 0) (get_or t j 0) (λ q. e (sym q)))

pub begins_end : (s t : Text) (i : ℕ) → length s ≤ i → begins (drop i s) t ≡ true
unfolding begins
begins_end s t i h = rw (drop_of_length-le s h)

pub begins_short : (s t : Text) → length t < length s → begins s t ≡ false
begins_short s t h = by (begins s t) (λ e. absurd (omega (arith, begins_length s t e))) (λ e. e)

pub same_length : (s t : Text) → (length s ≡ length t → ⊥) → same_text s t ≡ false
same_length s t h = by (same_text s t) (λ e. absurd (h (ap length (same_eq s t e)))) (λ e. e)

-- Where the first text has ended, the second is the same if it has ended too.
pub same_end : (t : Text) (j : ℕ) → j ≤ length t → same_text [] (drop j t) ≡ eqb j (length t)
unfolding same_text
same_end t j g =
    by (eqb j (length t)) (λ e. rw (drop_of_length-le t {i = j} (omega (arith, eqb-true j (length t) e)), e))
    (λ e. rw (drop-cons t j 0 (less j (length t) g (eqb-false j (length t) e)), e))
  where
    less : (a b : ℕ) → a ≤ b → (a ≡ b → ⊥) → a < b
    less a b k n = by (ltb a b) (ltb-true a b) (λ e. absurd (n (omega (arith, ltb-false a b e))))

-- A search for a byte that passes a test: it is here, it is further on, there is none.
module _ (p : ℕ → Bool) (s : Text) (i : ℕ) where
  pub some_here : i < length s → p (get_or s i 0) ≡ true → some_byte p (drop i s) ≡ true
  unfolding some_byte
  some_here h e = rw (drop-cons s i 0 h, e)

  pub some_further : i < length s → p (get_or s i 0) ≡ false → some_byte p (drop i s) ≡ some_byte p (drop (i + 1) s)
  unfolding some_byte
  some_further h e = rw (add-one i, drop-cons s i 0 h, e)

  pub some_nowhere : length s ≤ i → some_byte p (drop i s) ≡ false
  unfolding some_byte
  some_nowhere h = rw (drop_of_length-le s {i = i} h)
