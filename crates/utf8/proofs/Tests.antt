-- Tests that compute: what one test says of each number below a bound, and how a test is taken apart.
use mathlib.Core.Path.{◌≡◌, refl, subst, sym}
use mathlib.Core.Logic.{◌⊎◌, inl, inr}
use mathlib.Core.Bool.{Bool, true, false, not, ◌&&◌, ◌||◌}
use Prim.Native.Nat.{ℕ, zero, suc, ◌≤◌, ◌<◌}
use native.Mathlib.Nat.{le_of_suc-le-suc, not-suc-le-zero, eq-or-lt_of_le}
use borrow.Author.Tests.{ltb-true, ltb-false}
use lib.Dec.{T, ltb, leb, leb→le}
use Rattle.text.specs.Text.{between}

-- Cases on a test, with the equation.
pub by : {X : Type 0} (b : Bool) → (b ≡ true → X) → (b ≡ false → X) → X
by true f g = f refl
by false f g = g refl

pub split : (m n : ℕ) → (m < n) ⊎ (n ≤ m)
split m n = by (ltb m n) (λ e. inl (ltb-true m n e)) (λ e. inr (ltb-false m n e))

-- Does every number below n pass the test?
abbrev pub below : (ℕ → Bool) → ℕ → Bool
below f zero = true
below f (suc n) = f n && below f n

pub and_left : (a b : Bool) → T (a && b) → T a
and_left true b t = tt
and_left false b t = t

pub and_right : (a b : Bool) → T (a && b) → T b
and_right true b t = t
and_right false b t = absurd t

pub and_true : (a b : Bool) → T (a && b) → T a × T b
and_true a b t = (and_left a b t, and_right a b t)

pub or_true : (a b : Bool) → (a || b) ≡ true → (a ≡ true) ⊎ (b ≡ true)
or_true true b e = inl refl
or_true false b e = inr e

pub or_false : (a b : Bool) → (a || b) ≡ false → (a ≡ false) × (b ≡ false)
or_false true b e = absurd (subst T e tt)
or_false false b e = (refl, e)

pub nor : (a b : Bool) → a ≡ false → b ≡ false → (a || b) ≡ false
nor a b e f = simp (e, f)

-- Have two tests the same value?
abbrev pub same : Bool → Bool → Bool
same true b = b
same false b = not b

pub same_eq : (a b : Bool) → T (same a b) → a ≡ b
same_eq true true t = refl
same_eq true false t = absurd t
same_eq false true t = absurd t
same_eq false false t = refl

pub below_at : (f : ℕ → Bool) (n : ℕ) → T (below f n) → (k : ℕ) → k < n → T (f k)
below_at f zero t k h = absurd (not-suc-le-zero h)
below_at f (suc n) t k h = go (λ l. below_at f n (and_right (f n) (below f n) t) k l) (eq-or-lt_of_le (le_of_suc-le-suc h))
  where
    go : (k < n → T (f k)) → (k ≡ n) ⊎ (k < n) → T (f k)
    go r (inl e) = subst (λ (x : ℕ). T (f x)) (sym e) (and_left (f n) (below f n) t)
    go r (inr l) = r l

pub between_true : (lo hi b : ℕ) → between lo hi b ≡ true → (lo ≤ b) × (b ≤ hi)
between_true lo hi b e =
    let u = and_true (leb lo b) (leb b hi) (subst T (sym e) tt) in
    (leb→le lo b u.0, leb→le b hi u.1)
