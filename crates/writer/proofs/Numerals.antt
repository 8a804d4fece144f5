-- Decimal digits, the last one at a time.
use mathlib.Core.Path.{◌≡◌, refl}
use mathlib.Core.List.{[], ◌∷◌, ◌++◌}
use Prim.Native.Nat.{ℕ, zero, suc, ◌+◌, ◌-◌, ◌/◌, ◌%◌, ◌≤◌, ◌<◌}
use native.Mathlib.Omega.{arith}
use borrow.Author.Tests.{lt-ltb, le-ltb}
use Rattle.table.specs.LongForm.{digits}

pub digits_none : (most n : ℕ) → most ≡ 0 → [] ≡ digits most n
unfolding digits
digits_none most n e = rw e

pub digits_one : (most n : ℕ) → (most ≡ 0 → ⊥) → n < 10 → (48 + n) ∷ [] ≡ digits most n
unfolding digits
digits_one zero n h l = absurd (h refl)
digits_one (suc k) n h l = rw (lt-ltb n 10 l)

pub digits_last : (most n : ℕ) → (most ≡ 0 → ⊥) → 10 ≤ n → digits (most - 1) (n / 10) ++ (48 + n % 10) ∷ [] ≡ digits most n
unfolding digits
digits_last zero n h l = absurd (h refl)
digits_last (suc k) n h l = let e : suc k - 1 ≡ k = omega arith in rw (e, le-ltb n 10 l)
