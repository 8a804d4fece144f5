-- A search along a chain finds what a search among all numbers finds.
use mathlib.Core.Path.{◌≡◌, refl, sym, ◌∙◌}
use mathlib.Core.Bool.{Bool, true, false, not}
use Prim.Native.Nat.{ℕ, zero, suc}
use native.Mathlib.Omega.{arith}
use borrow.Author.Tests.{ne_eqb}
use lib.Dec.{eqb}
use Rattle.text.proofs.Compare.{by}
use Rattle.std.proofs.Common.{Option, Some, None}
use Rattle.chains.specs.Chains.{latest}
use Rattle.chains.proofs.Chains.{At, at_found, at_none}
use Rattle.comparison.specs.Comparison.{any}

pub any_latest : (t : ℕ → Bool) (n : ℕ) → any t n ≡ not (eqb (latest t n) 0)
unfolding any latest
any_latest t zero = refl
any_latest t (suc n) = by (t n) (λ e. rw (e, ne_eqb (suc n) 0 (λ q. omega arith))) (λ e. rw (e, any_latest t n))

-- Where a search along a chain ends.
module _ (b : ℕ) (f : ℕ → ℕ) (x : ℕ) (t : ℕ → Bool) (m : ℕ) (r : Option ℕ) (a : At b f x t m r) where
  pub any_at : (j : ℕ) → r ≡ Some j → t j ≡ true → true ≡ any t m
  any_at j is e =
      let found = at_found b f x t m r j is a e in
      sym (any_latest t m ∙ rw (ne_eqb (latest t m) 0 (λ z. omega (arith, found, z))))

  pub none_at : r ≡ None → false ≡ any t m
  none_at is = sym (any_latest t m ∙ rw (at_none b f x t m r is a))
