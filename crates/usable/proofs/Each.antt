-- A test of every number from one on.
use Rattle.std.proofs.Common.{◌≡◌, Bool, ◌&&◌, ℕ, zero, suc, ◌+◌, ap, refl, arith}
use Rattle.std.specs.List.{list_all, range_with_len}
use Rattle.table.specs.Usable.{each}

pub each_of : (p : ℕ → Bool) (from n : ℕ) → list_all p (range_with_len from n) ≡ each p from n
unfolding each
each_of p from zero = refl
each_of p from (suc n) = let e : from + 1 ≡ suc from = omega arith in rw e (ap (λ b. p from && b) (each_of p (suc from) n))
