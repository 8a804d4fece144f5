-- Slices of zeros.
use mathlib.Core.Path.{◌≡◌}
use Prim.Native.Nat.{ℕ}
use native.Mathlib.Omega.{arith}
use lib.Dec.{ltb}
use borrow.Author.Tests.{ltb-true, ltb-false}
use lib.ListN.{get_or, replicate, length-replicate, get_or-replicate, get_or-eq_default}
use Rattle.text.specs.Text.{Text}
use Rattle.text.proofs.Compare.{by}

abbrev pub zeros : ℕ → Text
zeros n = replicate n 0

pub zero_at : (n i : ℕ) → get_or (zeros n) i 0 ≡ 0
zero_at n i =
    by (ltb i n) (λ e. get_or-replicate n i 0 0 (ltb-true i n e))
    (λ e. get_or-eq_default (zeros n) 0 {n = i} (omega (arith, ltb-false i n e, length-replicate {A = ℕ} n 0)))
