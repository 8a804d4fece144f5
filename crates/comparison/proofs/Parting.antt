-- The parts of the index.
use mathlib.Core.Path.{◌≡◌}
use Prim.Native.Nat.{ℕ, ◌+◌, ◌*◌, ◌-◌, ◌/◌, ◌≤◌, ◌<◌}
use native.Mathlib.Omega.{arith}
use borrow.Author.Tests.{lt-ltb}
use Rattle.text.proofs.Compare.{by}
use lib.Dec.{ltb}
use Rattle.table.specs.Layout.{word_limit}
use Rattle.chains.specs.Chains.{heads}
use Rattle.comparison.specs.Code.{Cut}

no_heads : (n : ℕ) → heads 0 n ≡ 0
unfolding heads
no_heads n = by (ltb n 4294967296) (λ e. rw e (omega arith)) (λ e. rw e)

some_heads : (size n : ℕ) → n < word_limit → 2 * n < size → heads size n ≡ 0 → ⊥
unfolding heads
some_heads size n h k e = let z : size - 2 * n ≡ 0 = rw (lt-ltb n 4294967296 h) at e in omega arith

-- No words have no heads.
pub cut_none : (left right : ℕ) → Cut 0 left right (record { pairs = 0; left = 0 })
cut_none left right = record { fits = omega arith; both = λ k. absurd (k (no_heads right)); turn = λ k. absurd (k (no_heads left)) }

-- Each part has the same heads, and the last what is left.
pub cut_some : (size pairs left right h : ℕ) → left < word_limit → right < word_limit → 2 * (pairs + left + right) ≤ size → h ≡ (size - 2 * (pairs + left + right)) / 3 → (h ≡ 0 → ⊥)
    → Cut size left right (record { pairs = h + 2 * pairs; left = h + 2 * left })
cut_some size pairs left right h l r fits e some =
    let room : 3 * h + 2 * (pairs + left + right) ≤ size = omega arith in
    record {
      fits = omega arith;
      both = λ k. some_heads (h + 2 * left) left l (omega arith);
      turn = λ k. some_heads (size - (h + 2 * pairs) - (h + 2 * left)) right r (omega arith);
    }
