-- The partners of the left's blank nodes, as the routines find them.
use Rattle.std.specs.Prelude.{◌≡◌, List, ℕ, zero, suc, eqb}
use native.Mathlib.Nat.{ℕ_set}
use Rattle.chains.specs.Chains.{latest, word_at, has_word, Chained}
use Rattle.comparison.specs.Comparison.{pairs, right_of, paired}

-- The right number that a left number is paired with, plus one; 0 for none.
abbrev pub right_behind : List ℕ → ℕ → ℕ
right_behind p zero = 0
right_behind p (suc i) = suc (right_of p i)

unfoldable pub partner : List ℕ → ℕ → ℕ
partner p m = right_behind p (latest (has_word p 0 2 m) (pairs p))

-- The pairs are linked by their left numbers; and none has two partners.
abbrev pub ByLeft : List ℕ → List ℕ → Type 0
ByLeft p chain = Chained chain (pairs p) (word_at p 0 2)

pub ByLeft-prop : (p chain : List ℕ) → IsProp (ByLeft p chain)
unfolding Chained
ByLeft-prop p chain = hlevel ℕ_set

abbrev pub Matched : List ℕ → Type 0
Matched p = (m n : ℕ) → paired p m n ≡ eqb (partner p m) (suc n)
