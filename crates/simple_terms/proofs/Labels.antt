-- How many bytes a token has at least, by its kind: a label's token is longer than "_:".
use mathlib.Core.Path.{◌≡◌, refl, subst}
use mathlib.Core.List.{List, [], ◌∷◌, ◌++◌}
use mathlib.Core.Bool.{Bool, true, false, not, ◌&&◌, ◌||◌}
use mathlib.Core.Logic.{inl, inr}
use Prim.Native.Nat.{ℕ, ◌+◌, ◌≤◌}
use native.Mathlib.Omega.{arith}
use lib.Dec.{eqb, leb, ltb}
use borrow.Author.Tests.{eq-eqb, leb-true, leb-false}
use Rattle.text.specs.Text.{cond}
use Rattle.text.proofs.Compare.{by, and_left, and_right}
use Rattle.utf8.specs.Utf8.{width}
use Rattle.token.specs.Regular.{Re, eps, set, seq, alt, star, Item, item, Some, Matches, Match, hit, Hit, Longest, size}
use Rattle.token.specs.Terminals.{terminals, long_terminals, tripled, terminals_at, token_at}
use Rattle.token.proofs.Longest.{token_longest}

abbrev less : ℕ → ℕ → ℕ
less a b = cond (leb a b) a b

abbrev fewest : Re → ℕ
fewest eps = 0
fewest (set b rs) = 1
fewest (seq p q) = fewest p + fewest q
fewest (alt p q) = less (fewest p) (fewest q)
fewest (star p) = 0

less_left : (a b : ℕ) → less a b ≤ a
less_left a b = by (leb a b) (λ e. rw e (omega arith)) (λ e. rw e (omega (arith, leb_not a b e)))
  where
    leb_not : (a b : ℕ) → leb a b ≡ false → b ≤ a
    leb_not a b e = let h = leb-false a b e in omega (arith, h)

less_right : (a b : ℕ) → less a b ≤ b
less_right a b = by (leb a b) (λ e. rw e (leb-true a b e)) (λ e. rw e (omega arith))

width_some : (c : ℕ) → 1 ≤ width c
width_some c = by (ltb c 0x80) (λ e. rw e (omega arith)) (λ e. by (ltb c 0x800) (λ f. rw (e, f) (omega arith)) (λ f. by (ltb c 0x10000) (λ g. rw (e, f, g) (omega arith)) (λ g. rw (e, f, g) (omega arith))))

size_append : (x y : List ℕ) → size width (x ++ y) ≡ size width x + size width y
size_append [] y = omega arith
size_append (c ∷ x) y = omega (arith, size_append x y)

fewest_match : (r : Re) (z : List ℕ) → Matches r z → fewest r ≤ size width z
fewest_match eps z m = omega arith
fewest_match (set b rs) z (c, e, t) = rw e (omega (arith, width_some c))
fewest_match (seq p q) z (x, y, e, m, n) = rw e (omega (arith, size_append x y, fewest_match p x m, fewest_match q y n))
fewest_match (alt p q) z (inl m) = omega (arith, less_left (fewest p) (fewest q), fewest_match p z m)
fewest_match (alt p q) z (inr m) = omega (arith, less_right (fewest p) (fewest q), fewest_match q z m)
fewest_match (star p) z m = omega arith

-- Do all expressions of the kind k match n bytes or more?
abbrev all_fewest : ℕ → ℕ → List Item → Bool
all_fewest k n [] = true
all_fewest k n (item j r ∷ xs) = (not (eqb j k) || leb n (fewest r)) && all_fewest k n xs

fewest_some : (k n : ℕ) (xs : List Item) (z : List ℕ) → all_fewest k n xs ≡ true → Some xs k z → n ≤ size width z
fewest_some k n [] z e s = absurd s
fewest_some k n (item j r ∷ xs) z e (inl (q, m)) = omega (arith, own (and_left (not (eqb j k) || leb n (fewest r)) _ e), fewest_match r z m)
  where
    own : (not (eqb j k) || leb n (fewest r)) ≡ true → n ≤ fewest r
    own h = leb-true n (fewest r) (rw (eq-eqb j k q) at h)
fewest_some k n (item j r ∷ xs) z e (inr s) = fewest_some k n xs z (and_right (not (eqb j k) || leb n (fewest r)) _ e) s

-- A token of the kind k has at least n bytes.
module _ (k n : ℕ) (short : all_fewest k n terminals ≡ true) (long : all_fewest k n long_terminals ≡ true) where
  either : (cs : List ℕ) → all_fewest k n (terminals_at cs) ≡ true
  either cs = by (tripled cs) (λ e. rw e long) (λ e. rw e short)

  hit_long : (cs : List ℕ) (len : ℕ) → Hit width (terminals_at cs) cs k len → n ≤ len
  hit_long cs len h = omega (arith, h.bytes, fewest_some k n (terminals_at cs) h.front (either cs) h.match)

  token_long : (cs : List ℕ) (len : ℕ) → token_at cs ≡ hit k len → n ≤ len
  token_long cs len e = hit_long cs len (subst (λ (m : Match). Longest width (terminals_at cs) cs m) e (token_longest cs))

pub label_long : (cs : List ℕ) (len : ℕ) → token_at cs ≡ hit 4 len → 3 ≤ len
label_long cs len e = token_long 4 3 refl refl cs len e
