-- Laws of bindings: a prefix found by its place; declaring one changes it alone.
use Prim.Native.Nat.{ℕ, zero, suc, ◌+◌, ◌-◌, ◌≤◌, ◌<◌}
use mathlib.Core.Path.{◌≡◌, refl, ap}
use mathlib.Core.List.{List, [], ◌∷◌}
use mathlib.Core.Bool.{true, false}
use mathlib.Core.Option.{none, some}
use native.Mathlib.Numerals.{add-one}
use native.Mathlib.Omega.{arith}
use lib.ListN.{length}
use Rattle.text.specs.Text.{Text, same_text}
use Rattle.text.proofs.Compare.{by, same_eq, same_refl}
use Rattle.environment.specs.Environment.{Binding, bind, lookup, bound}
use Rattle.environment.specs.Code.{is_declared, listed, place}

-- What a directive does, as a reader of it expects: the prefix has the new namespace, every other has the one it had.
pub declared_now : (p ns : Text) (bs : List Binding) → lookup p (bound p ns bs) ≡ some ns
unfolding lookup bound
declared_now p ns [] = rw (same_refl p)
declared_now p ns (b ∷ bs) = by (same_text p b.prefix) (λ e. rw (e, same_refl p)) (λ e. rw (e, e) (declared_now p ns bs))

pub others_stay : (p q ns : Text) (bs : List Binding) → same_text q p ≡ false → lookup q (bound p ns bs) ≡ lookup q bs
unfolding lookup bound
others_stay p q ns [] h = rw h
others_stay p q ns (b ∷ bs) h =
    by (same_text p b.prefix) (λ e. rw (e, h, ← same_eq p b.prefix e, h))
    (λ e. rw e (by (same_text q b.prefix) (λ f. rw f) (λ f. rw f (others_stay p q ns bs h))))

module _ (p : Text) (f : ℕ → Binding) where
  -- A search through n bindings that has come to the i-th.
  module _ (n i : ℕ) where
    left : i < n → n - i ≡ suc (n - (i + 1))
    left h = omega arith

    pub place_here : i < n → same_text p (f i).prefix ≡ true → place p (listed f i (n - i)) ≡ 0
    unfolding place listed
    place_here h e = rw (left h, e)

    pub place_further : i < n → same_text p (f i).prefix ≡ false → place p (listed f i (n - i)) ≡ suc (place p (listed f (i + 1) (n - (i + 1))))
    unfolding place listed
    place_further h e = rw (left h, add-one i, e)

    pub place_end : n ≤ i → place p (listed f i (n - i)) ≡ 0
    unfolding place listed
    place_end h = let z : n - i ≡ 0 = omega arith in rw z

  pub place_start : (n : ℕ) → 0 + place p (listed f 0 (n - 0)) ≡ place p (listed f 0 n)
  place_start n = let z : n - 0 ≡ n = omega arith in rw z (omega arith)

  -- What the place says of the prefix.
  pub lookup_none : (k n : ℕ) → n ≤ place p (listed f k n) → lookup p (listed f k n) ≡ none
  unfolding place listed lookup
  lookup_none k zero h = refl
  lookup_none k (suc n) h = by (same_text p (f k).prefix) (λ e. absurd (omega (arith, rw e at h))) (λ e. rw e (lookup_none (suc k) n (omega (arith, rw e at h))))

  pub lookup_at : (k n i : ℕ) → i ≡ place p (listed f k n) → i < n → lookup p (listed f k n) ≡ some (f (k + i)).namespace
  unfolding place listed lookup
  lookup_at k zero i e h = absurd (omega arith)
  lookup_at k (suc n) i e h =
      by (same_text p (f k).prefix) (λ t. let z : k + i ≡ k = omega (arith, rw t at e) in rw (t, z))
      (λ t. let q : i ≡ suc (place p (listed f (suc k) n)) = rw t at e in
      let z : k + i ≡ suc k + (i - 1) = omega arith in
      rw (t, z) (lookup_at (suc k) n (i - 1) (omega arith) (omega arith)))

  pub declared_at : (k n : ℕ) → place p (listed f k n) < n → is_declared p (listed f k n) ≡ true
  unfolding place listed is_declared
  declared_at k zero h = absurd (omega arith)
  declared_at k (suc n) h = by (same_text p (f k).prefix) (λ e. rw e) (λ e. rw e (declared_at (suc k) n (omega (arith, rw e at h))))

  pub not_declared : (k n : ℕ) → n ≤ place p (listed f k n) → is_declared p (listed f k n) ≡ false
  unfolding place listed is_declared
  not_declared k zero h = refl
  not_declared k (suc n) h = by (same_text p (f k).prefix) (λ e. absurd (omega (arith, rw e at h))) (λ e. rw e (not_declared (suc k) n (omega (arith, rw e at h))))

  pub listed_length : (k n : ℕ) → length (listed f k n) ≡ n
  unfolding listed
  listed_length k zero = refl
  listed_length k (suc n) = ap suc (listed_length (suc k) n)

  -- The binding at the prefix's place is written anew: those bindings are declared.
  module _ (ns : Text) (g : ℕ → Binding) where
    pub listed_same : (k n : ℕ) → ((j : ℕ) → k ≤ j → j < k + n → g j ≡ f j) → listed g k n ≡ listed f k n
    unfolding listed
    listed_same k zero h = refl
    listed_same k (suc n) h = rw (h k (omega arith) (omega arith), listed_same (suc k) n (λ j l m. h j (omega arith) (omega arith)))

    pub declare_again : (k n i : ℕ) → i ≡ place p (listed f k n) → i < n → ((j : ℕ) → k ≤ j → j < k + n → (j ≡ k + i → ⊥) → g j ≡ f j) → g (k + i) ≡ bind p ns → listed g k n ≡ bound p ns (listed f k n)
    unfolding place listed bound
    declare_again k zero i e h same new = absurd (omega arith)
    declare_again k (suc n) i e h same new =
        by (same_text p (f k).prefix)
        (λ t. let z : k + i ≡ k = omega (arith, rw t at e) in rw (t, ← new, z, listed_same (suc k) n (λ j l m. same j (omega arith) (omega arith) (λ q. omega arith))))
        (λ t. let q : i ≡ suc (place p (listed f (suc k) n)) = rw t at e in
        let z : k + i ≡ suc k + (i - 1) = omega arith in
        rw (t, same k (omega arith) (omega arith) (λ r. omega arith), declare_again (suc k) n (i - 1) (omega arith) (omega arith) (λ j l m r. same j (omega arith) (omega arith) (λ u. r (omega arith))) (rw z at new)))

    pub declare_new : (k n : ℕ) → n ≤ place p (listed f k n) → ((j : ℕ) → k ≤ j → j < k + n → g j ≡ f j) → g (k + n) ≡ bind p ns → listed g k (suc n) ≡ bound p ns (listed f k n)
    unfolding place listed bound
    declare_new k zero h same new = let z : k + 0 ≡ k = omega arith in rw (← new, z)
    declare_new k (suc n) h same new =
        by (same_text p (f k).prefix) (λ e. absurd (omega (arith, rw e at h)))
        (λ e. let z : k + suc n ≡ suc k + n = omega arith in
        rw (e, same k (omega arith) (omega arith), declare_new (suc k) n (omega (arith, rw e at h)) (λ j l m. same j (omega arith) (omega arith)) (rw z at new)))
