-- Lists of token kinds, as sets, by a computed test.
use mathlib.Core.Path.{◌≡◌, subst}
use mathlib.Core.Logic.{⊎_elim}
use mathlib.Core.List.{List, [], ◌∷◌, ◌++◌}
use mathlib.Core.Bool.{Bool, true, false, ◌||◌, not}
use lib.Dec.{T, T_not, not_T}
use Rattle.grammar.proofs.Recogniser.{gate}
use Rattle.text.proofs.Booleans.{and_0, and_1, or_0, or_1, or_cases, all}

module _ {K : Type 0} (same : K → K → Bool) where
  unfoldable pub mem : K → List K → Bool
  mem k [] = false
  mem k (j ∷ js) = same j k || mem k js

  unfoldable pub subset : List K → List K → Bool
  subset xs ys = all (λ k. mem k ys) xs

  unfoldable pub disjoint : List K → List K → Bool
  disjoint xs ys = all (λ k. not (mem k ys)) xs

  -- The list r does not begin with one of ks.
  unfoldable pub clear : List K → List K → Bool
  clear ks [] = true
  clear ks (k ∷ r) = not (mem k ks)

  pub mem_left : (k : K) (xs ys : List K) → T (mem k xs) → T (mem k (xs ++ ys))
  unfolding mem
  mem_left k [] ys t = absurd t
  mem_left k (x ∷ xs) ys t =
      ⊎_elim
      (λ s. or_0 (same x k) (mem k (xs ++ ys)) s)
      (λ s. or_1 (same x k) (mem k (xs ++ ys)) (mem_left k xs ys s))
      (or_cases (same x k) (mem k xs) t)

  pub mem_right : (k : K) (xs ys : List K) → T (mem k ys) → T (mem k (xs ++ ys))
  unfolding mem
  mem_right k [] ys t = t
  mem_right k (x ∷ xs) ys t = or_1 (same x k) (mem k (xs ++ ys)) (mem_right k xs ys t)

  pub mem_gate : (k : K) (b : Bool) (xs : List K) → T b → T (mem k xs) → T (mem k (gate b xs))
  unfolding gate
  mem_gate k true xs t m = m
  mem_gate k false xs t m = absurd t

  pub clear_less : (ks js : List K) → ((k : K) → T (mem k js) → T (mem k ks)) → (r : List K) → T (clear ks r) → T (clear js r)
  unfolding clear
  clear_less ks js h [] t = tt
  clear_less ks js h (k ∷ r) t = not_T (mem k js) (λ m. T_not (mem k ks) t (h k m))

  pub clear_left : (xs ys r : List K) → T (clear (xs ++ ys) r) → T (clear xs r)
  clear_left xs ys r t = clear_less (xs ++ ys) xs (λ k m. mem_left k xs ys m) r t

  pub clear_right : (xs ys r : List K) → T (clear (xs ++ ys) r) → T (clear ys r)
  clear_right xs ys r t = clear_less (xs ++ ys) ys (λ k m. mem_right k xs ys m) r t

  pub clear_gate : (b : Bool) (xs r : List K) → T b → T (clear (gate b xs) r) → T (clear xs r)
  clear_gate b xs r s t = clear_less (gate b xs) xs (λ k m. mem_gate k b xs s m) r t

  pub clear_not : (ks r us : List K) (k : K) → T (clear ks r) → r ≡ k ∷ us → T (mem k ks) → ⊥
  unfolding clear
  clear_not ks r us k t p m = T_not (mem k ks) (subst (λ l. T (clear ks l)) p t) m

  module _ (same_eq : (j k : K) → T (same j k) → j ≡ k) where
    pub all_use : (p : K → Bool) (xs : List K) → T (all p xs) → (k : K) → T (mem k xs) → T (p k)
    unfolding all mem
    all_use p [] t k m = absurd m
    all_use p (x ∷ xs) t k m =
        ⊎_elim
        (λ s. subst (λ j. T (p j)) (same_eq x k s) (and_0 (p x) (all p xs) t))
        (λ s. all_use p xs (and_1 (p x) (all p xs) t) k s)
        (or_cases (same x k) (mem k xs) m)

    pub subset_use : (xs ys : List K) → T (subset xs ys) → (k : K) → T (mem k xs) → T (mem k ys)
    unfolding subset
    subset_use xs ys t k m = all_use (λ k. mem k ys) xs t k m

    pub disjoint_use : (xs ys : List K) → T (disjoint xs ys) → (k : K) → T (mem k xs) → T (mem k ys) → ⊥
    unfolding disjoint
    disjoint_use xs ys t k m n = T_not (mem k ys) (all_use (λ k. not (mem k ys)) xs t k m) n

    -- A list that begins with one of ys is clear of xs, where the two are disjoint.
    pub clear_disjoint : (xs ys : List K) → T (disjoint xs ys) → (k : K) (us : List K) → T (mem k ys) → T (clear xs (k ∷ us))
    unfolding clear
    clear_disjoint xs ys t k us m = not_T (mem k xs) (λ n. disjoint_use xs ys t k n m)
