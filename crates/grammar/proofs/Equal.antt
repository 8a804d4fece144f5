-- Lists of stacks that have the same texts have the same verdict.
use mathlib.Core.Path.{◌≡◌, refl, ap, ap₂, ◌∙◌}
use mathlib.Core.List.{List, [], ◌∷◌}
use mathlib.Core.Bool.{Bool}
use Prim.Native.Nat.{ℕ}
use lib.Dec.{T}
use Rattle.text.proofs.Booleans.{same_bool}
use Rattle.grammar.specs.Ebnf.{Expr, nt}
use Rattle.grammar.proofs.KindTrees.{node}
use Rattle.grammar.proofs.Recogniser.{Stack, is_some, at_end, at_token, step, someNull, verdict}
use Rattle.grammar.proofs.Tests.{Passes}
use Rattle.grammar.proofs.Trees.{yield, yields, Forest, ◌▹◌, Any, here, there}
use Rattle.grammar.proofs.Steps.{someNull_fwd, someNull_back}
use Rattle.grammar.proofs.Verdict.{forward, backward, isSome_fwd, isSome_back}

module _
    {K N : Type 0}
    (same : K → K → Bool)
    (same_eq : (j k : K) → T (same j k) → j ≡ k)
    (same_refl : (k : K) → T (same k k))
    (G : N → Expr K N)
    (depth : ℕ)
    (passes : Passes same G depth)
  where
    fwd : (L : List (Stack K N)) (k : K) (us : List K) → Any G L (k ∷ us) → Any G (step same G depth L k) us
    fwd L k us a = forward same same_eq same_refl G depth passes k us a

    bwd : (L : List (Stack K N)) (k : K) (us : List K) → Any G (step same G depth L k) us → Any G L (k ∷ us)
    bwd L k us a = backward same same_eq same_refl G depth passes L k us a

    some_less : (L M : List (Stack K N)) → ((us : List K) → Any G L us → Any G M us) → T (is_some L) → T (is_some M)
    some_less L M f t = let (us, a) = isSome_back same same_eq same_refl G depth passes L t in isSome_fwd same same_eq same_refl G depth passes (f us a)

    null_less : (L M : List (Stack K N)) → ((us : List K) → Any G L us → Any G M us) → T (someNull same G depth L) → T (someNull same G depth M)
    null_less L M f t = someNull_fwd same same_eq same_refl G depth passes refl (f [] (someNull_back same same_eq same_refl G depth passes L t))

    -- Two lists of stacks with the same texts have the same verdict.
    pub equal :
        (L M : List (Stack K N)) → ((us : List K) → Any G L us → Any G M us) → ((us : List K) → Any G M us → Any G L us)
        → (ks : List K) → verdict same G depth L ks ≡ verdict same G depth M ks
    unfolding verdict
    equal L M f g [] = ap at_end (same_bool (someNull same G depth L) (someNull same G depth M) (null_less L M f) (null_less M L g))
    equal L M f g (k ∷ ks) =
        let L' = step same G depth L k in
        let M' = step same G depth M k in
        let f' : (us : List K) → Any G L' us → Any G M' us = λ us a. fwd M k us (f (k ∷ us) (bwd L k us a)) in
        let g' : (us : List K) → Any G M' us → Any G L' us = λ us a. fwd L k us (g (k ∷ us) (bwd M k us a)) in
        ap₂ at_token (same_bool (is_some L') (is_some M') (some_less L' M' f') (some_less M' L' g')) (equal L' M' f' g' ks)

    map_one : {S R : Stack K N} → ((w : Forest G S) → (v : Forest G R) × (yields G v ≡ yields G w)) → (us : List K) → Any G (S ∷ []) us → Any G (R ∷ []) us
    map_one f us (here w p) = let (v, q) = f w in here v (q ∙ p)
    map_one f us (there a) = elim a [ ]

    module _ (S : Stack K N) where
      open_node : (n : N) (w : Forest G (nt n ∷ S)) → (v : Forest G (G n ∷ S)) × (yields G v ≡ yields G w)
      unfolding yield yields
      open_node n (node _ x ▹ w) = (x ▹ w, refl)

      close_node : (n : N) (w : Forest G (G n ∷ S)) → (v : Forest G (nt n ∷ S)) × (yields G v ≡ yields G w)
      unfolding yield yields
      close_node n (x ▹ w) = (node n x ▹ w, refl)

      -- A nonterminal on top of a stack may be opened.
      pub opened : (n : N) (ks : List K) → verdict same G depth ((nt n ∷ S) ∷ []) ks ≡ verdict same G depth ((G n ∷ S) ∷ []) ks
      opened n ks = equal ((nt n ∷ S) ∷ []) ((G n ∷ S) ∷ []) (map_one (open_node n)) (map_one (close_node n)) ks
