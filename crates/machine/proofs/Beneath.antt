-- Lists of stacks with others beneath: what a token leaves of them.
use mathlib.Core.Path.{◌≡◌, refl, sym, ap, ap₂, ◌∙◌}
use mathlib.Core.List.{List, [], ◌∷◌, ◌++◌, append-nil, append_assoc}
use mathlib.Core.Bool.{Bool, true, false, ◌&&◌, not}
use Prim.Native.Nat.{ℕ}
use lib.Dec.{T}
use Rattle.grammar.specs.Ebnf.{Expr}
use Rattle.grammar.proofs.Recogniser.{Stack, gate, is_some, null, nullS, afterE, afterN, after, step}
use Rattle.text.proofs.Booleans.{all, and_0, and_1}
use Rattle.grammar.proofs.Onto.{onto, onto_append, onto_gate, afterE_onto, afterN_onto}
use Rattle.machine.proofs.Stands.{beneath}

onto_onto : {A : Type 0} (R S : List A) (L : List (List A)) → onto S (onto R L) ≡ onto (R ++ S) L
onto_onto R S [] = refl
onto_onto R S (Q ∷ L) = ap₂ ◌∷◌ (append_assoc Q R S) (onto_onto R S L)

onto_beneath : {A : Type 0} (S : List A) (L B : List (List A)) → onto S (beneath L B) ≡ beneath L (onto S B)
onto_beneath S L [] = refl
onto_beneath S L (R ∷ B) = onto_append S (onto R L) (beneath L B) ∙ ap₂ ◌++◌ (onto_onto R S L) (onto_beneath S L B)

beneath_append : {A : Type 0} (L B C : List (List A)) → beneath L (B ++ C) ≡ beneath L B ++ beneath L C
beneath_append L [] C = refl
beneath_append L (R ∷ B) C = ap (λ l. onto R L ++ l) (beneath_append L B C) ∙ sym (append_assoc (onto R L) (beneath L B) (beneath L C))

pub beneath_assoc : {A : Type 0} (L B C : List (List A)) → beneath (beneath L B) C ≡ beneath L (beneath B C)
beneath_assoc L B [] = refl
beneath_assoc L B (S ∷ C) = ap₂ ◌++◌ (onto_beneath S L B) (beneath_assoc L B C) ∙ sym (beneath_append L (onto S B) (beneath B C))

pub beneath_one : {A : Type 0} (B : List (List A)) → beneath ([] ∷ []) B ≡ B
beneath_one [] = refl
beneath_one (R ∷ B) = ap (λ l. R ∷ l) (beneath_one B)

pub beneath_none : {A : Type 0} (B : List (List A)) → beneath [] B ≡ []
beneath_none [] = refl
beneath_none (R ∷ B) = beneath_none B

onto_nil : {A : Type 0} (L : List (List A)) → onto [] L ≡ L
onto_nil [] = refl
onto_nil (R ∷ L) = ap₂ ◌∷◌ (append-nil R) (onto_nil L)

pub beneath_unit : {A : Type 0} (L : List (List A)) → beneath L ([] ∷ []) ≡ L
beneath_unit L = append-nil (onto [] L) ∙ onto_nil L

pub beneath_some : {A : Type 0} (L B : List (List A)) → T (is_some L) → T (is_some B) → T (is_some (beneath L B))
unfolding is_some
beneath_some [] B t s = absurd t
beneath_some (R ∷ L) [] t s = absurd s
beneath_some (R ∷ L) (S ∷ B) t s = tt

gate_same : {A : Type 0} (b : Bool) {x y : List A} → (T b → x ≡ y) → gate b x ≡ gate b y
unfolding gate
gate_same true p = p tt
gate_same false p = refl

tail_solid : (a b : Bool) → T (not (a && b)) → T a → T (not b)
tail_solid true b t s = t
tail_solid false b t s = absurd s

module _ {K N : Type 0} (same : K → K → Bool) (G : N → Expr K N) (depth : ℕ) where
  -- No stack of the list may be empty.
  unfoldable pub solid : List (Stack K N) → Bool
  solid L = all (λ R. not (nullS same G depth R)) L

  pub after_beneath : (R S : Stack K N) (k : K) → T (not (nullS same G depth R)) → after same G depth (R ++ S) k ≡ onto S (after same G depth R k)
  unfolding after nullS
  after_beneath [] S k t = absurd t
  after_beneath (e ∷ R) S k t =
      ap₂ ◌++◌
      (afterE_onto same G depth (afterN same G depth depth) (afterN_onto same G depth depth) e k R S)
      (gate_same (null same G depth e) (λ b. after_beneath R S k (tail_solid (null same G depth e) (nullS same G depth R) t b))
      ∙ sym (onto_gate S (null same G depth e) (after same G depth R k)))
      ∙ sym (onto_append S (afterE same G depth (afterN same G depth depth) e k R) (gate (null same G depth e) (after same G depth R k)))

  pub step_append : (L M : List (Stack K N)) (k : K) → step same G depth (L ++ M) k ≡ step same G depth L k ++ step same G depth M k
  unfolding step
  step_append [] M k = refl
  step_append (R ∷ L) M k = ap (λ l. after same G depth R k ++ l) (step_append L M k) ∙ sym (append_assoc (after same G depth R k) (step same G depth L k) (step same G depth M k))

  step_onto : (S : Stack K N) (L : List (Stack K N)) (k : K) → T (solid L) → step same G depth (onto S L) k ≡ onto S (step same G depth L k)
  unfolding step solid all
  step_onto S [] k t = refl
  step_onto S (R ∷ L) k t =
      ap₂ ◌++◌ (after_beneath R S k (and_0 (not (nullS same G depth R)) (solid L) t)) (step_onto S L k (and_1 (not (nullS same G depth R)) (solid L) t))
      ∙ sym (onto_append S (after same G depth R k) (step same G depth L k))

  -- What a token leaves does not depend on what lies beneath.
  pub step_beneath : (L B : List (Stack K N)) (k : K) → T (solid L) → step same G depth (beneath L B) k ≡ beneath (step same G depth L k) B
  unfolding step
  step_beneath L [] k t = refl
  step_beneath L (S ∷ B) k t = step_append (onto S L) (beneath L B) k ∙ ap₂ ◌++◌ (step_onto S L k t) (step_beneath L B k t)
