-- What a token leaves of an expression does not depend on what stands below it on the stack.
use mathlib.Core.Path.{◌≡◌, refl, sym, ap, ap₂, ◌∙◌}
use mathlib.Core.List.{List, [], ◌∷◌, ◌++◌, map}
use mathlib.Core.Bool.{Bool, true, false}
use Prim.Native.Nat.{ℕ, zero, suc}
use Rattle.grammar.specs.Ebnf.{Expr, tok, nt, ◌⨾◌, ◌∣◌, star, opt}
use Rattle.grammar.proofs.Recogniser.{Stack, gate, null, afterE, afterN}

-- Each stack of the list with S below it.
abbrev pub onto : {A : Type 0} → List A → List (List A) → List (List A)
onto S L = map (λ R. R ++ S) L

pub onto_append : {A : Type 0} (S : List A) (L M : List (List A)) → onto S (L ++ M) ≡ onto S L ++ onto S M
onto_append S [] M = refl
onto_append S (R ∷ L) M = ap (λ l. (R ++ S) ∷ l) (onto_append S L M)

pub onto_gate : {A : Type 0} (S : List A) (b : Bool) (L : List (List A)) → onto S (gate b L) ≡ gate b (onto S L)
unfolding gate
onto_gate S true L = refl
onto_gate S false L = refl

module _ {K N : Type 0} (same : K → K → Bool) (G : N → Expr K N) (depth : ℕ) where
  pub afterE_onto :
      (h : N → K → Stack K N → List (Stack K N)) → ((n : N) (k : K) (R S : Stack K N) → h n k (R ++ S) ≡ onto S (h n k R))
      → (e : Expr K N) (k : K) (R S : Stack K N) → afterE same G depth h e k (R ++ S) ≡ onto S (afterE same G depth h e k R)
  unfolding afterE
  afterE_onto h p (tok j) k R S = sym (onto_gate S (same j k) (R ∷ []))
  afterE_onto h p (nt n) k R S = p n k R S
  afterE_onto h p (e ⨾ f) k R S =
      ap₂ (λ l m. l ++ gate (null same G depth e) m) (afterE_onto h p e k (f ∷ R) S) (afterE_onto h p f k R S)
      ∙ ap (λ l. onto S (afterE same G depth h e k (f ∷ R)) ++ l) (sym (onto_gate S (null same G depth e) (afterE same G depth h f k R)))
      ∙ sym (onto_append S (afterE same G depth h e k (f ∷ R)) (gate (null same G depth e) (afterE same G depth h f k R)))
  afterE_onto h p (e ∣ f) k R S =
      ap₂ ◌++◌ (afterE_onto h p e k R S) (afterE_onto h p f k R S)
      ∙ sym (onto_append S (afterE same G depth h e k R) (afterE same G depth h f k R))
  afterE_onto h p (star e) k R S = afterE_onto h p e k (star e ∷ R) S
  afterE_onto h p (opt e) k R S = afterE_onto h p e k R S

  pub afterN_onto : (d : ℕ) (n : N) (k : K) (R S : Stack K N) → afterN same G depth d n k (R ++ S) ≡ onto S (afterN same G depth d n k R)
  unfolding afterN
  afterN_onto zero n k R S = refl
  afterN_onto (suc d) n k R S = afterE_onto (afterN same G depth d) (afterN_onto d) (G n) k R S
