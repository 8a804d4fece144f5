-- Kinds of token by their numbers.
use mathlib.Core.Path.{◌≡◌, refl, sym, ap, ◌∙◌, subst}
use mathlib.Core.List.{List, [], ◌∷◌, map}
use mathlib.Core.Bool.{Bool, true, false}
use Prim.Native.Nat.{ℕ, zero, suc, pred, ◌≤◌}
use native.Mathlib.Omega.{arith}
use borrow.Author.Tests.{eqb-true}
use lib.Dec.{T, eqb, eqb→eq, eqb_refl}
use lib.ListN.{get_or, get_or-map}
use Rattle.text.proofs.Booleans.{and_0, and_1, all, is_true}
use Rattle.utf8.proofs.Tests.{below_at}
use Rattle.token.specs.Kind.{Kind, kind_code, kinds, last_kind, end_kind, kind_of_code, IRIREF, PNAME_NS, PNAME_LN, BLANK_NODE_LABEL, at_prefix, at_base, LANGTAG, INTEGER, DECIMAL, DOUBLE, STRING_LITERAL_QUOTE, STRING_LITERAL_SINGLE_QUOTE, kw_a, kw_true, kw_false, PREFIX, BASE, GRAPH, dot, comma, semicolon, open_bracket, close_bracket, open_paren, close_paren, open_brace, close_brace, carets, STRING_LITERAL_LONG_QUOTE, STRING_LITERAL_LONG_SINGLE_QUOTE}

pub kind_back : (k : Kind) → kind_of_code (kind_code k) ≡ k
kind_back IRIREF = refl
kind_back PNAME_NS = refl
kind_back PNAME_LN = refl
kind_back BLANK_NODE_LABEL = refl
kind_back at_prefix = refl
kind_back at_base = refl
kind_back LANGTAG = refl
kind_back INTEGER = refl
kind_back DECIMAL = refl
kind_back DOUBLE = refl
kind_back STRING_LITERAL_QUOTE = refl
kind_back STRING_LITERAL_SINGLE_QUOTE = refl
kind_back kw_a = refl
kind_back kw_true = refl
kind_back kw_false = refl
kind_back PREFIX = refl
kind_back BASE = refl
kind_back GRAPH = refl
kind_back dot = refl
kind_back comma = refl
kind_back semicolon = refl
kind_back open_bracket = refl
kind_back close_bracket = refl
kind_back open_paren = refl
kind_back close_paren = refl
kind_back open_brace = refl
kind_back close_brace = refl
kind_back carets = refl
kind_back STRING_LITERAL_LONG_QUOTE = refl
kind_back STRING_LITERAL_LONG_SINGLE_QUOTE = refl

-- The number of the kind with a number.
pub code_back : (k : ℕ) → (k ≡ end_kind → ⊥) → k ≤ last_kind → kind_code (kind_of_code k) ≡ k
code_back zero z h = absurd (z refl)
code_back (suc n) z h = eqb-true (kind_code (kind_of_code (suc n))) (suc n) (is_true (eqb (kind_code (kind_of_code (suc n))) (suc n)) (below_at (λ i. eqb (kind_code (kind_of_code (suc i))) (suc i)) last_kind tt n (omega arith)))

-- Are the two kinds the same?
unfoldable pub same : Kind → Kind → Bool
same j k = eqb (kind_code j) (kind_code k)

pub same_eq : (j k : Kind) → T (same j k) → j ≡ k
unfolding same
same_eq j k t = sym (kind_back j) ∙ ap kind_of_code (eqb→eq (kind_code j) (kind_code k) t) ∙ kind_back k

pub same_refl : (k : Kind) → T (same k k)
unfolding same
same_refl k = eqb_refl (kind_code k)

pub kind_discrete : (j k : Kind) → Dec (j ≡ k)
kind_discrete j k = go (same j k) refl
  where
    go : (b : Bool) → same j k ≡ b → Dec (j ≡ k)
    go true p = yes (same_eq j k (subst T (sym p) tt))
    go false p = no (λ q. subst T p (subst (λ i. T (same j i)) q (same_refl j)))

-- What a test finds of each element of a list holds at each place of it.
pub all_at : {A : Type 0} (p : A → Bool) (d : A) (xs : List A) → T (p d) → T (all p xs) → (i : ℕ) → T (p (get_or xs i d))
unfolding all
all_at p d [] t s i = t
all_at p d (x ∷ xs) t s zero = and_0 (p x) (all p xs) s
all_at p d (x ∷ xs) t s (suc i) = all_at p d xs t (and_1 (p x) (all p xs) s) i

-- What a test finds of each kind of the list holds of each kind; and so does an equation.
pub all_kinds : (p : Kind → Bool) → T (all p kinds) → (k : Kind) → T (p k)
unfolding all
all_kinds p t k = subst (λ j. T (p j)) (kind_back k) (all_at p dot kinds (all_at p IRIREF kinds (and_0 (p IRIREF) _ t) t (pred (kind_code dot))) t (pred (kind_code k)))

pub each_kind : {A : Type 0} (f g : Kind → A) → map f kinds ≡ map g kinds → (k : Kind) → f k ≡ g k
each_kind f g p k =
    ap f (sym (kind_back k)) ∙ sym (get_or-map f kinds (pred (kind_code k)) dot)
    ∙ ap (λ l. get_or l (pred (kind_code k)) (f dot)) p ∙ ap (λ x. get_or (map g kinds) (pred (kind_code k)) x) (ap (λ l. get_or l (pred (kind_code dot)) (f dot)) p)
    ∙ get_or-map g kinds (pred (kind_code k)) dot ∙ ap g (kind_back k)
