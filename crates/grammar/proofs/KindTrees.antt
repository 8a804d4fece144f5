-- Derivation trees of lists of kinds: the trees of Ebnf with nothing but a kind at each leaf. The theory of a grammar is told of these.
use mathlib.Core.Path.{◌≡◌}
use mathlib.Core.List.{List, [], ◌∷◌, ◌++◌}
use Prim.Native.Nat.{ℕ, suc, ◌≤◌, ◌<◌}
use lib.ListN.{length, take}
use Rattle.grammar.specs.Ebnf.{Expr, tok, nt, ◌⨾◌, ◌∣◌, star, opt}

module _ {K N : Type 0} (G : N → Expr K N) where
  -- A derivation tree of an expression. A repeated part is the list of its repeats.
  pub data Tree : Expr K N → Type 0 where
    leaf : (k : K) → Tree (tok k)
    node : (n : N) → Tree (G n) → Tree (nt n)
    both : {e f : Expr K N} → Tree e → Tree f → Tree (e ⨾ f)
    left : {e f : Expr K N} → Tree e → Tree (e ∣ f)
    right : {e f : Expr K N} → Tree f → Tree (e ∣ f)
    done : {e : Expr K N} → Tree (star e)
    more : {e : Expr K N} → Tree e → Tree (star e) → Tree (star e)
    absent : {e : Expr K N} → Tree (opt e)
    present : {e : Expr K N} → Tree e → Tree (opt e)

  -- The leaves of a tree, in order.
  unfoldable pub leaves : {e : Expr K N} → Tree e → List K
  leaves (leaf k) = k ∷ []
  leaves (node n x) = leaves x
  leaves (both x y) = leaves x ++ leaves y
  leaves (left x) = leaves x
  leaves (right x) = leaves x
  leaves done = []
  leaves (more x y) = leaves x ++ leaves y
  leaves absent = []
  leaves (present x) = leaves x

  -- The list ks has a derivation from the nonterminal n.
  abbrev pub Derives : N → List K → Type 0
  Derives n ks = (x : Tree (nt n)) × (leaves x ≡ ks)

  -- Some list, put after ks, gives a list that has a derivation.
  abbrev pub Begins : N → List K → Type 0
  Begins n ks = (us : List K) × Derives n (ks ++ us)

  -- The grammar fails at token i: it is the first with which the tokens so far begin no text that has a derivation.
  -- Where i is the number of tokens, there is no such token, and they have no derivation.
  pub record FailsAt (n : N) (ks : List K) (i : ℕ) : Type 0 where
    pub within : i ≤ length ks
    pub before : Begins n (take i ks)
    pub token : i < length ks → ¬ (Begins n (take (suc i) ks))
    pub end : i ≡ length ks → ¬ (Derives n ks)
