-- Grammars in EBNF as data, and the derivations of lists of tokens.
use Rattle.std.specs.Prelude.{◌≡◌, List, [], ◌∷◌, ◌++◌, ℕ, suc, ◌≤◌, ◌<◌, length, take}

infixr 20 ◌∣◌
infixr 30 ◌⨾◌
-- The right side of a production over kinds of token K and nonterminals N.
pub data Expr (K N : Type 0) : Type 0 where
  tok : K → Expr K N
  nt : N → Expr K N
  ◌⨾◌ : Expr K N → Expr K N → Expr K N
  ◌∣◌ : Expr K N → Expr K N → Expr K N
  star : Expr K N → Expr K N
  opt : Expr K N → Expr K N

-- Tokens of a type A, each of a kind, and the production of each nonterminal.
module _ {A K N : Type 0} (kind : A → K) (G : N → Expr K N) where
  -- "A derivation is a tree of the mode's published productions ..; its leaves are all the tokens in order, a repeated part is the list of its repeats"
  pub data Tree : Expr K N → Type 0 where
    leaf : {k : K} (t : A) → kind t ≡ k → Tree (tok k)
    node : (n : N) → Tree (G n) → Tree (nt n)
    both : {e f : Expr K N} → Tree e → Tree f → Tree (e ⨾ f)
    left : {e f : Expr K N} → Tree e → Tree (e ∣ f)
    right : {e f : Expr K N} → Tree f → Tree (e ∣ f)
    done : {e : Expr K N} → Tree (star e)
    more : {e : Expr K N} → Tree e → Tree (star e) → Tree (star e)
    absent : {e : Expr K N} → Tree (opt e)
    present : {e : Expr K N} → Tree e → Tree (opt e)

  unfoldable pub leaves : {e : Expr K N} → Tree e → List A
  leaves (leaf t p) = t ∷ []
  leaves (node n x) = leaves x
  leaves (both x y) = leaves x ++ leaves y
  leaves (left x) = leaves x
  leaves (right x) = leaves x
  leaves done = []
  leaves (more x y) = leaves x ++ leaves y
  leaves absent = []
  leaves (present x) = leaves x

  -- The tokens have a derivation from the nonterminal n.
  abbrev pub Derives : N → List A → Type 0
  Derives n ts = (x : Tree (nt n)) × (leaves x ≡ ts)

  -- "Tokens begin a grammatical text when some tokens, or none, put after them give a list with a derivation"
  abbrev pub Begins : N → List A → Type 0
  Begins n ts = (us : List A) × Derives n (ts ++ us)

  -- "The grammar fails at the first token with which the tokens so far begin no grammatical text; or at the document's end, when ..
  -- there is no such token, and they have no derivation." At token i; the end is where i is the number of tokens.
  pub record FailsAt (n : N) (ts : List A) (i : ℕ) : Type 0 where
    pub within : i ≤ length ts
    pub before : Begins n (take i ts)
    pub token : i < length ts → ¬ (Begins n (take (suc i) ts))
    pub end : i ≡ length ts → ¬ (Derives n ts)
