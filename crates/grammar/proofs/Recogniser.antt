-- A recogniser for lists of kinds: what is still to be read is a stack of expressions, or one of several.
use mathlib.Core.List.{List, [], ◌∷◌, ◌++◌}
use mathlib.Core.Bool.{Bool, true, false, ◌&&◌, ◌||◌}
use mathlib.Core.Option.{Option, none, some}
use Prim.Native.Nat.{ℕ, zero, suc}
use Rattle.grammar.specs.Ebnf.{Expr, tok, nt, ◌⨾◌, ◌∣◌, star, opt}

-- What is still to be read: a list of expressions, the next one first.
abbrev pub Stack : Type 0 → Type 0 → Type 0
Stack K N = List (Expr K N)

-- The list r if b, and else the empty list.
unfoldable pub gate : {A : Type 0} → Bool → List A → List A
gate true r = r
gate false r = []

-- Is there a stack?
unfoldable pub is_some : {A : Type 0} → List A → Bool
is_some [] = false
is_some (S ∷ L) = true

-- The verdict at the end of the tokens, and at a token, with that after it.
unfoldable pub at_end : Bool → Option ℕ
at_end true = none
at_end false = some 0

unfoldable pub later : Option ℕ → Option ℕ
later none = none
later (some i) = some (suc i)

unfoldable pub at_token : Bool → Option ℕ → Option ℕ
at_token true v = later v
at_token false v = some 0

-- May the expression derive no token at all? h answers for the nonterminals.
unfoldable pub nullE : {K N : Type 0} → (N → Bool) → Expr K N → Bool
nullE h (tok k) = false
nullE h (nt n) = h n
nullE h (e ⨾ f) = nullE h e && nullE h f
nullE h (e ∣ f) = nullE h e || nullE h f
nullE h (star e) = true
nullE h (opt e) = true

-- The same with nonterminals that are opened d deep.
unfoldable pub nullN : {K N : Type 0} (G : N → Expr K N) → ℕ → N → Bool
nullN G zero n = false
nullN G (suc d) n = nullE (nullN G d) (G n)

module _ {K N : Type 0} (same : K → K → Bool) (G : N → Expr K N) (depth : ℕ) where
  unfoldable pub null : Expr K N → Bool
  null e = nullE (nullN G depth) e

  unfoldable pub nullS : Stack K N → Bool
  nullS [] = true
  nullS (e ∷ S) = null e && nullS S

  -- The stacks that are left when e, in front of S, begins with a token of kind k. h answers for the nonterminals.
  unfoldable pub afterE : (N → K → Stack K N → List (Stack K N)) → Expr K N → K → Stack K N → List (Stack K N)
  afterE h (tok j) k S = gate (same j k) (S ∷ [])
  afterE h (nt n) k S = h n k S
  afterE h (e ⨾ f) k S = let r = afterE h f k S in afterE h e k (f ∷ S) ++ gate (null e) r
  afterE h (e ∣ f) k S = afterE h e k S ++ afterE h f k S
  afterE h (star e) k S = afterE h e k (star e ∷ S)
  afterE h (opt e) k S = afterE h e k S

  unfoldable pub afterN : ℕ → N → K → Stack K N → List (Stack K N)
  afterN zero n k S = []
  afterN (suc d) n k S = afterE (afterN d) (G n) k S

  unfoldable pub after : Stack K N → K → List (Stack K N)
  after [] k = []
  after (e ∷ S) k = let r = after S k in afterE (afterN depth) e k S ++ gate (null e) r

  unfoldable pub step : List (Stack K N) → K → List (Stack K N)
  step [] k = []
  step (S ∷ L) k = after S k ++ step L k

  unfoldable pub someNull : List (Stack K N) → Bool
  someNull [] = false
  someNull (S ∷ L) = nullS S || someNull L

  -- What it says of the kinds ks: none where it accepts them, and else how many of them it has taken.
  unfoldable pub verdict : List (Stack K N) → List K → Option ℕ
  verdict L [] = at_end (someNull L)
  verdict L (k ∷ ks) = let M = step L k in let v = verdict M ks in at_token (is_some M) v
