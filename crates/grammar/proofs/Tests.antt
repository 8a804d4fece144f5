-- The tests of a grammar: what has to hold of each nonterminal, as a value that antt computes.
use mathlib.Core.List.{List, [], ◌∷◌, ◌++◌}
use mathlib.Core.Bool.{Bool, true, false, ◌&&◌, not}
use mathlib.Core.Option.{Option, none, some}
use Prim.Native.Nat.{ℕ, zero, suc, max}
use lib.Dec.{T, ltb}
use Rattle.grammar.specs.Ebnf.{Expr, tok, nt, ◌⨾◌, ◌∣◌, star, opt}
use Rattle.grammar.proofs.KindTrees.{Tree, leaf, node, both, left, right, done, absent}
use Rattle.grammar.proofs.Recogniser.{Stack, gate, null, nullS, afterE, afterN}
use Rattle.text.proofs.Booleans.{imp, all}
use Rattle.grammar.proofs.KindSets.{subset, disjoint}

abbrev if_null : Bool → ℕ → ℕ
if_null true n = n
if_null false n = 0

-- A value, where there is one.
abbrev pub is : {A : Type 0} → Option A → Bool
is none = false
is (some a) = true

pub the : {A : Type 0} (o : Option A) → T (is o) → A
the none t = absurd t
the (some a) t = a

module _ {K N : Type 0} (same : K → K → Bool) (G : N → Expr K N) (depth : ℕ) where
  -- The nonterminals with which e can begin have a rank below d.
  unfoldable pub low : (N → ℕ) → ℕ → Expr K N → Bool
  low rank d (tok k) = true
  low rank d (nt n) = ltb (rank n) d
  low rank d (e ⨾ f) = low rank d e && imp (null same G depth e) (low rank d f)
  low rank d (e ∣ f) = low rank d e && low rank d f
  low rank d (star e) = low rank d e
  low rank d (opt e) = low rank d e

  -- The kinds with which e can begin. h answers for the nonterminals.
  unfoldable pub firstE : (N → List K) → Expr K N → List K
  firstE h (tok k) = k ∷ []
  firstE h (nt n) = h n
  firstE h (e ⨾ f) = let r = firstE h f in firstE h e ++ gate (null same G depth e) r
  firstE h (e ∣ f) = firstE h e ++ firstE h f
  firstE h (star e) = firstE h e
  firstE h (opt e) = firstE h e

  unfoldable pub firstS : (N → List K) → Stack K N → List K
  firstS h [] = []
  firstS h (e ∷ S) = let r = firstS h S in firstE h e ++ gate (null same G depth e) r

  -- The kinds with which a text of e can go on after a shorter text of e. h and g answer for the nonterminals.
  unfoldable pub lastE : (N → List K) → (N → List K) → Expr K N → List K
  lastE h g (tok k) = []
  lastE h g (nt n) = g n
  lastE h g (e ⨾ f) = let r = lastE h g e in lastE h g f ++ gate (null same G depth f) r
  lastE h g (e ∣ f) = lastE h g e ++ lastE h g f
  lastE h g (star e) = firstE h e ++ lastE h g e
  lastE h g (opt e) = firstE h e ++ lastE h g e

  -- No text begins both stacks: neither is empty, and their first kinds differ.
  unfoldable pub sep : (N → List K) → Stack K N → Stack K N → Bool
  sep h S R = not (nullS same G depth S) && (not (nullS same G depth R) && disjoint same (firstS h S) (firstS h R))

  -- e and f begin with different kinds, or go on with different kinds after the first.
  unfoldable pub apart : (N → List K) → Expr K N → Expr K N → Bool
  apart h e f =
      all
      (λ k. all (λ S. all (λ R. sep h S R) (afterE same G depth (afterN same G depth depth) f k [])) (afterE same G depth (afterN same G depth depth) e k []))
      (firstE h e)

  unfoldable pub wf : (N → List K) → (N → List K) → Expr K N → Bool
  wf h g (tok k) = true
  wf h g (nt n) = true
  wf h g (e ⨾ f) = wf h g e && (wf h g f && disjoint same (lastE h g e) (firstE h f))
  wf h g (e ∣ f) = wf h g e && (wf h g f && (not (null same G depth e) && (not (null same G depth f) && apart h e f)))
  wf h g (star e) = wf h g e && (not (null same G depth e) && disjoint same (lastE h g e) (firstE h e))
  wf h g (opt e) = wf h g e && not (null same G depth e)

  -- How many nonterminals, one at the beginning of the other, e can begin with.
  unfoldable pub rankE : (N → ℕ) → Expr K N → ℕ
  rankE h (tok k) = 0
  rankE h (nt n) = suc (h n)
  rankE h (e ⨾ f) = let r = rankE h f in max (rankE h e) (if_null (null same G depth e) r)
  rankE h (e ∣ f) = max (rankE h e) (rankE h f)
  rankE h (star e) = rankE h e
  rankE h (opt e) = rankE h e

  unfoldable pub rankN : ℕ → N → ℕ
  rankN zero n = 0
  rankN (suc d) n = rankE (rankN d) (G n)

  unfoldable pub firstN : ℕ → N → List K
  firstN zero n = []
  firstN (suc d) n = firstE (firstN d) (G n)

  unfoldable pub lastN : ℕ → N → List K
  lastN zero n = []
  lastN (suc d) n = lastE (firstN depth) (lastN d) (G n)

  unfoldable pub both? : {e f : Expr K N} → Option (Tree G e) → Option (Tree G f) → Option (Tree G (e ⨾ f))
  both? none y = none
  both? (some x) none = none
  both? (some x) (some y) = some (both x y)

  unfoldable pub either? : {e f : Expr K N} → Option (Tree G e) → Option (Tree G f) → Option (Tree G (e ∣ f))
  either? (some x) y = some (left x)
  either? none none = none
  either? none (some y) = some (right y)

  unfoldable pub node? : (n : N) → Option (Tree G (G n)) → Option (Tree G (nt n))
  node? n none = none
  node? n (some x) = some (node n x)

  -- A tree of e, where one is found.
  unfoldable pub sampleE : ((n : N) → Option (Tree G (nt n))) → (e : Expr K N) → Option (Tree G e)
  sampleE h (tok k) = some (leaf k)
  sampleE h (nt n) = h n
  sampleE h (e ⨾ f) = both? (sampleE h e) (sampleE h f)
  sampleE h (e ∣ f) = either? (sampleE h e) (sampleE h f)
  sampleE h (star e) = some done
  sampleE h (opt e) = some absent

  unfoldable pub sampleN : ℕ → (n : N) → Option (Tree G (nt n))
  sampleN zero n = none
  sampleN (suc d) n = node? n (sampleE (sampleN d) (G n))

  abbrev pub ranks : N → ℕ
  ranks = rankN depth

  abbrev pub firsts : N → List K
  firsts = firstN depth

  abbrev pub lasts : N → List K
  lasts = lastN depth

  -- The tests of a nonterminal. The tables of what is null and of the first and last kinds are whole;
  unfoldable pub null_whole : N → Bool
  null_whole n = imp (null same G depth (G n)) (null same G depth (nt n))

  unfoldable pub first_whole : N → Bool
  first_whole n = subset same (firstE firsts (G n)) (firsts n)

  unfoldable pub last_whole : N → Bool
  last_whole n = subset same (lastE firsts lasts (G n)) (lasts n)

  -- it does not begin with itself;
  unfoldable pub ranked : N → Bool
  ranked n = low ranks (ranks n) (G n)

  unfoldable pub bounded : N → Bool
  bounded n = ltb (ranks n) depth

  -- the first token, or else the second, decides between alternatives, and the next token whether a part stands or is repeated;
  unfoldable pub decided : N → Bool
  decided n = wf firsts lasts (G n)

  -- it has a tree.
  unfoldable pub productive : N → Bool
  productive n = is (sampleN depth n)

  pub record Passes : Type 0 where
    pub null_ok : (n : N) → T (null_whole n)
    pub first_ok : (n : N) → T (first_whole n)
    pub last_ok : (n : N) → T (last_whole n)
    pub rank_ok : (n : N) → T (ranked n)
    pub depth_ok : (n : N) → T (bounded n)
    pub decided_ok : (n : N) → T (decided n)
    pub productive_ok : (n : N) → T (productive n)
