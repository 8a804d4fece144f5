-- Trees and forests, and the lists that they yield.
use mathlib.Core.Path.{◌≡◌, refl, sym, ap, ◌∙◌}
use mathlib.Core.Logic.{◌⊎◌, inl, inr, ⊎_elim}
use mathlib.Core.List.{List, [], ◌∷◌, ◌++◌, append-nil, append_assoc}
use mathlib.Core.Bool.{Bool, true, false}
use Prim.Native.Nat.{ℕ, zero, suc}
use lib.Dec.{T}
use Rattle.grammar.specs.Ebnf.{Expr, tok, nt, ◌⨾◌, ◌∣◌, star, opt}
use Rattle.grammar.proofs.KindTrees.{Tree, leaf, node, both, left, right, done, more, absent, present, leaves}
use Rattle.grammar.proofs.Recogniser.{Stack, gate, nullE, nullN}
use Rattle.text.proofs.Booleans.{and_0, and_1, or_cases}

module _ {K N : Type 0} (G : N → Expr K N) where
  -- The leaves of a tree, in order, in front of r.
  unfoldable pub yield : {e : Expr K N} → Tree G e → List K → List K
  yield (leaf k) r = k ∷ r
  yield (node n x) r = yield x r
  yield (both x y) r = yield x (yield y r)
  yield (left x) r = yield x r
  yield (right x) r = yield x r
  yield done r = r
  yield (more x y) r = yield x (yield y r)
  yield absent r = r
  yield (present x) r = yield x r

  pub yield_leaves : {e : Expr K N} (x : Tree G e) (r : List K) → yield x r ≡ leaves G x ++ r
  unfolding yield leaves
  yield_leaves (leaf k) r = refl
  yield_leaves (node n x) r = yield_leaves x r
  yield_leaves (both x y) r = yield_leaves x (yield y r) ∙ ap (λ l. leaves G x ++ l) (yield_leaves y r) ∙ sym (append_assoc (leaves G x) (leaves G y) r)
  yield_leaves (left x) r = yield_leaves x r
  yield_leaves (right x) r = yield_leaves x r
  yield_leaves done r = refl
  yield_leaves (more x y) r = yield_leaves x (yield y r) ∙ ap (λ l. leaves G x ++ l) (yield_leaves y r) ∙ sym (append_assoc (leaves G x) (leaves G y) r)
  yield_leaves absent r = refl
  yield_leaves (present x) r = yield_leaves x r

  -- The leaves of a tree are what it yields in front of nothing.
  pub leaves_yield : {e : Expr K N} (x : Tree G e) → leaves G x ≡ yield x []
  leaves_yield x = sym (yield_leaves x [] ∙ append-nil (leaves G x))

  pub yield_append : {e : Expr K N} (x : Tree G e) (r s : List K) → yield x (r ++ s) ≡ yield x r ++ s
  unfolding yield
  yield_append (leaf k) r s = refl
  yield_append (node n x) r s = yield_append x r s
  yield_append (both x y) r s = ap (yield x) (yield_append y r s) ∙ yield_append x (yield y r) s
  yield_append (left x) r s = yield_append x r s
  yield_append (right x) r s = yield_append x r s
  yield_append done r s = refl
  yield_append (more x y) r s = ap (yield x) (yield_append y r s) ∙ yield_append x (yield y r) s
  yield_append absent r s = refl
  yield_append (present x) r s = yield_append x r s

  infixr 40 ◌▹◌
  -- A tree for each expression of a stack.
  pub data Forest : Stack K N → Type 0 where
    nil : Forest []
    ◌▹◌ : {e : Expr K N} {S : Stack K N} → Tree G e → Forest S → Forest (e ∷ S)

  unfoldable pub yields : {S : Stack K N} → Forest S → List K
  yields nil = []
  yields (x ▹ w) = yield x (yields w)

module _ {K N : Type 0} (G : N → Expr K N) where
  -- A forest of one of the stacks, with the leaves us.
  pub data Any : List (Stack K N) → List K → Type 0 where
    here : {S : Stack K N} {L : List (Stack K N)} {us : List K} (w : Forest G S) → yields G w ≡ us → Any (S ∷ L) us
    there : {S : Stack K N} {L : List (Stack K N)} {us : List K} → Any L us → Any (S ∷ L) us

  pub any_left : {L : List (Stack K N)} (M : List (Stack K N)) {us : List K} → Any L us → Any (L ++ M) us
  any_left M (here w p) = here w p
  any_left M (there a) = there (any_left M a)

  pub any_right : (L : List (Stack K N)) {M : List (Stack K N)} {us : List K} → Any M us → Any (L ++ M) us
  any_right [] a = a
  any_right (S ∷ L) a = there (any_right L a)

  pub any_cases : (L : List (Stack K N)) {M : List (Stack K N)} {us : List K} → Any (L ++ M) us → Any L us ⊎ Any M us
  any_cases [] a = inr a
  any_cases (S ∷ L) (here w p) = inl (here w p)
  any_cases (S ∷ L) (there a) = ⊎_elim (λ b. inl (there b)) (λ b. inr b) (any_cases L a)

  pub gate_in : (b : Bool) {L : List (Stack K N)} {us : List K} → T b → Any L us → Any (gate b L) us
  unfolding gate
  gate_in true t a = a
  gate_in false t a = absurd t

  pub gate_out : (b : Bool) (L : List (Stack K N)) {us : List K} → Any (gate b L) us → T b × Any L us
  unfolding gate
  gate_out true L a = (tt, a)
  gate_out false L a = elim a [ ]

  -- The tree of an expression that has no leaves.
  abbrev pub Empty : Expr K N → Type 0
  Empty e = (x : Tree G e) × ((r : List K) → yield G x r ≡ r)

  empty_both : {e f : Expr K N} → Empty e → Empty f → Empty (e ⨾ f)
  unfolding yield
  empty_both (x, p) (y, q) = (both x y, λ r. p (yield G y r) ∙ q r)

  pub emptyE : (h : N → Bool) → ((n : N) → T (h n) → Empty (nt n)) → (e : Expr K N) → T (nullE h e) → Empty e
  unfolding yield nullE
  emptyE h s (tok k) t = absurd t
  emptyE h s (nt n) t = s n t
  emptyE h s (e ⨾ f) t =
      empty_both (emptyE h s e (and_0 (nullE h e) (nullE h f) t)) (emptyE h s f (and_1 (nullE h e) (nullE h f) t))
  emptyE h s (e ∣ f) t =
      ⊎_elim
      (λ a. let x = emptyE h s e a in (left x.0, x.1))
      (λ a. let x = emptyE h s f a in (right x.0, x.1))
      (or_cases (nullE h e) (nullE h f) t)
  emptyE h s (star e) t = (done, λ r. refl)
  emptyE h s (opt e) t = (absent, λ r. refl)

  pub emptyN : (d : ℕ) (n : N) → T (nullN G d n) → Empty (nt n)
  unfolding yield nullN
  emptyN zero n t = absurd t
  emptyN (suc d) n t = let x = emptyE (nullN G d) (emptyN d) (G n) t in (node n x.0, x.1)

  -- A tree of e and a forest of S whose leaves together are us.
  abbrev pub Before : Expr K N → Stack K N → List K → Type 0
  Before e S us = (x : Tree G e) × (w : Forest G S) × (yield G x (yields G w) ≡ us)

  pub before_both : {e f : Expr K N} {S : Stack K N} {us : List K} → Before e (f ∷ S) us → Before (e ⨾ f) S us
  unfolding yield yields
  before_both (x, y ▹ w, p) = (both x y, w, p)

  pub before_more : {e : Expr K N} {S : Stack K N} {us : List K} → Before e (star e ∷ S) us → Before (star e) S us
  unfolding yield yields
  before_more (x, y ▹ w, p) = (more x y, w, p)

  pub before_empty : {e f : Expr K N} {S : Stack K N} {us : List K} → Empty e → Before f S us → Before (e ⨾ f) S us
  unfolding yield
  before_empty (x, q) (y, w, p) = (both x y, w, q (yield G y (yields G w)) ∙ p)
