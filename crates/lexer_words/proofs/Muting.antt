-- Kinds of token among the items of a state: what no item of a kind can end, no token of that kind ends.
use mathlib.Core.Path.{◌≡◌, refl, subst, sym, ap, ◌∙◌}
use mathlib.Core.Logic.{◌⊎◌, inl, inr, ⊎_elim}
use mathlib.Core.Bool.{Bool, true, false, ◌&&◌}
use mathlib.Core.List.{List, [], ◌∷◌, ◌++◌}
use Prim.Native.Nat.{ℕ, ◌+◌, min}
use native.Mathlib.Omega.{arith}
use lib.Dec.{T}
use Rattle.std.specs.Prelude.{Option, Some, None}
use Rattle.automaton.specs.declared.Token.{Token}
use Rattle.text.specs.Text.{cond}
use Rattle.utf8.specs.Utf8.{width}
use Rattle.utf8.proofs.Tests.{by, split}
use Rattle.token.specs.Regular.{Re, item, Match, nothing, hit, nullable, after, of_kind, step, least_of, now_at, later, best}
use Rattle.automaton.specs.States.{State}
use Rattle.automaton.specs.Run.{tok, see, run}

-- No token ends in a run over a text.
abbrev pub Mute : State → List ℕ → Type 0
Mute q [] = now_at q ≡ nothing
Mute q (c ∷ cs) = (now_at q ≡ nothing) × Mute (step c q) cs

pub mute_dead : (cs : List ℕ) → Mute [] cs
mute_dead [] = refl
mute_dead (c ∷ cs) = (refl, mute_dead cs)

module _ (p : ℕ → Bool) where
  -- ---- All items are of the kinds

  abbrev pub kinds_pass : State → Bool
  kinds_pass [] = true
  kinds_pass (item k r ∷ xs) = p k && kinds_pass xs

  pass_append : (k : ℕ) (rs : List Re) (xs : State) → p k ≡ true → T (kinds_pass xs) → T (kinds_pass (of_kind k rs ++ xs))
  pass_append k [] xs e t = t
  pass_append k (r ∷ rs) xs e t = rw e (pass_append k rs xs e t)

  pass_step : (c : ℕ) (q : State) → T (kinds_pass q) → T (kinds_pass (step c q))
  pass_step c [] t = tt
  pass_step c (item k r ∷ xs) t =
      by (p k) (λ e. pass_append k (after c r) (step c xs) e (pass_step c xs (rw e at t))) (λ e. absurd (rw e at t))

  -- The least kind that matches the empty text.
  abbrev pub Passes : Match → Type 0
  Passes nothing = Unit {0}
  Passes (hit k n) = p k ≡ true

  least_of_two : (v : Bool) (k j : ℕ) → p k ≡ v → p j ≡ v → p (min k j) ≡ v
  least_of_two v k j e f =
      ⊎_elim (λ h. let z : min k j ≡ k = omega arith in ap p z ∙ e) (λ h. let z : min k j ≡ j = omega arith in ap p z ∙ f) (split k j)

  pass_now : (q : State) → T (kinds_pass q) → Passes (now_at q)
  pass_now [] t = tt
  pass_now (item k r ∷ xs) t =
      by (p k)
      (λ e.
      let u = pass_now xs (rw e at t) in
      by (nullable r) (λ f. rw f (least (now_at xs) e u)) (λ f. rw f u))
      (λ e. absurd (rw e at t))
    where
      least : (m : Match) → p k ≡ true → Passes m → Passes (least_of k m)
      least nothing e u = e
      least (hit j n) e u = least_of_two true k j e u

  -- The longest match is of one of these kinds.
  pub best_passes : (cs : List ℕ) (q : State) → T (kinds_pass q) → Passes (best width q cs)
  best_passes [] q t = pass_now q t
  best_passes (c ∷ cs) q t = fin (best width (step c q) cs) (best_passes cs (step c q) (pass_step c q t)) (now_at q) (pass_now q t)
    where
      fin : (m : Match) → Passes m → (other : Match) → Passes other → Passes (later (width c) m other)
      fin nothing u other v = v
      fin (hit k n) u other v = u

  -- A token of one of these kinds.
  abbrev pub PassesToo : Option Token → Type 0
  PassesToo None = ⊥
  PassesToo (Some t) = p t.kind ≡ true

  -- A run over such a state sees no token, or ends with one of these kinds.
  pub run_passes : (cs : List ℕ) (q : State) (i : ℕ) (seen : Option Token) → T (kinds_pass q) → (run q i seen cs ≡ seen) ⊎ PassesToo (run q i seen cs)
  run_passes [] q i seen t = inl refl
  run_passes (c ∷ cs) q i seen t = go (now_at (step c q)) (pass_now (step c q) (pass_step c q t)) (λ x. run_passes cs (step c q) (i + width c) x (pass_step c q t))
    where
      go : (m : Match) → Passes m → ((x : Option Token) → (run (step c q) (i + width c) x cs ≡ x) ⊎ PassesToo (run (step c q) (i + width c) x cs))
          → (run (step c q) (i + width c) (see m (i + width c) seen) cs ≡ seen) ⊎ PassesToo (run (step c q) (i + width c) (see m (i + width c) seen) cs)
      go nothing u ih = ih seen
      go (hit k n) u ih = ⊎_elim (λ e. inr (rw e u)) (λ e. inr e) (ih (Some (tok k (i + width c))))

  -- ---- The items of the kinds alone

  abbrev pub only_kinds : State → State
  only_kinds [] = []
  only_kinds (item k r ∷ xs) = let rest = only_kinds xs in cond (p k) (item k r ∷ rest) rest

  keep_append : (k : ℕ) (rs : List Re) (xs : State) → p k ≡ true → only_kinds (of_kind k rs ++ xs) ≡ of_kind k rs ++ only_kinds xs
  keep_append k [] xs e = refl
  keep_append k (r ∷ rs) xs e = rw e (ap (λ (y : State). item k r ∷ y) (keep_append k rs xs e))

  drop_append : (k : ℕ) (rs : List Re) (xs : State) → p k ≡ false → only_kinds (of_kind k rs ++ xs) ≡ only_kinds xs
  drop_append k [] xs e = refl
  drop_append k (r ∷ rs) xs e = rw e (drop_append k rs xs e)

  only_step : (c : ℕ) (q : State) → only_kinds (step c q) ≡ step c (only_kinds q)
  only_step c [] = refl
  only_step c (item k r ∷ xs) =
      by (p k)
      (λ e. rw e (keep_append k (after c r) (step c xs) e ∙ ap (λ (y : State). of_kind k (after c r) ++ y) (only_step c xs)))
      (λ e. rw e (drop_append k (after c r) (step c xs) e ∙ only_step c xs))

  abbrev pub Fails : Match → Type 0
  Fails nothing = Unit {0}
  Fails (hit k n) = p k ≡ false

  fails_now : (q : State) → now_at (only_kinds q) ≡ nothing → Fails (now_at q)
  fails_now [] e = tt
  fails_now (item k r ∷ xs) e =
      by (p k)
      (λ f. let g = rw f at e in by (nullable r) (λ h. some (now_at (only_kinds xs)) (rw h at g)) (λ h. rw h (fails_now xs (rw h at g))))
      (λ f. let u = fails_now xs (rw f at e) in by (nullable r) (λ h. rw h (least (now_at xs) f u)) (λ h. rw h u))
    where
      some : {X : Type 0} (m : Match) → least_of k m ≡ nothing → X
      some nothing e = let z : ◌≡◌ {A = ℕ} 0 1 = cc in absurd (omega arith)
      some (hit j n) e = let z : ◌≡◌ {A = ℕ} 0 1 = cc in absurd (omega arith)

      least : (m : Match) → p k ≡ false → Fails m → Fails (least_of k m)
      least nothing e u = e
      least (hit j n) e u = least_of_two false k j e u

  pub mute_fails : (cs : List ℕ) (q : State) → Mute (only_kinds q) cs → Fails (best width q cs)
  mute_fails [] q u = fails_now q u
  mute_fails (c ∷ cs) q u =
      fin (best width (step c q) cs) (mute_fails cs (step c q) (subst (λ (y : State). Mute y cs) (sym (only_step c q)) u.1)) (now_at q) (fails_now q u.0)
    where
      fin : (m : Match) → Fails m → (other : Match) → Fails other → Fails (later (width c) m other)
      fin nothing f other g = g
      fin (hit k n) f other g = f
