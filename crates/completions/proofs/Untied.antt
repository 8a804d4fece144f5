-- Where the grammar fails at a token, what stands there says nothing about the token before it: no string awaits its tag or type.
use mathlib.Core.Path.{◌≡◌, refl, sym, ap, ◌∙◌, subst}
use mathlib.Core.Logic.{⊎_elim}
use mathlib.Core.List.{List, [], ◌∷◌}
use mathlib.Core.Bool.{Bool, true, false}
use mathlib.Core.Option.{Option, none, some}
use Prim.Native.Nat.{ℕ, zero, suc}
use lib.ListN.{take, drop}
use Rattle.text.proofs.Compare.{contrary}
use Rattle.token.specs.Tokens.{Token, Lexeme, token, unreadable, tokens_of}
use Rattle.grammar.specs.Productions.{Mode}
use Rattle.grammar.proofs.Recogniser.{at_end as end_verdict, later}
use Rattle.table.proofs.Numbers.{not_none}
use Rattle.machine.specs.Memory.{Memory, Write}
use Rattle.machine.specs.Frame.{Open}
use Rattle.machine.specs.Rules.{find_rule, rules}
use Rattle.machine.specs.Step.{State, obeyed, tied_to}
use Rattle.machine.proofs.Demands.{obey, after_rules}
use Rattle.machine.proofs.Judge.{tied_same}
use Rattle.machine.proofs.Link.{follow, finished, machine_verdict}
use Rattle.machine.proofs.Made.{some_same}
use Rattle.machine.proofs.Follows.{rule_for, string_rule, asks_or_not}
use Rattle.completions.proofs.Complete.{awaits}

-- ---- A rule that leaves no string waiting does not ask what follows

untied_rule : (t : Token) (mode : Mode) (w : Write Open) (m : Memory) → awaits (w m).0 ≡ false → (tied : Bool) (o : Open) → rule_for t mode o tied ≡ some w → rule_for t mode o false ≡ some w
untied_rule t mode w m n false o e = e
untied_rule t mode w m n true o e =
    ⊎_elim (λ p. sym p ∙ e)
    (λ a.
    let q : w ≡ string_rule t a.begin a.below true = some_same (sym e ∙ a.rule true) in
    contrary (sym (ap (λ (v : Write Open). awaits (v m).0) q) ∙ n))
    (asks_or_not t mode o)

-- ---- The tokens cut off

pub tokens_cut : (i : ℕ) (ls : List Lexeme) → take i (tokens_of (take i ls)) ≡ take i (tokens_of ls)
unfolding tokens_of
tokens_cut zero ls = refl
tokens_cut (suc i) [] = refl
tokens_cut (suc i) (unreadable p ∷ ls) = refl
tokens_cut (suc i) (token t ∷ ls) = ap (λ (l : List Token). t ∷ l) (tokens_cut i ls)

pub drop_cut : (i : ℕ) (ls : List Lexeme) → tied_to (drop i (take i ls)) ≡ false
drop_cut zero ls = refl
drop_cut (suc i) [] = refl
drop_cut (suc i) (l ∷ ls) = drop_cut i ls

module _ (mode : Mode) where
  -- The state after i tokens is that after the same tokens with nothing behind them.
  pub cut_after : (i : ℕ) (ls : List Lexeme) (s s' : State) → after_rules mode i ls s ≡ some s' → awaits s'.open_now ≡ false → after_rules mode i (take i ls) s ≡ some s'
  unfolding after_rules obey
  cut_after zero ls s s' e n = e
  cut_after (suc i) [] s s' e n = not_none e
  cut_after (suc i) (unreadable p ∷ ls) s s' e n = not_none e
  cut_after (suc i) (token t ∷ ls) s s' e n = go (find_rule t.kind (rules t (tied_to ls) mode s.open_now)) refl e (λ x d. cut_after i ls x s' d n)
    where
      same : (i : ℕ) (ls : List Lexeme) (w : Write Open) → after_rules mode i ls (obeyed (some w) t s) ≡ some s' → find_rule t.kind (rules t (tied_to ls) mode s.open_now) ≡ some w
          → find_rule t.kind (rules t (tied_to (take i ls)) mode s.open_now) ≡ some w
      same zero ls w d q =
          let p : obeyed (some w) t s ≡ s' = some_same d in
          untied_rule t mode w s.memory (ap (λ (y : State). awaits y.open_now) p ∙ n) (tied_to ls) s.open_now q
      same (suc i) [] w d q = q
      same (suc i) (unreadable p ∷ ls) w d q = q
      same (suc i) (token u ∷ ls) w d q = q

      go : (r : Option (Write Open)) → find_rule t.kind (rules t (tied_to ls) mode s.open_now) ≡ r → obey r t s (λ x. after_rules mode i ls x) ≡ some s'
          → ((x : State) → after_rules mode i ls x ≡ some s' → after_rules mode i (take i ls) x ≡ some s')
          → obey (find_rule t.kind (rules t (tied_to (take i ls)) mode s.open_now)) t s (λ x. after_rules mode i (take i ls) x) ≡ some s'
      go none q d k = not_none d
      go (some w) q d k = ap (λ (r : Option (Write Open)). obey r t s (λ x. after_rules mode i (take i ls) x)) (same i ls w d q) ∙ k (obeyed (some w) t s) d

  -- ---- Where the machine fails

  pub record Fails (i : ℕ) (ls : List Lexeme) (s : State) : Type 0 where
    pub state : State
    pub reached : after_rules mode i ls s ≡ some state
    pub here : machine_verdict mode state.open_now state.memory (tokens_of (drop i ls)) ≡ some 0

  at_the_end : (b : Bool) (i : ℕ) → end_verdict b ≡ some i → i ≡ 0
  unfolding end_verdict
  at_the_end true i e = not_none e
  at_the_end false i e = sym (some_same e)

  pub later_next : (x : Option ℕ) (i : ℕ) → later x ≡ some i → (j : ℕ) × (x ≡ some j) × (i ≡ suc j)
  unfolding later
  later_next none i e = not_none e
  later_next (some j) i e = (j, refl, sym (some_same e))

  here_fails : (ls : List Lexeme) (s : State) (i : ℕ) → machine_verdict mode s.open_now s.memory (tokens_of ls) ≡ some i → i ≡ 0 → Fails i ls s
  unfolding after_rules
  here_fails ls s i v p =
      subst (λ (j : ℕ). Fails j ls s) (sym p) (record { state = s; reached = refl; here = v ∙ ap some p })

  pub fails : (ls : List Lexeme) (s : State) (i : ℕ) → machine_verdict mode s.open_now s.memory (tokens_of ls) ≡ some i → Fails i ls s
  unfolding machine_verdict follow tokens_of after_rules obey
  fails [] s i v = here_fails [] s i v (at_the_end (finished s.open_now) i v)
  fails (unreadable p ∷ ls) s i v = here_fails (unreadable p ∷ ls) s i v (at_the_end (finished s.open_now) i v)
  fails (token t ∷ ls) s i v = go (find_rule t.kind (rules t (tied_to ls) mode s.open_now)) refl (λ x j d. fails ls x j d)
    where
      u : follow (find_rule t.kind (rules t (tied_to ls) mode s.open_now)) s.memory (λ o m. machine_verdict mode o m (tokens_of ls)) ≡ some i
      u = ap (λ (b : Bool). follow (find_rule t.kind (rules t b mode s.open_now)) s.memory (λ o m. machine_verdict mode o m (tokens_of ls))) (tied_same ls) ∙ v

      go : (r : Option (Write Open)) → find_rule t.kind (rules t (tied_to ls) mode s.open_now) ≡ r
          → ((x : State) (j : ℕ) → machine_verdict mode x.open_now x.memory (tokens_of ls) ≡ some j → Fails j ls x) → Fails i (token t ∷ ls) s
      go none q k = here_fails (token t ∷ ls) s i v (sym (some_same (ap (λ (r : Option (Write Open)). follow r s.memory (λ o m. machine_verdict mode o m (tokens_of ls))) (sym q) ∙ u)))
      go (some w) q k =
          let (j, x, p) = later_next (machine_verdict mode (w s.memory).0 (w s.memory).1 (tokens_of ls)) i (ap (λ (r : Option (Write Open)). follow r s.memory (λ o m. machine_verdict mode o m (tokens_of ls))) (sym q) ∙ u) in
          let f = k (obeyed (some w) t s) j x in
          subst (λ (n : ℕ). Fails n (token t ∷ ls) s) (sym p)
          (record { state = f.state; reached = ap (λ (r : Option (Write Open)). obey r t s (λ y. after_rules mode j ls y)) q ∙ f.reached; here = f.here })
