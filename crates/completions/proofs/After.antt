-- The machine after some tokens and the derivations of their completions.
use mathlib.Core.Path.{◌≡◌, refl, sym, ap, ◌∙◌, subst}
use mathlib.Core.List.{List, [], ◌∷◌, ◌++◌}
use mathlib.Core.Bool.{Bool}
use mathlib.Core.Option.{Option, none, some}
use Prim.Native.Nat.{ℕ, zero, suc}
use lib.ListN.{take, drop}
use Rattle.text.specs.Text.{Text}
use Rattle.token.specs.Tokens.{Token, Lexeme, token, unreadable, tokens_of}
use Rattle.grammar.specs.Ebnf.{leaves}
use Rattle.grammar.specs.Productions.{Mode, Derivation, kind_of, production}
use Rattle.grammar.proofs.Grammar.{kinds_of}
use Rattle.table.proofs.Numbers.{not_none}
use Rattle.machine.specs.Memory.{Memory, start_memory, Write}
use Rattle.machine.specs.Frame.{Open, statement}
use Rattle.machine.specs.Rules.{find_rule, rules}
use Rattle.machine.specs.Step.{State, obeyed, tied_to}
use Rattle.machine.specs.Read.{start_state}
use Rattle.machine.specs.Construction.{tables}
use Rattle.machine.proofs.Decide.{tied_kinds}
use Rattle.machine.proofs.Agreement.{final, taken}
use Rattle.machine.proofs.Accepted.{agreement}
use Rattle.machine.proofs.Made.{some_same}
use Rattle.machine.proofs.Extends.{Extends}
use Rattle.machine.proofs.Demands.{obey, after_rules, final_extends}
use Rattle.machine.proofs.Joined.{final_derives}
use Rattle.completions.specs.Written.{Completion, tag_first}

pub same_tie : (us : List Token) → tag_first us ≡ tied_kinds (kinds_of us)
same_tie [] = refl
same_tie (t ∷ us) = refl

module _ (mode : Mode) where
  -- The rule for a token behind which ls stand.
  abbrev pub rule_at : Token → List Lexeme → State → Option (Write Open)
  rule_at t ls s = find_rule t.kind (rules t (tied_to ls) mode s.open_now)

  -- What holds before any token, and of one token more where a rule is there for it.
  pub after_induction : (P : ℕ → List Lexeme → State → State → Type 0) → ((ls : List Lexeme) (s : State) → P 0 ls s s)
      → ((i : ℕ) (ls : List Lexeme) (t : Token) (s s' : State) (w : Write Open) → rule_at t ls s ≡ some w → P i ls (obeyed (some w) t s) s' → P (suc i) (token t ∷ ls) s s')
      → (i : ℕ) (ls : List Lexeme) (s s' : State) → after_rules mode i ls s ≡ some s' → P i ls s s'
  unfolding after_rules obey
  after_induction P f g zero ls s s' e = subst (P 0 ls s) (some_same e) (f ls s)
  after_induction P f g (suc i) [] s s' e = not_none e
  after_induction P f g (suc i) (unreadable p ∷ ls) s s' e = not_none e
  after_induction P f g (suc i) (token t ∷ ls) s s' e = go (rule_at t ls s) refl e (λ x d. after_induction P f g i ls x s' d)
    where
      go : (r : Option (Write Open)) → rule_at t ls s ≡ r → obey r t s (λ x. after_rules mode i ls x) ≡ some s'
          → ((x : State) → after_rules mode i ls x ≡ some s' → P i ls x s') → P (suc i) (token t ∷ ls) s s'
      go none q d k = not_none d
      go (some w) q d k = g i ls t s s' w q (k (obeyed (some w) t s) d)

  -- The state after i tokens of the document, with other tokens behind them that tie the last as the document does.
  next_tie : (ls : List Lexeme) (i : ℕ) (us : List Token) (s s' : State) → after_rules mode i ls s ≡ some s' → tied_kinds (kinds_of us) ≡ tied_to (drop i ls)
      → tied_kinds (kinds_of (take i (tokens_of ls) ++ us)) ≡ tied_to ls
  unfolding after_rules tokens_of
  next_tie ls zero us s s' e h = h
  next_tie [] (suc i) us s s' e h = not_none e
  next_tie (unreadable p ∷ ls) (suc i) us s s' e h = not_none e
  next_tie (token t ∷ ls) (suc i) us s s' e h = refl

  pub after_final : (i : ℕ) (ls : List Lexeme) (us : List Token) (s s' : State) → after_rules mode i ls s ≡ some s' → tied_kinds (kinds_of us) ≡ tied_to (drop i ls)
      → final mode (take i (tokens_of ls) ++ us) s.open_now s.memory ≡ final mode us s'.open_now s'.memory
  unfolding after_rules obey final taken tokens_of
  after_final zero ls us s s' e h = ap (λ (x : State). final mode us x.open_now x.memory) (some_same e)
  after_final (suc i) [] us s s' e h = not_none e
  after_final (suc i) (unreadable p ∷ ls) us s s' e h = not_none e
  after_final (suc i) (token t ∷ ls) us s s' e h = go (find_rule t.kind (rules t (tied_to ls) mode s.open_now)) refl e (λ x d. after_final i ls us x s' d h)
    where
      go : (r : Option (Write Open)) → find_rule t.kind (rules t (tied_to ls) mode s.open_now) ≡ r → obey r t s (λ x. after_rules mode i ls x) ≡ some s'
          → ((x : State) → after_rules mode i ls x ≡ some s' → final mode (take i (tokens_of ls) ++ us) x.open_now x.memory ≡ final mode us s'.open_now s'.memory)
          → taken (find_rule t.kind (rules t (tied_kinds (kinds_of (take i (tokens_of ls) ++ us))) mode s.open_now)) s.memory (λ o m. final mode (take i (tokens_of ls) ++ us) o m)
          ≡ final mode us s'.open_now s'.memory
      go none q d k = not_none d
      go (some w) q d k =
          ap (λ (b : Bool). taken (find_rule t.kind (rules t b mode s.open_now)) s.memory (λ o m. final mode (take i (tokens_of ls) ++ us) o m)) (next_tie ls i us (obeyed (some w) t s) s' d h)
          ∙ ap (λ (r : Option (Write Open)). taken r s.memory (λ o m. final mode (take i (tokens_of ls) ++ us) o m)) q
          ∙ k (obeyed (some w) t s) d

  -- What i tokens write begins the tables of every derivation of these and others, where the others tie the last of them as the document does.
  pub begins_tables : (base : Text) (i : ℕ) (ls : List Lexeme) (us : List Token) (s : State) → after_rules mode i ls (start_state base) ≡ some s → tied_kinds (kinds_of us) ≡ tied_to (drop i ls)
      → (x : Derivation mode) → leaves kind_of (production mode) x ≡ take i (tokens_of ls) ++ us → Extends s.memory (tables mode x base)
  begins_tables base i ls us s e h x p =
      final_extends mode us s.open_now s.memory (tables mode x base)
      (sym (after_final i ls us (start_state base) s e h) ∙ ap (λ (l : List Token). final mode l (statement []) (start_memory base)) (sym p) ∙ agreement mode x base)

  -- Tokens that the machine takes to the document's end have a derivation, whose tables are the memory.
  pub final_tables : (ts : List Token) (base : Text) (M : Memory) → final mode ts (statement []) (start_memory base) ≡ some M
      → (x : Derivation mode) × (leaves kind_of (production mode) x ≡ ts) × (tables mode x base ≡ M)
  final_tables ts base M e =
      let (x, p) = final_derives mode ts (start_memory base) (M, e) in
      (x, p, some_same (sym (agreement mode x base) ∙ ap (λ (l : List Token). final mode l (statement []) (start_memory base)) p ∙ e))

  -- Tokens that the machine takes from the state after i tokens to the end complete these.
  pub completes : (tied : Bool) (base : Text) (i : ℕ) (ls : List Lexeme) (us : List Token) (s : State) (M : Memory) → after_rules mode i ls (start_state base) ≡ some s
      → tied_to (drop i ls) ≡ tied → tag_first us ≡ tied → final mode us s.open_now s.memory ≡ some M
      → (c : Completion tied mode (take i (tokens_of ls))) × (tables mode c.derivation base ≡ M)
  completes tied base i ls us s M e h u f =
      let (x, p, q) = final_tables (take i (tokens_of ls) ++ us) base M (after_final i ls us (start_state base) s e (sym (same_tie us) ∙ u ∙ sym h) ∙ f) in
      (record { rest = us; complete = u; derivation = x; tokens = p }, q)
