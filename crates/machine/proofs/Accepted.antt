-- What an accepted document leaves in memory are the tables that its derivation makes.
use mathlib.Core.Path.{◌≡◌, refl, sym, ap, ◌∙◌, subst}
use mathlib.Core.List.{List, [], ◌∷◌, ◌++◌}
use mathlib.Core.Option.{Option, none, some}
use Prim.Native.Nat.{ℕ}
use native.Mathlib.Omega.{arith}
use Rattle.text.specs.Text.{Text, is_none}
use Rattle.token.specs.Tokens.{Token, Lexeme, token, unreadable, tokens_of}
use Rattle.grammar.specs.Ebnf.{leaves}
use Rattle.grammar.specs.Productions.{Mode, trig, turtle, production, root, kind_of, Derivation}
use Rattle.machine.specs.Memory.{Memory, start_memory, Write}
use Rattle.machine.specs.Frame.{Open, directive, statement}
use Rattle.machine.specs.Rules.{find_rule, rules}
use Rattle.machine.specs.Refusals.{escape_tests, force_tests, room_tests}
use Rattle.machine.specs.Step.{Room, State, in_force_now, Test, ◌when◌, first_refusal, answer, obeyed, step, tied_to, Outcome, accepted, refused, at_end, onward, run}
use Rattle.machine.specs.Read.{start_state}
use Rattle.machine.specs.Construction.{tables}
use Rattle.machine.proofs.Firsts.{first_of_both}
use Rattle.machine.proofs.Judge.{tied_same}
use Rattle.machine.proofs.Agreement.{final, at_finish, taken}
use Rattle.machine.proofs.Correct.{agreement_trig, agreement_turtle}

-- Where the outcome is acceptance, its memory is v.
abbrev Fits : Outcome → Option Memory → Type 0
Fits (accepted m) v = v ≡ some m
Fits (refused c p) v = Unit {0}

module _ (mode : Mode) (room : Room) (n : ℕ) where
  fits_rest : (ls : List Lexeme) (at : ℕ) (s : State) (r : Option ℕ) (v : Option Memory) → Fits (run mode room n ls s) v → Fits (onward (λ s'. run mode room n ls s') (answer r at s)) v
  fits_rest ls at s none v h = h
  fits_rest ls at s (some c) v h = tt

  -- xs are the tests before 8, and ys those after it.
  fits_rule : (ls : List Lexeme) (t : Token) (s : State) (xs : List Test) (r : Option (Write Open)) (ys : List Test)
      → ((s' : State) → Fits (run mode room n ls s') (final mode (tokens_of ls) s'.open_now s'.memory))
      → Fits (onward (λ s'. run mode room n ls s') (answer (first_refusal (xs ++ 8 when is_none r ∷ ys)) t.start (obeyed r t s)))
      (taken r s.memory (λ o m. final mode (tokens_of ls) o m))
  unfolding taken
  fits_rule ls t s xs r ys h =
      first_of_both (λ o. Fits (onward (λ s'. run mode room n ls s') (answer o t.start (obeyed r t s))) (taken r s.memory (λ o m. final mode (tokens_of ls) o m))) xs (8 when is_none r ∷ ys)
      (λ c e. tt) (λ e. go r)
    where
      go : (r : Option (Write Open)) → Fits (onward (λ s'. run mode room n ls s') (answer (first_refusal (8 when is_none r ∷ ys)) t.start (obeyed r t s))) (taken r s.memory (λ o m. final mode (tokens_of ls) o m))
      go none = tt
      go (some w) = fits_rest ls t.start (obeyed (some w) t s) (first_refusal ys) (final mode (tokens_of ls) (w s.memory).0 (w s.memory).1) (h (obeyed (some w) t s))

  fits_end : (o : Open) (m : Memory) → Fits (at_end o n m) (at_finish o m)
  unfolding at_finish
  fits_end (directive d) m = tt
  fits_end (statement []) m = refl
  fits_end (statement (f ∷ k)) m = tt

  fits : (ls : List Lexeme) (s : State) → Fits (run mode room n ls s) (final mode (tokens_of ls) s.open_now s.memory)
  unfolding run final tokens_of step
  fits [] s = fits_end s.open_now s.memory
  fits (unreadable p ∷ ls) s = tt
  fits (token t ∷ ls) s =
      let r = find_rule t.kind (rules t (tied_to ls) mode s.open_now) in
      subst (λ b. Fits (run mode room n (token t ∷ ls) s) (taken (find_rule t.kind (rules t b mode s.open_now)) s.memory (λ o m. final mode (tokens_of ls) o m)))
      (tied_same ls)
      (fits_rule ls t s (escape_tests t) r (force_tests (in_force_now s) s.depth t ++ room_tests room (obeyed r t s).memory) (λ s'. fits ls s'))

fits_accepted : (o : Outcome) (v : Option Memory) (m : Memory) → Fits o v → o ≡ accepted m → v ≡ some m
fits_accepted (accepted l) v m h e = let f : l ≡ m = cc in h ∙ ap some f
fits_accepted (refused c p) v m h e = let z : ◌≡◌ {A = ℕ} 0 1 = cc in absurd (omega arith)

-- The memory after the tokens of a document's derivation, as far as the grammar goes, holds the tables that it makes.
pub agreement : (mode : Mode) (x : Derivation mode) (base : Text)
    → final mode (leaves kind_of (production mode) x) (statement []) (start_memory base) ≡ some (tables mode x base)
unfolding tables root
agreement trig x base = agreement_trig x (start_memory base)
agreement turtle x base = agreement_turtle x (start_memory base)

some_inj : {A : Type 0} {a b : A} → some a ≡ some b → a ≡ b
some_inj e = cc

-- So does an accepted document's, for each derivation of its tokens. (There is one, and only one.)
pub accepted_tables : (mode : Mode) (room : Room) (base : Text) (n : ℕ) (ls : List Lexeme) (m : Memory)
    → run mode room n ls (start_state base) ≡ accepted m
    → (x : Derivation mode) → leaves kind_of (production mode) x ≡ tokens_of ls → m ≡ tables mode x base
accepted_tables mode room base n ls m e x p =
    let v = fits_accepted (run mode room n ls (start_state base)) (final mode (tokens_of ls) (statement []) (start_memory base)) m (fits mode room n ls (start_state base)) e in
    some_inj (sym v ∙ ap (λ l. final mode l (statement []) (start_memory base)) (sym p) ∙ agreement mode x base)
