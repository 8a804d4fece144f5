-- The run and the grammar: when the machine accepts, when it answers 8, and when another refusal stands before.
use mathlib.Core.Path.{◌≡◌, refl, sym, ap, subst}
use mathlib.Core.Logic.{◌⊎◌, inl, inr}
use mathlib.Core.List.{List, [], ◌∷◌, ◌++◌}
use mathlib.Core.Bool.{Bool, not}
use mathlib.Core.Option.{Option, none, some}
use Prim.Native.Nat.{ℕ, suc, ◌≤◌, ◌<◌, zero-le, suc-le-suc}
use native.Mathlib.Omega.{arith}
use lib.Dec.{T, eqb, leb}
use Rattle.grammar.specs.Productions.{Mode}
use Rattle.grammar.proofs.Recogniser.{at_end as end_verdict, later}
use Rattle.text.proofs.Booleans.{all}
use Rattle.grammar.proofs.Grammar.{kinds_of}
use Rattle.text.specs.Text.{is_none}
use Rattle.token.specs.Tokens.{Token, Lexeme, token, unreadable, tokens_of, readable, place_of}
use Rattle.machine.specs.Memory.{Memory, Write}
use Rattle.machine.specs.Frame.{Open, directive, statement}
use Rattle.machine.specs.Rules.{find_rule, rules}
use Rattle.machine.specs.Step.{Room, State, in_force_now, Test, ◌when◌, first_refusal, answer, obeyed, step, tied_to, Outcome, accepted, refused, at_end, onward, run}
use Rattle.machine.specs.Refusals.{escape_tests, force_tests, room_tests}
use Rattle.machine.proofs.Decide.{tied_kinds}
use Rattle.machine.proofs.Link.{follow, finished, machine_verdict}
use Rattle.machine.proofs.Firsts.{number_of, refusal_number, first_of_both}

pub tied_same : (ls : List Lexeme) → tied_to ls ≡ tied_kinds (kinds_of (tokens_of ls))
unfolding tokens_of
tied_same [] = refl
tied_same (token t ∷ ls) = refl
tied_same (unreadable p ∷ ls) = refl

-- 6 and 7 go before 8 at the same token.
abbrev pub before_eight : ℕ → Bool
before_eight c = leb c 7

abbrev not_eight : ℕ → Bool
not_eight c = not (eqb c 8)

-- A refusal c at token j goes before 8 at token i: it stands earlier, or no later and is one of these.
abbrev pub Goes_before : ℕ → ℕ → ℕ → Type 0
Goes_before c j i = (j < i) ⊎ ((j ≤ i) × T (before_eight c))

goes_suc : (c j i : ℕ) → Goes_before c j i → Goes_before c (suc j) (suc i)
goes_suc c j i (inl h) = inl (suc-le-suc h)
goes_suc c j i (inr h) = inr (suc-le-suc h.0, h.1)

-- How an outcome goes with the grammar's verdict v: accepted only where the verdict is; 8 only at the verdict's token; another refusal no later than that.
pub data Judged (n : ℕ) (ls : List Lexeme) (v : Option ℕ) : Outcome → Type 0 where
  fine : {m : Memory} → v ≡ none → T (readable ls) → Judged n ls v (accepted m)
  eighth : {p : ℕ} (i : ℕ) → v ≡ some i → p ≡ place_of n ls i → Judged n ls v (refused 8 p)
  other : {c p : ℕ} (j : ℕ) → T (not (eqb c 8)) → p ≡ place_of n ls j → ((i : ℕ) → v ≡ some i → Goes_before c j i) → Judged n ls v (refused c p)

later_some : (v : Option ℕ) (i : ℕ) → later v ≡ some i → (h : ℕ) × (v ≡ some h) × (i ≡ suc h)
unfolding later
later_some none i p = let z : ◌≡◌ {A = ℕ} 0 1 = cc in absurd (omega arith)
later_some (some h) i p = (h, refl, cc)

shift : {n : ℕ} {ls : List Lexeme} {v : Option ℕ} {o : Outcome} (t : Token) → Judged n ls v o → Judged n (token t ∷ ls) (later v) o
unfolding place_of readable later
shift t (fine p r) = fine (ap later p) r
shift t (eighth i p q) = eighth (suc i) (ap later p) q
shift {v = v} t (other {c = k} j c q r) = other (suc j) c q (λ i p. let (h, e, f) = later_some v i p in subst (Goes_before k (suc j)) (sym f) (goes_suc k j h (r h e)))

module _ (mode : Mode) (room : Room) (n : ℕ) where
  -- Of a token that has a rule: another refusal, or on.
  judge_rest : (ls : List Lexeme) (t : Token) (v : Option ℕ) (s : State) (r : Option ℕ)
      → ((c : ℕ) → r ≡ some c → T (not (eqb c 8))) → Judged n ls v (run mode room n ls s)
      → Judged n (token t ∷ ls) (later v) (onward (λ s'. run mode room n ls s') (answer r t.start s))
  unfolding place_of
  judge_rest ls t v s none q h = shift t h
  judge_rest ls t v s (some c) q h = other 0 (q c refl) refl (λ i e. let (x, y, z) = later_some v i e in inl (subst (λ k. 1 ≤ k) (sym z) (suc-le-suc zero-le)))

  -- Of any token, by its rule: xs are the tests before 8, and ys those after it.
  judge_rule : (ls : List Lexeme) (t : Token) (s : State) (xs : List Test) (r : Option (Write Open)) (ys : List Test)
      → T (all (λ y. before_eight (number_of y)) xs) → T (all (λ y. not_eight (number_of y)) xs) → T (all (λ y. not_eight (number_of y)) ys)
      → ((s' : State) → Judged n ls (machine_verdict mode s'.open_now s'.memory (tokens_of ls)) (run mode room n ls s'))
      → Judged n (token t ∷ ls) (follow r s.memory (λ o m. machine_verdict mode o m (tokens_of ls)))
      (onward (λ s'. run mode room n ls s') (answer (first_refusal (xs ++ 8 when is_none r ∷ ys)) t.start (obeyed r t s)))
  unfolding place_of follow
  judge_rule ls t s xs r ys p q q' h =
      first_of_both (λ o. Judged n (token t ∷ ls) (follow r s.memory (λ o m. machine_verdict mode o m (tokens_of ls))) (onward (λ s'. run mode room n ls s') (answer o t.start (obeyed r t s))))
      xs (8 when is_none r ∷ ys)
      (λ c e. other 0 (refusal_number not_eight xs q c e) refl (λ i v. inr (zero-le, refusal_number before_eight xs p c e)))
      (λ e. go r)
    where
      go : (r : Option (Write Open)) → Judged n (token t ∷ ls) (follow r s.memory (λ o m. machine_verdict mode o m (tokens_of ls)))
          (onward (λ s'. run mode room n ls s') (answer (first_refusal (8 when is_none r ∷ ys)) t.start (obeyed r t s)))
      go none = eighth 0 refl refl
      go (some w) =
          judge_rest ls t (machine_verdict mode (w s.memory).0 (w s.memory).1 (tokens_of ls)) (obeyed (some w) t s) (first_refusal ys) (refusal_number not_eight ys q') (h (obeyed (some w) t s))

  judge_end : (o : Open) (m : Memory) → Judged n [] (end_verdict (finished o)) (at_end o n m)
  unfolding finished end_verdict readable place_of
  judge_end (directive d) m = eighth 0 refl refl
  judge_end (statement []) m = fine refl tt
  judge_end (statement (f ∷ k)) m = eighth 0 refl refl

  -- How every run goes with the machine's verdict on its tokens.
  pub judged : (ls : List Lexeme) (s : State) → Judged n ls (machine_verdict mode s.open_now s.memory (tokens_of ls)) (run mode room n ls s)
  unfolding run machine_verdict tokens_of place_of step number_of all
  judged [] s = judge_end s.open_now s.memory
  judged (unreadable p ∷ ls) s = other 0 tt refl (λ i e. inr (zero-le, tt))
  judged (token t ∷ ls) s =
      let r = find_rule t.kind (rules t (tied_to ls) mode s.open_now) in
      subst (λ b. Judged n (token t ∷ ls) (follow (find_rule t.kind (rules t b mode s.open_now)) s.memory (λ o m. machine_verdict mode o m (tokens_of ls))) (run mode room n (token t ∷ ls) s))
      (tied_same ls)
      (judge_rule ls t s (escape_tests t) r (force_tests (in_force_now s) s.depth t ++ room_tests room (obeyed r t s).memory) tt tt tt (λ s'. judged ls s'))
