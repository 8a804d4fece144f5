-- What acceptance and 8 say of derivations.
use mathlib.Core.Path.{◌≡◌, sym, ◌∙◌, subst}
use mathlib.Core.List.{List, []}
use mathlib.Core.Bool.{not}
use mathlib.Core.Option.{Option, none, some}
use Prim.Native.Nat.{ℕ}
use native.Mathlib.Omega.{arith}
use lib.Dec.{T, eqb}
use Rattle.grammar.specs.Productions.{Grammatical, GrammarFailsAt, Mode, trig, turtle, production, root, trigDoc, turtleDoc}
use Rattle.grammar.proofs.Recogniser.{verdict}
use Rattle.token.proofs.KindCodes.{same, same_eq, same_refl}
use Rattle.grammar.proofs.Modes.{levels, grammar, passes}
use Rattle.token.specs.Kind.{Kind}
use Rattle.grammar.proofs.Grammar.{accepted as accepted_iff, refused as refused_iff, kinds_of}
use Rattle.grammar.proofs.Equal.{opened}
use Rattle.text.specs.Text.{Text}
use Rattle.token.specs.Tokens.{Token, Lexeme, tokens_of, readable, place_of}
use Rattle.machine.specs.Memory.{Memory}
use Rattle.machine.specs.Frame.{statement}
use Rattle.machine.specs.Step.{Room, Outcome, accepted, refused, run}
use Rattle.machine.specs.Read.{start_state}
use Rattle.machine.proofs.Stands.{stands_open}
use Rattle.machine.proofs.Link.{machine_verdict, link}
use Rattle.machine.proofs.Judge.{Judged, fine, eighth, other, judged}

-- The machine begins where the grammar does.
start_same : (mode : Mode) (ks : List Kind) → verdict same (production mode) levels (stands_open mode (statement [])) ks ≡ grammar mode ks
unfolding grammar root production
start_same trig ks = sym (opened same same_eq same_refl (production trig) levels (passes trig) [] trigDoc ks)
start_same turtle ks = sym (opened same same_eq same_refl (production turtle) levels (passes turtle) [] turtleDoc ks)

-- The machine's verdict on tokens is the grammar's on their kinds.
pub machine_grammar : (mode : Mode) (m : Memory) (ts : List Token) → machine_verdict mode (statement []) m ts ≡ grammar mode (kinds_of ts)
machine_grammar mode m ts = link mode ts (statement []) m ∙ start_same mode (kinds_of ts)

module _ {n : ℕ} {ls : List Lexeme} {v : Option ℕ} where
  when_accepted : {o : Outcome} → Judged n ls v o → (m : Memory) → o ≡ accepted m → (v ≡ none) × T (readable ls)
  when_accepted (fine p r) m e = (p, r)
  when_accepted (eighth i p q) m e = let z : ◌≡◌ {A = ℕ} 0 1 = cc in absurd (omega arith)
  when_accepted (other j c q r) m e = let z : ◌≡◌ {A = ℕ} 0 1 = cc in absurd (omega arith)

  when_eight : {o : Outcome} → Judged n ls v o → (p : ℕ) → o ≡ refused 8 p → (i : ℕ) × (v ≡ some i) × (p ≡ place_of n ls i)
  when_eight (fine q r) p e = let z : ◌≡◌ {A = ℕ} 0 1 = cc in absurd (omega arith)
  when_eight (eighth {p = x} i q r) p e = let f : p ≡ x = cc in (i, q, f ∙ r)
  when_eight (other {c = c} j t q r) p e = let f : c ≡ 8 = cc in absurd (subst (λ x. T (not (eqb x 8))) f t)

module _ (mode : Mode) (room : Room) (base : Text) (n : ℕ) (ls : List Lexeme) where
  abbrev outcome : Outcome
  outcome = run mode room n ls (start_state base)

  abbrev ts : List Token
  ts = tokens_of ls

  same_verdict : machine_verdict mode (statement []) (start_state base).memory (tokens_of ls) ≡ grammar mode (kinds_of ts)
  same_verdict = machine_grammar mode (start_state base).memory (tokens_of ls)

  -- What is accepted has a derivation;
  pub accepted_derives : (m : Memory) → outcome ≡ accepted m → T (readable ls) × Grammatical mode ts
  accepted_derives m e =
      let (p, r) = when_accepted (judged mode room n ls (start_state base)) m e in
      (r, (accepted_iff mode ts).0 (sym same_verdict ∙ p))

  -- 8 is answered where the grammar fails, at that token's place or at the end.
  pub eight_fails : (p : ℕ) → outcome ≡ refused 8 p → (i : ℕ) × GrammarFailsAt mode ts i × (p ≡ place_of n ls i)
  eight_fails p e =
      let (i, q, r) = when_eight (judged mode room n ls (start_state base)) p e in
      (i, (refused_iff mode ts i).0 (sym same_verdict ∙ q), r)
