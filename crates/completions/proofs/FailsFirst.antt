-- Where the grammar fails first, and only there, the answer is 8: what the tokens before write, said with derivations, is what the run has written.
use mathlib.Core.Path.{◌≡◌, refl, sym, ◌∙◌, subst}
use mathlib.Core.Logic.{◌↔◌}
use mathlib.Core.List.{List, [], ◌∷◌, ◌++◌}
use mathlib.Core.Bool.{Bool, true, false, ◌||◌}
use mathlib.Core.Option.{Option, none, some}
use Prim.Native.Nat.{ℕ, suc, ◌≤◌}
use native.Mathlib.Omega.{arith}
use lib.Dec.{eqb}
use lib.ListN.{length, take, drop}
use Rattle.text.specs.Text.{Text, cond}
use Rattle.text.proofs.Compare.{by, contrary}
use Rattle.token.specs.Kind.{kind_code, LANGTAG, carets}
use Rattle.token.specs.Tokens.{Token, Lexeme, token, unreadable, lexemes, tokens_of, place_of}
use Rattle.grammar.specs.Productions.{Mode, GrammarFailsAt}
use Rattle.grammar.proofs.Grammar.{kinds_of, refused as refused_iff}
use Rattle.dataset.specs.Terms.{Term}
use Rattle.table.specs.Layout.{Row}
use Rattle.table.specs.Tables.{store_size}
use Rattle.table.proofs.Numbers.{not_none}
use Rattle.machine.specs.Memory.{Memory, start_memory, Write}
use Rattle.machine.specs.Frame.{Place, Frame, graph_label, closing_label, graph_body, label_or_subject, triples_or_end, verb, verb_or_end, object, after_object, after_semicolon, bracket, list, suffix, datatype, Open, directive, statement}
use Rattle.machine.specs.Rules.{find_rule, rules}
use Rattle.machine.specs.Step.{State, tied_to}
use Rattle.machine.specs.Call.{Lent, Room, room_of, mode_of}
use Rattle.machine.specs.Read.{start_state, refusal, read}
use Rattle.machine.specs.Demand.{document_tokens, Fits}
use Rattle.machine.proofs.Decide.{tied_kinds}
use Rattle.machine.proofs.Link.{follow, machine_verdict}
use Rattle.machine.proofs.Grammatical.{machine_grammar}
use Rattle.machine.proofs.Made.{some_same}
use Rattle.machine.proofs.Demands.{after_rules, RunFails, run_fails_answer, eight_run_fails}
use Rattle.completions.specs.Written.{Beginning, Written}
use Rattle.completions.specs.FailsFirst.{grammar_refusal, FailsFirst}
use Rattle.completions.proofs.Complete.{is_suffix, awaits}
use Rattle.completions.proofs.Sane.{start_sane, after_sane}
use Rattle.completions.proofs.Largest.{written}
use Rattle.completions.proofs.Untied.{tokens_cut, drop_cut, cut_after, Fails, fails, later_next}

-- ---- What the tokens write is one thing

both_ways : {A : Type 0} (xs ys : List A) → Beginning xs ys → Beginning ys xs → xs ≡ ys
both_ways [] [] a b = refl
both_ways [] (y ∷ ys) a (zs, e) = let z : ◌≡◌ {A = ℕ} 0 1 = cc in absurd (omega arith)
both_ways (x ∷ xs) [] (zs, e) b = let z : ◌≡◌ {A = ℕ} 0 1 = cc in absurd (omega arith)
both_ways (x ∷ xs) (y ∷ ys) (us, e) (vs, f) =
    let p : x ≡ y = cc in
    let q : ys ≡ xs ++ us = cc in
    let r : xs ≡ ys ++ vs = cc in
    cons p (both_ways xs ys (us, q) (vs, r))
  where
    cons : {A : Type 0} {a b : A} {ks ls : List A} → a ≡ b → ks ≡ ls → a ∷ ks ≡ b ∷ ls
    cons p q = cc

pub written_once : (tied : Bool) (mode : Mode) (base : Text) (ts : List Token) (rs rs' : List Row) (us us' : List Term) → Written tied mode base ts rs us → Written tied mode base ts rs' us'
    → (rs ≡ rs') × (us ≡ us')
written_once tied mode base ts rs rs' us us' a b =
    let (p, q) = a.largest rs' us' b.common in
    let (r, s) = b.largest rs us a.common in
    (both_ways rs rs' r p, both_ways us us' s q)

-- ---- What the machine has written

-- What i tokens write is what the machine has written after them.
pub state_written : (mode : Mode) (base : Text) (i : ℕ) (ls : List Lexeme) (s : State) → after_rules mode i ls (start_state base) ≡ some s
    → Written (awaits s.open_now) mode base (take i (tokens_of ls)) s.memory.rows s.memory.terms
state_written mode base i ls s e =
    by (awaits s.open_now)
    (λ a. written mode base i ls s e ((after_sane mode i ls (start_state base) s e (start_sane base) (λ z. contrary (sym z))).1 a ∙ sym a))
    (λ a.
    subst (λ (l : List Token). Written (awaits s.open_now) mode base l s.memory.rows s.memory.terms) (tokens_cut i ls)
    (written mode base i (take i ls) s (cut_after mode i ls (start_state base) s e a) (drop_cut i ls ∙ sym a)))

-- ---- Where the machine fails no string awaits its tag or type

rule_there : {A : Type 0} (a b : Bool) (x y : A) → (a || (b || false)) ≡ true → cond (a || false) (some x) (cond (b || false) (some y) none) ≡ none → ⊥
rule_there true b x y e f = not_none (sym f)
rule_there false true x y e f = not_none (sym f)
rule_there false false x y e f = contrary (sym e)

module _ (mode : Mode) (q : Place) (at : ℕ) (x : Text) (K : List Frame) (m : Memory) where
  awaited_goes : (ls : List Lexeme) → tied_to ls ≡ true → machine_verdict mode (statement (suffix q at x ∷ K)) m (tokens_of ls) ≡ some 0 → ⊥
  unfolding machine_verdict follow tokens_of rules
  awaited_goes [] t v = contrary (sym t)
  awaited_goes (unreadable p ∷ ls) t v = contrary (sym t)
  awaited_goes (token u ∷ ls) t v = go (find_rule u.kind (rules u (tied_kinds (kinds_of (tokens_of ls))) mode (statement (suffix q at x ∷ K)))) refl v
    where
      go : (r : Option (Write Open)) → find_rule u.kind (rules u (tied_kinds (kinds_of (tokens_of ls))) mode (statement (suffix q at x ∷ K))) ≡ r
          → follow r m (λ o m'. machine_verdict mode o m' (tokens_of ls)) ≡ some 0 → ⊥
      go none p w = rule_there (eqb (kind_code LANGTAG) (kind_code u.kind)) (eqb (kind_code carets) (kind_code u.kind)) _ _ t p
      go (some y) p w = let (j, a, b) = later_next mode (machine_verdict mode (y m).0 (y m).1 (tokens_of ls)) 0 w in let z : 0 ≡ suc j = b in omega arith

suffix_frame : (f : Frame) → is_suffix f ≡ true → (q : Place) × (at : ℕ) × (x : Text) × (f ≡ suffix q at x)
suffix_frame graph_label h = contrary (sym h)
suffix_frame (closing_label g) h = contrary (sym h)
suffix_frame (graph_body g) h = contrary (sym h)
suffix_frame (label_or_subject n) h = contrary (sym h)
suffix_frame triples_or_end h = contrary (sym h)
suffix_frame (verb s e) h = contrary (sym h)
suffix_frame (verb_or_end s e) h = contrary (sym h)
suffix_frame (object s p e) h = contrary (sym h)
suffix_frame (after_object s p e) h = contrary (sym h)
suffix_frame (after_semicolon s e) h = contrary (sym h)
suffix_frame (bracket q n) h = contrary (sym h)
suffix_frame (list q at cs) h = contrary (sym h)
suffix_frame (suffix q at x) h = (q, at, x, refl)
suffix_frame (datatype q at s) h = contrary (sym h)

not_awaiting : (mode : Mode) (base : Text) (i : ℕ) (ls : List Lexeme) (f : Fails mode i ls (start_state base)) → awaits f.state.open_now ≡ false
not_awaiting mode base i ls f =
    by (awaits f.state.open_now)
    (λ a. go f.state.open_now f.here a ((after_sane mode i ls (start_state base) f.state f.reached (start_sane base) (λ z. contrary (sym z))).1 a))
    (λ a. a)
  where
    go : {X : Type 0} (o : Open) → machine_verdict mode o f.state.memory (tokens_of (drop i ls)) ≡ some 0 → awaits o ≡ true → tied_to (drop i ls) ≡ true → X
    go (directive d) v a t = contrary (sym a)
    go (statement []) v a t = contrary (sym a)
    go (statement (g ∷ K)) v a t =
        let (q, at, x, e) = suffix_frame g a in
        absurd
        (awaited_goes mode q at x K f.state.memory (drop i ls) t (subst (λ (y : Frame). machine_verdict mode (statement (y ∷ K)) f.state.memory (tokens_of (drop i ls)) ≡ some 0) e v))

-- ---- The failure

-- Where the machine fails, what the tokens before write is what it has written.
pub fails_written : (mode : Mode) (base : Text) (i : ℕ) (ls : List Lexeme) (f : Fails mode i ls (start_state base)) → Written false mode base (take i (tokens_of ls)) f.state.memory.rows f.state.memory.terms
fails_written mode base i ls f =
    subst (λ (b : Bool). Written b mode base (take i (tokens_of ls)) f.state.memory.rows f.state.memory.terms) (not_awaiting mode base i ls f) (state_written mode base i ls f.state f.reached)

fits_same : (room : Room) (m m' : Memory) → m.rows ≡ m'.rows → m.terms ≡ m'.terms → Fits room m → Fits room m'
fits_same room m m' p q f =
    record {
      rows = subst (λ (l : List Row). length l ≤ room.rows) p f.rows;
      terms = subst (λ (l : List Term). length l ≤ room.terms) q f.terms;
      store = subst (λ (l : List Term). store_size l ≤ room.store) q f.store;
    }

module _ (doc : Text) (mode : ℕ) (base : Text) (lent : Lent) (i : ℕ) where
  machine_fails : GrammarFailsAt (mode_of mode) (document_tokens doc) i → Fails (mode_of mode) i (lexemes doc) (start_state base)
  machine_fails g =
      fails (mode_of mode) (lexemes doc) (start_state base) i (machine_grammar (mode_of mode) (start_memory base) (document_tokens doc) ∙ (refused_iff (mode_of mode) (document_tokens doc) i).1 g)

  of_the_run : RunFails doc mode base lent i → FailsFirst doc mode base lent i
  of_the_run f =
      let g = machine_fails f.fails in
      let p : f.state ≡ g.state = some_same (sym f.reached ∙ g.reached) in
      record {
        usable = f.usable;
        utf8 = f.utf8;
        fails = f.fails;
        fair = f.fair;
        room =
            record {
              memory = g.state.memory;
              written = fails_written (mode_of mode) base i (lexemes doc) g;
              fits = subst (λ (s : State). Fits (room_of lent) s.memory) p f.fits;
            };
        character = f.character;
        cuts = f.cuts;
      }

  to_the_run : FailsFirst doc mode base lent i → RunFails doc mode base lent i
  to_the_run f =
      let g = machine_fails f.fails in
      let r = f.room in
      let (p, q) = written_once false (mode_of mode) base (take i (document_tokens doc)) _ _ _ _ r.written (fails_written (mode_of mode) base i (lexemes doc) g) in
      record {
        usable = f.usable;
        utf8 = f.utf8;
        fails = f.fails;
        fair = f.fair;
        state = g.state;
        reached = g.reached;
        fits = fits_same (room_of lent) r.memory g.state.memory p q r.fits;
        character = f.character;
        cuts = f.cuts;
      }

  -- The run comes to 8 just there.
  pub same_failure : RunFails doc mode base lent i ↔ FailsFirst doc mode base lent i
  same_failure = (of_the_run, to_the_run)

  -- Where the grammar fails first, the answer is 8 at that token, or at the document's end,
  pub fails_answer : FailsFirst doc mode base lent i → read doc mode base lent ≡ refusal grammar_refusal (place_of (length doc) (lexemes doc) i)
  fails_answer f = run_fails_answer doc mode base lent i (to_the_run f)

-- and 8 is answered only there.
pub eight_fails_first : (doc : Text) (mode : ℕ) (base : Text) (lent : Lent) → (read doc mode base lent).number ≡ grammar_refusal
    → (i : ℕ) × FailsFirst doc mode base lent i × ((read doc mode base lent).position ≡ place_of (length doc) (lexemes doc) i)
eight_fails_first doc mode base lent e = let (i, f, q) = eight_run_fails doc mode base lent _ e refl in (i, of_the_run doc mode base lent i f, q)
