-- Acceptance, in words about the mode, the document and what is lent; and where 8 is answered, in words about the run.
use mathlib.Core.Path.{◌≡◌, refl, sym, ap, ap₂, ◌∙◌, subst}
use mathlib.Core.Logic.{◌↔◌}
use mathlib.Core.List.{List, [], ◌∷◌, ◌++◌, append_assoc}
use mathlib.Core.Bool.{Bool, true, false, not}
use mathlib.Core.Option.{Option, none, some}
use Prim.Native.Nat.{ℕ, zero, suc, ◌≤◌, zero-le}
use native.Mathlib.Omega.{arith}
use lib.Dec.{T, eqb, leb, leb→le, le→leb}
use lib.ListN.{length, take, drop, length-append}
use Rattle.text.specs.Text.{Text}
use Rattle.text.proofs.Booleans.{all}
use Rattle.utf8.specs.Utf8.{first_bad}
use Rattle.token.specs.Tokens.{Token, Lexeme, token, unreadable, lexemes, tokens_of, readable, place_of}
use Rattle.grammar.specs.Productions.{Mode, GrammarFailsAt}
use Rattle.dataset.specs.Constructors.{InForce, after_token, after_tokens, in_force}
use Rattle.table.specs.Tables.{store_size}
use Rattle.table.proofs.Numbers.{not_none}
use Rattle.table.proofs.Store.{size_append}
use Rattle.machine.specs.Memory.{Memory, start_memory, Write}
use Rattle.machine.specs.Frame.{Open, directive, statement}
use Rattle.machine.specs.Rules.{find_rule, rules}
use Rattle.machine.specs.Refusals.{no_character, new_depth, escape_tests, force_tests, room_tests}
use Rattle.machine.specs.Step.{Room, State, in_force_now, ◌when◌, first_refusal, answer, obeyed, tests, step, tied_to, Outcome, accepted, refused, at_end, onward, run}
use Rattle.machine.specs.Read.{Lent, Answer, first_checks, mode_of, room_of, start_state, refusal, success, reported, read, read_checked, read_utf8, read_tokens}
use Rattle.machine.specs.Construction.{tables}
use Rattle.machine.specs.Demand.{document_tokens, depth_from, depth_after, Nowhere, Fair, Fits, Meets}
use Rattle.grammar.proofs.Grammar.{kinds_of, refused as refused_iff}
use Rattle.machine.proofs.Decide.{tied_kinds}
use Rattle.grammar.proofs.Recogniser.{at_end as end_verdict, later}
use Rattle.machine.proofs.Link.{follow, finished, machine_verdict}
use Rattle.machine.proofs.Firsts.{number_of, refusal_number, Passes, passes_both, passes_each, first_past, fits_passes, passes_fits, own_and_room, no_rule, eight_passes}
use Rattle.machine.proofs.Judge.{tied_same}
use Rattle.machine.proofs.Accepted.{agreement, accepted_tables}
use Rattle.machine.proofs.Grammatical.{accepted_derives, machine_grammar}
use Rattle.machine.proofs.Agreement.{final, at_finish, taken}
use Rattle.machine.proofs.Made.{some_same}
use Rattle.machine.proofs.Extends.{Extends, extends_same, extends_both, in_force_rule, extends_rule}

-- ---- What is in force and open, token by token

pub after_append : (f : InForce) (xs : List Token) (t : Token) → after_tokens f (xs ++ t ∷ []) ≡ after_token (after_tokens f xs) t
unfolding after_tokens
after_append f [] t = refl
after_append f (x ∷ xs) t = after_append (after_token f x) xs t

pub depth_append : (d : ℕ) (xs : List Token) (t : Token) → depth_from d (xs ++ t ∷ []) ≡ new_depth (depth_from d xs) t
unfolding depth_from
depth_append d [] t = refl
depth_append d (x ∷ xs) t = depth_append (new_depth d x) xs t

-- The state is that after the tokens `before`.
pub record Tracks (base : Text) (before : List Token) (s : State) : Type 0 where
  pub force : in_force_now s ≡ in_force base before
  pub depth : s.depth ≡ depth_after before

tracks_step : (mode : Mode) (base : Text) (before : List Token) (s : State) (t : Token) (tied : Bool) (w : Write Open) → find_rule t.kind (rules t tied mode s.open_now) ≡ some w
    → Tracks base before s → Tracks base (before ++ t ∷ []) (obeyed (some w) t s)
unfolding in_force
tracks_step mode base before s t tied w e a =
    record {
      force = in_force_rule t tied mode s.memory s.open_now w e ∙ ap (λ f. after_token f t) a.force ∙ sym (after_append _ before t);
      depth = ap (λ d. new_depth d t) a.depth ∙ sym (depth_append 0 before t);
    }

-- ---- Room

extends_fits : (room : Room) (m m' : Memory) → Extends m m' → Fits room m' → Fits room m
extends_fits room m m' x f =
    record {
      rows = (let p = ap length x.rows ∙ length-append m.rows x.new_rows in let q = f.rows in omega arith);
      terms = (let p = ap length x.terms ∙ length-append m.terms x.new_terms in let q = f.terms in omega arith);
      store = (let p = ap store_size x.terms ∙ size_append m.terms x.new_terms in let q = f.store in omega arith);
    }

-- What the tokens write, as far as the grammar goes, extends what was there.
pub finish_same : (o : Open) (m M : Memory) → at_finish o m ≡ some M → (o ≡ statement []) × (m ≡ M)
unfolding at_finish
finish_same (directive d) m M e = not_none e
finish_same (statement []) m M e = (refl, some_same e)
finish_same (statement (f ∷ k)) m M e = not_none e

pub final_extends : (mode : Mode) (ts : List Token) (o : Open) (m M : Memory) → final mode ts o m ≡ some M → Extends m M
unfolding final taken
final_extends mode [] o m M e = subst (Extends m) (finish_same o m M e).1 (extends_same m m refl refl)
final_extends mode (t ∷ ts) o m M e =
    go (find_rule t.kind (rules t (tied_kinds (kinds_of ts)) mode o)) refl e (λ o' m' d. final_extends mode ts o' m' M d)
  where
    go : (r : Option (Write Open)) → find_rule t.kind (rules t (tied_kinds (kinds_of ts)) mode o) ≡ r → taken r m (λ o' m'. final mode ts o' m') ≡ some M
        → ((o' : Open) (m' : Memory) → final mode ts o' m' ≡ some M → Extends m' M) → Extends m M
    go none p d f = not_none d
    go (some w) p d f = extends_both (extends_rule t (tied_kinds (kinds_of ts)) mode m o w p) (f (w m).0 (w m).1 d)

-- ---- What the first tokens write

-- The state after i tokens, as far as the grammar goes: what they write, whatever else may be refused.
unfoldable pub obey : Option (Write Open) → Token → State → (State → Option State) → Option State
obey none t s f = none
obey (some w) t s f = f (obeyed (some w) t s)

unfoldable pub after_rules : Mode → ℕ → List Lexeme → State → Option State
after_rules mode zero ls s = some s
after_rules mode (suc i) [] s = none
after_rules mode (suc i) (unreadable p ∷ ls) s = none
after_rules mode (suc i) (token t ∷ ls) s = obey (find_rule t.kind (rules t (tied_to ls) mode s.open_now)) t s (λ s'. after_rules mode i ls s')

-- ---- A token that is not refused

-- What a token has to meet by itself.
abbrev pub Met : Text → List Token → Token → Type 0
Met base before t = Passes (escape_tests t ++ force_tests (in_force base before) (depth_after before) t)

pub fair_head : {base : Text} {before ts : List Token} {t : Token} → Fair base before (t ∷ ts) → Met base before t
fair_head f = (f.characters.0, (f.declared.0, (f.based.0, (f.lengths.0, (f.prefixes.0, (f.depth.0, tt))))))

pub fair_tail : {base : Text} {before ts : List Token} {t : Token} → Fair base before (t ∷ ts) → Fair base (before ++ t ∷ []) ts
fair_tail f =
    record { characters = f.characters.1; declared = f.declared.1; based = f.based.1; lengths = f.lengths.1; prefixes = f.prefixes.1; depth = f.depth.1 }

pub fair_none : (base : Text) (before : List Token) → Fair base before []
fair_none base before = record { characters = tt; declared = tt; based = tt; lengths = tt; prefixes = tt; depth = tt }

pub fair_more : {base : Text} {before ts : List Token} {t : Token} → Met base before t → Fair base (before ++ t ∷ []) ts → Fair base before (t ∷ ts)
fair_more (characters, (declared, (based, (lengths, (prefixes, (depth, u)))))) f =
    record {
      characters = (characters, f.characters);
      declared = (declared, f.declared);
      based = (based, f.based);
      lengths = (lengths, f.lengths);
      prefixes = (prefixes, f.prefixes);
      depth = (depth, f.depth);
    }

module _ (room : Room) (base : Text) (before : List Token) (s : State) (t : Token) (a : Tracks base before s) where
  -- The token's own tests, by the state and by the tokens before it.
  same_tests : force_tests (in_force_now s) s.depth t ≡ force_tests (in_force base before) (depth_after before) t
  same_tests = ap₂ (λ f d. force_tests f d t) a.force a.depth

  -- The tests of a token with a rule pass exactly if it meets these and what it writes fits.
  tests_pass : (w : Write Open) → Met base before t → Fits room (obeyed (some w) t s).memory → first_refusal (tests room s t (some w) (obeyed (some w) t s)) ≡ none
  tests_pass w m f =
      let (x, y) = passes_each (escape_tests t) (force_tests (in_force base before) (depth_after before) t) m in
      (own_and_room room s t w (obeyed (some w) t s)).1 (x, (subst Passes (sym same_tests) y, fits_passes room (obeyed (some w) t s).memory f))

  tests_passed : (w : Write Open) → first_refusal (tests room s t (some w) (obeyed (some w) t s)) ≡ none → Met base before t × Fits room (obeyed (some w) t s).memory
  tests_passed w e =
      let (x, (y, z)) = (own_and_room room s t w (obeyed (some w) t s)).0 e in
      (passes_both (escape_tests t) (force_tests (in_force base before) (depth_after before) t) x (subst Passes same_tests y), passes_fits room (obeyed (some w) t s).memory z)

-- ---- Runs

not_accepted : {A : Type 0} {c p : ℕ} {m : Memory} → refused c p ≡ accepted m → A
not_accepted e = let z : ◌≡◌ {A = ℕ} 0 1 = cc in absurd (omega arith)

refused_number : {c d p q : ℕ} → refused c p ≡ refused d q → c ≡ d
refused_number e = cc

refused_place : {c d p q : ℕ} → refused c p ≡ refused d q → p ≡ q
refused_place e = cc

end_accepted : (o : Open) (n : ℕ) (m M : Memory) → at_end o n m ≡ accepted M → m ≡ M
end_accepted (directive d) n m M e = not_accepted e
end_accepted (statement []) n m M e = cc
end_accepted (statement (f ∷ k)) n m M e = not_accepted e

module _ (mode : Mode) (room : Room) (base : Text) (n : ℕ) where
  abbrev outcome_of : List Lexeme → Option ℕ → Token → State → Outcome
  outcome_of ls o t s = onward (λ s'. run mode room n ls s') (answer o t.start s)

  -- Tokens that meet all of this are accepted,
  pub accept_run : (ls : List Lexeme) (before : List Token) (s : State) (M : Memory) → Tracks base before s → T (readable ls) → Fair base before (tokens_of ls)
      → final mode (tokens_of ls) s.open_now s.memory ≡ some M → Fits room M → run mode room n ls s ≡ accepted M
  unfolding run readable tokens_of final step taken
  accept_run [] before s M a r f e x = let (p, q) = finish_same s.open_now s.memory M e in ap (λ o. at_end o n s.memory) p ∙ ap accepted q
  accept_run (unreadable p ∷ ls) before s M a r f e x = absurd r
  accept_run (token t ∷ ls) before s M a r f e x =
      go (find_rule t.kind (rules t (tied_to ls) mode s.open_now)) refl
      (subst (λ b. taken (find_rule t.kind (rules t b mode s.open_now)) s.memory (λ o m. final mode (tokens_of ls) o m) ≡ some M) (sym (tied_same ls)) e)
      (λ s' b d. accept_run ls (before ++ t ∷ []) s' M b r (fair_tail f) d x)
    where
      go : (rule : Option (Write Open)) → find_rule t.kind (rules t (tied_to ls) mode s.open_now) ≡ rule → taken rule s.memory (λ o m. final mode (tokens_of ls) o m) ≡ some M
          → ((s' : State) → Tracks base (before ++ t ∷ []) s' → final mode (tokens_of ls) s'.open_now s'.memory ≡ some M → run mode room n ls s' ≡ accepted M)
          → outcome_of ls (first_refusal (tests room s t rule (obeyed rule t s))) t (obeyed rule t s) ≡ accepted M
      go none p d k = not_none d
      go (some w) p d k =
          let s' = obeyed (some w) t s in
          let fits = extends_fits room s'.memory M (final_extends mode (tokens_of ls) s'.open_now s'.memory M d) x in
          ap (λ o. outcome_of ls o t s') (tests_pass room base before s t a w (fair_head f) fits) ∙ k s' (tracks_step mode base before s t (tied_to ls) w p a) d

  -- and accepted tokens meet it.
  pub accepted_fair : (ls : List Lexeme) (before : List Token) (s : State) (M : Memory) → Tracks base before s → Fits room s.memory
      → run mode room n ls s ≡ accepted M → Fair base before (tokens_of ls) × Fits room M
  unfolding run tokens_of step
  accepted_fair [] before s M a x e = (fair_none base before, subst (Fits room) (end_accepted s.open_now n s.memory M e) x)
  accepted_fair (unreadable p ∷ ls) before s M a x e = not_accepted e
  accepted_fair (token t ∷ ls) before s M a x e =
      go (find_rule t.kind (rules t (tied_to ls) mode s.open_now)) refl (first_refusal (tests room s t (find_rule t.kind (rules t (tied_to ls) mode s.open_now)) (obeyed (find_rule t.kind (rules t (tied_to ls) mode s.open_now)) t s))) refl e
      (λ s' b y d. accepted_fair ls (before ++ t ∷ []) s' M b y d)
    where
      go : (rule : Option (Write Open)) → find_rule t.kind (rules t (tied_to ls) mode s.open_now) ≡ rule
          → (o : Option ℕ) → first_refusal (tests room s t rule (obeyed rule t s)) ≡ o → outcome_of ls o t (obeyed rule t s) ≡ accepted M
          → ((s' : State) → Tracks base (before ++ t ∷ []) s' → Fits room s'.memory → run mode room n ls s' ≡ accepted M → Fair base (before ++ t ∷ []) (tokens_of ls) × Fits room M)
          → Fair base before (t ∷ tokens_of ls) × Fits room M
      go rule p (some c) q d k = not_accepted d
      go none p none q d k = no_rule room s t q
      go (some w) p none q d k =
          let (m, y) = tests_passed room base before s t a w q in
          let (f, z) = k (obeyed (some w) t s) (tracks_step mode base before s t (tied_to ls) w p a) y d in
          (fair_more m f, z)

  -- A refusal that stands at a token has a number from 6 on.
  run_number : (ls : List Lexeme) (s : State) (c p : ℕ) → run mode room n ls s ≡ refused c p → T (leb 6 c)
  unfolding run step all number_of
  run_number [] s c p e = at_the_end s.open_now e
    where
      at_the_end : (o : Open) → at_end o n s.memory ≡ refused c p → T (leb 6 c)
      at_the_end (directive d) e = subst (λ x. T (leb 6 x)) (refused_number e) tt
      at_the_end (statement []) e = not_accepted (sym e)
      at_the_end (statement (f ∷ k)) e = subst (λ x. T (leb 6 x)) (refused_number e) tt
  run_number (unreadable q ∷ ls) s c p e = subst (λ x. T (leb 6 x)) (refused_number e) tt
  run_number (token t ∷ ls) s c p e =
      let rule = find_rule t.kind (rules t (tied_to ls) mode s.open_now) in
      let ts = tests room s t rule (obeyed rule t s) in
      go (obeyed rule t s) (first_refusal ts) (refusal_number (leb 6) ts tt) e (λ s' d. run_number ls s' c p d)
    where
      go : (s' : State) (o : Option ℕ) → ((d : ℕ) → o ≡ some d → T (leb 6 d)) → outcome_of ls o t s' ≡ refused c p
          → ((s'' : State) → run mode room n ls s'' ≡ refused c p → T (leb 6 c)) → T (leb 6 c)
      go s' none f d k = k s' d
      go s' (some x) f d k = subst (λ y. T (leb 6 y)) (refused_number d) (f x refl)

  -- ---- Where the grammar fails first

  -- The first i tokens are not refused, and the grammar fails at the next, or at the end.
  pub record FailsNext (before : List Token) (ls : List Lexeme) (s : State) (p i : ℕ) : Type 0 where
    pub verdict : machine_verdict mode s.open_now s.memory (tokens_of ls) ≡ some i
    pub place : p ≡ place_of n ls i
    pub fair : Fair base before (take i (tokens_of ls))
    pub state : State
    pub reached : after_rules mode i ls s ≡ some state
    pub fits : Fits room state.memory
    pub character : Nowhere (λ xs t. no_character t) (before ++ take i (tokens_of ls)) (take 1 (drop i (tokens_of ls)))
    pub cuts : i ≡ length (tokens_of ls) → T (readable ls)

  not_refused : {A : Type 0} {c p : ℕ} {m : Memory} → accepted m ≡ refused c p → A
  not_refused e = not_accepted (sym e)

  -- 8 is answered only there,
  eight_next : (ls : List Lexeme) (before : List Token) (s : State) (p : ℕ) → Tracks base before s → Fits room s.memory
      → run mode room n ls s ≡ refused 8 p → (i : ℕ) × FailsNext before ls s p i
  unfolding run tokens_of step machine_verdict after_rules obey place_of readable follow all number_of end_verdict finished later
  eight_next [] before s p a x e = (0, at_the_end s.open_now refl e)
    where
      found : (o : Open) → s.open_now ≡ o → finished o ≡ false → p ≡ n → FailsNext before [] s p 0
      found o q f z =
          record {
            verdict = ap (λ b. end_verdict b) (ap finished q ∙ f);
            place = z;
            fair = fair_none base before;
            state = s;
            reached = refl;
            fits = x;
            character = tt;
            cuts = λ i. tt;
          }

      at_the_end : (o : Open) → s.open_now ≡ o → at_end o n s.memory ≡ refused 8 p → FailsNext before [] s p 0
      at_the_end (directive d) q e = found (directive d) q refl (sym (refused_place e))
      at_the_end (statement []) q e = not_refused e
      at_the_end (statement (f ∷ k)) q e = found (statement (f ∷ k)) q refl (sym (refused_place e))
  eight_next (unreadable q ∷ ls) before s p a x e = let z : ◌≡◌ {A = ℕ} 6 8 = refused_number e in absurd (omega arith)
  eight_next (token t ∷ ls) before s p a x e =
      let rule = find_rule t.kind (rules t (tied_to ls) mode s.open_now) in
      go rule refl (first_refusal (tests room s t rule (obeyed rule t s))) refl e (λ s' b y d. eight_next ls (before ++ t ∷ []) s' p b y d)
    where
      in_verdict : (rule : Option (Write Open)) → find_rule t.kind (rules t (tied_to ls) mode s.open_now) ≡ rule
          → find_rule t.kind (rules t (tied_kinds (kinds_of (tokens_of ls))) mode s.open_now) ≡ rule
      in_verdict rule q = ap (λ b. find_rule t.kind (rules t b mode s.open_now)) (sym (tied_same ls)) ∙ q

      go : (rule : Option (Write Open)) → find_rule t.kind (rules t (tied_to ls) mode s.open_now) ≡ rule
          → (o : Option ℕ) → first_refusal (tests room s t rule (obeyed rule t s)) ≡ o → outcome_of ls o t (obeyed rule t s) ≡ refused 8 p
          → ((s' : State) → Tracks base (before ++ t ∷ []) s' → Fits room s'.memory → run mode room n ls s' ≡ refused 8 p → (i : ℕ) × FailsNext (before ++ t ∷ []) ls s' p i)
          → (i : ℕ) × FailsNext before (token t ∷ ls) s p i
      go none q none z d k = no_rule room s t z
      go none q (some c) z d k = (
        0,
        record {
          verdict = ap (λ r. follow r s.memory (λ o m. machine_verdict mode o m (tokens_of ls))) (in_verdict none q);
          place = sym (refused_place d);
          fair = fair_none base before;
          state = s;
          reached = refl;
          fits = x;
          character = eight_passes room s t (z ∙ ap some (refused_number d));
          cuts = λ h. absurd (omega arith);
        },
      )
      go (some w) q (some c) z d k =
          absurd
          (subst (λ y. T (not (eqb y 8))) (refused_number d)
          (refusal_number (λ y. not (eqb y 8)) (escape_tests t ++ force_tests (in_force_now s) s.depth t ++ room_tests room (obeyed (some w) t s).memory) tt c z))
      go (some w) q none z d k =
          let s' = obeyed (some w) t s in
          let (m, y) = tests_passed room base before s t a w z in
          let (i, r) = k s' (tracks_step mode base before s t (tied_to ls) w q a) y d in (
            suc i,
            record {
              verdict = ap (λ v. follow v s.memory (λ o m. machine_verdict mode o m (tokens_of ls))) (in_verdict (some w) q) ∙ ap later r.verdict;
              place = r.place;
              fair = fair_more m r.fair;
              state = r.state;
              reached = ap (λ v. obey v t s (λ s''. after_rules mode i ls s'')) q ∙ r.reached;
              fits = r.fits;
              character = subst (λ l. Nowhere (λ xs u. no_character u) l (take 1 (drop i (tokens_of ls)))) (append_assoc before (t ∷ []) (take i (tokens_of ls))) r.character;
              cuts = λ h. r.cuts (omega arith);
            },
          )

  -- What i tokens write extends what was there.
  after_extends : (i : ℕ) (ls : List Lexeme) (s s' : State) → after_rules mode i ls s ≡ some s' → Extends s.memory s'.memory
  unfolding after_rules obey
  after_extends zero ls s s' e = subst (λ x. Extends s.memory x.memory) (some_same e) (extends_same s.memory s.memory refl refl)
  after_extends (suc i) [] s s' e = not_none e
  after_extends (suc i) (unreadable p ∷ ls) s s' e = not_none e
  after_extends (suc i) (token t ∷ ls) s s' e = go (find_rule t.kind (rules t (tied_to ls) mode s.open_now)) refl e (λ x d. after_extends i ls x s' d)
    where
      go : (r : Option (Write Open)) → find_rule t.kind (rules t (tied_to ls) mode s.open_now) ≡ r → obey r t s (λ x. after_rules mode i ls x) ≡ some s'
          → ((x : State) → after_rules mode i ls x ≡ some s' → Extends x.memory s'.memory) → Extends s.memory s'.memory
      go none q d k = not_none d
      go (some w) q d k = extends_both (extends_rule t (tied_to ls) mode s.memory s.open_now w q) (k (obeyed (some w) t s) d)

  -- and there it is answered.
  next_eight : (ls : List Lexeme) (before : List Token) (s : State) (p i : ℕ) → Tracks base before s → FailsNext before ls s p i → run mode room n ls s ≡ refused 8 p
  unfolding run tokens_of step machine_verdict after_rules obey place_of readable follow end_verdict finished later
  next_eight [] before s p i a f = at_the_end s.open_now f.verdict f.place
    where
      at_the_end : (o : Open) → end_verdict (finished o) ≡ some i → p ≡ place_of n [] i → at_end o n s.memory ≡ refused 8 p
      at_the_end (directive d) v q = ap (refused 8) (sym q)
      at_the_end (statement []) v q = not_none v
      at_the_end (statement (g ∷ k)) v q = ap (refused 8) (sym q)
  next_eight (unreadable q ∷ ls) before s p i a f = absurd (f.cuts (ends (finished s.open_now) f.verdict))
    where
      ends : (b : Bool) → end_verdict b ≡ some i → i ≡ 0
      ends true v = not_none v
      ends false v = sym (some_same v)
  next_eight (token t ∷ ls) before s p zero a f = go (find_rule t.kind (rules t (tied_to ls) mode s.open_now)) refl
    where
      v : follow (find_rule t.kind (rules t (tied_to ls) mode s.open_now)) s.memory (λ o m. machine_verdict mode o m (tokens_of ls)) ≡ some 0
      v = ap (λ b. follow (find_rule t.kind (rules t b mode s.open_now)) s.memory (λ o m. machine_verdict mode o m (tokens_of ls))) (tied_same ls) ∙ f.verdict

      not_later : {A : Type 0} (x : Option ℕ) → later x ≡ some 0 → A
      not_later none e = not_none e
      not_later (some j) e = let z : suc j ≡ 0 = some_same e in absurd (omega arith)

      go : (r : Option (Write Open)) → find_rule t.kind (rules t (tied_to ls) mode s.open_now) ≡ r
          → outcome_of ls (first_refusal (tests room s t r (obeyed r t s))) t (obeyed r t s) ≡ refused 8 p
      go none q =
          ap (λ o. outcome_of ls o t s) (first_past (escape_tests t) (8 when true ∷ []) f.character) ∙ ap (refused 8) (sym f.place)
      go (some w) q =
          not_later (machine_verdict mode (w s.memory).0 (w s.memory).1 (tokens_of ls))
          (ap (λ r. follow r s.memory (λ o m. machine_verdict mode o m (tokens_of ls))) (sym q) ∙ v)
  next_eight (token t ∷ ls) before s p (suc i) a f =
      go (find_rule t.kind (rules t (tied_to ls) mode s.open_now)) refl (λ s' b g. next_eight ls (before ++ t ∷ []) s' p i b g)
    where
      v : follow (find_rule t.kind (rules t (tied_to ls) mode s.open_now)) s.memory (λ o m. machine_verdict mode o m (tokens_of ls)) ≡ some (suc i)
      v = ap (λ b. follow (find_rule t.kind (rules t b mode s.open_now)) s.memory (λ o m. machine_verdict mode o m (tokens_of ls))) (tied_same ls) ∙ f.verdict

      earlier : (x : Option ℕ) → later x ≡ some (suc i) → x ≡ some i
      earlier none e = not_none e
      earlier (some j) e = let z : suc j ≡ suc i = some_same e in ap some (omega arith)

      go : (r : Option (Write Open)) → find_rule t.kind (rules t (tied_to ls) mode s.open_now) ≡ r
          → ((s' : State) → Tracks base (before ++ t ∷ []) s' → FailsNext (before ++ t ∷ []) ls s' p i → run mode room n ls s' ≡ refused 8 p)
          → outcome_of ls (first_refusal (tests room s t r (obeyed r t s))) t (obeyed r t s) ≡ refused 8 p
      go none q k = let z : 0 ≡ suc i = some_same (ap (λ r. follow r s.memory (λ o m. machine_verdict mode o m (tokens_of ls))) (sym q) ∙ v) in absurd (omega arith)
      go (some w) q k =
          let s' = obeyed (some w) t s in
          let reached : after_rules mode i ls s' ≡ some f.state = ap (λ r. obey r t s (λ x. after_rules mode i ls x)) (sym q) ∙ f.reached in
          let fits = extends_fits room s'.memory f.state.memory (after_extends i ls s' f.state reached) f.fits in
          ap (λ o. outcome_of ls o t s') (tests_pass room base before s t a w (fair_head f.fair) fits)
          ∙ k s' (tracks_step mode base before s t (tied_to ls) w q a)
          (record {
            verdict = earlier (machine_verdict mode s'.open_now s'.memory (tokens_of ls)) (ap (λ r. follow r s.memory (λ o m. machine_verdict mode o m (tokens_of ls))) (sym q) ∙ v);
            place = f.place;
            fair = fair_tail f.fair;
            state = f.state;
            reached = reached;
            fits = f.fits;
            character = subst (λ l. Nowhere (λ xs u. no_character u) l (take 1 (drop i (tokens_of ls)))) (sym (append_assoc before (t ∷ []) (take i (tokens_of ls)))) f.character;
            cuts = λ h. f.cuts (ap suc h);
          })

-- ---- The whole answer

-- Before the first token.
pub start_tracks : (base : Text) → Tracks base [] (start_state base)
unfolding in_force after_tokens depth_from
start_tracks base = record { force = refl; depth = refl }

pub start_fits : (room : Room) (base : Text) → Fits room (start_state base).memory
unfolding store_size
start_fits room base = record { rows = zero-le; terms = zero-le; store = zero-le }

module _ (doc : Text) (mode : ℕ) (base : Text) (lent : Lent) where
  abbrev pub run_of : Outcome
  run_of = run (mode_of mode) (room_of lent) (length doc) (lexemes doc) (start_state base)

  -- Where 1 to 5 do not apply, the answer is the run's.
  pub read_run : first_refusal (first_checks doc mode base lent) ≡ none → first_bad doc ≡ none → read doc mode base lent ≡ reported (length doc) run_of
  unfolding read read_checked read_utf8 read_tokens
  read_run u v = ap (λ o. read_checked o doc mode base lent) u ∙ ap (λ o. read_utf8 o doc mode base lent) v

  -- What meets the conditions is accepted, with the tables that its derivation makes.
  pub meets_run : (room : Room) (x : Meets doc mode base lent) → Fits room (tables (mode_of mode) x.derivation.0 base)
      → run (mode_of mode) room (length doc) (lexemes doc) (start_state base) ≡ accepted (tables (mode_of mode) x.derivation.0 base)
  meets_run room x f =
      let (d, p) = x.derivation in
      let e : final (mode_of mode) (document_tokens doc) (statement []) (start_memory base) ≡ some (tables (mode_of mode) d base) =
      ap (λ l. final (mode_of mode) l (statement []) (start_memory base)) (sym p) ∙ agreement (mode_of mode) d base in
      accept_run (mode_of mode) room base (length doc) (lexemes doc) [] (start_state base) (tables (mode_of mode) d base) (start_tracks base) x.cuts x.fair e f

  pub meets_answer : (x : Meets doc mode base lent) → read doc mode base lent ≡ success (length doc) (tables (mode_of mode) x.derivation.0 base)
  meets_answer x = read_run x.usable x.utf8 ∙ ap (reported (length doc)) (meets_run (room_of lent) x x.room)

  not_zero : {A : Type 0} (c : ℕ) → T (leb 1 c) → c ≡ 0 → A
  not_zero c h e = absurd (subst (λ x. T (leb 1 x)) e h)

  leb_less : (c : ℕ) → T (leb 6 c) → T (leb 1 c)
  leb_less c h = le→leb 1 c (let p : 6 ≤ c = leb→le 6 c h in omega arith)

  -- What is answered by 0 meets the conditions.
  pub zero_meets : (read doc mode base lent).number ≡ 0 → Meets doc mode base lent
  unfolding read read_checked read_utf8 read_tokens all number_of
  zero_meets e = checked (first_refusal (first_checks doc mode base lent)) refl e
    where
      ran : first_refusal (first_checks doc mode base lent) ≡ none → first_bad doc ≡ none → (o : Outcome) → run_of ≡ o → (reported (length doc) o).number ≡ 0 → Meets doc mode base lent
      ran u v (refused c p) r z = not_zero c (leb_less c (run_number (mode_of mode) (room_of lent) base (length doc) (lexemes doc) (start_state base) c p r)) z
      ran u v (accepted m) r z =
          let (cut, (d, p)) = accepted_derives (mode_of mode) (room_of lent) base (length doc) (lexemes doc) m r in
          let (f, x) = accepted_fair (mode_of mode) (room_of lent) base (length doc) (lexemes doc) [] (start_state base) m (start_tracks base) (start_fits (room_of lent) base) r in
          record {
            usable = u;
            utf8 = v;
            cuts = cut;
            derivation = (d, p);
            fair = f;
            room = subst (Fits (room_of lent)) (accepted_tables (mode_of mode) (room_of lent) base (length doc) (lexemes doc) m r d p) x;
          }

      decoded : first_refusal (first_checks doc mode base lent) ≡ none → (o : Option ℕ) → first_bad doc ≡ o → (read_utf8 o doc mode base lent).number ≡ 0 → Meets doc mode base lent
      decoded u (some q) v z = not_zero 5 tt z
      decoded u none v z = ran u v run_of refl z

      checked : (o : Option ℕ) → first_refusal (first_checks doc mode base lent) ≡ o → (read_checked o doc mode base lent).number ≡ 0 → Meets doc mode base lent
      checked (some c) u z = not_zero c (refusal_number (leb 1) (first_checks doc mode base lent) tt c u) z
      checked none u z = decoded u (first_bad doc) refl z

  -- "accepted exactly when": a document is accepted if and only if it meets the conditions.
  pub accepted_iff_meets : ((read doc mode base lent).number ≡ 0) ↔ Meets doc mode base lent
  accepted_iff_meets = (zero_meets, λ x. ap (λ (a : Answer). a.number) (meets_answer x))

  -- ---- 8

  -- The run comes to a token i that no rule takes, or so to the document's end, and 8 is the first refusal there.
  pub record RunFails (i : ℕ) : Type 0 where
    pub usable : first_refusal (first_checks doc mode base lent) ≡ none
    pub utf8 : first_bad doc ≡ none
    pub fails : GrammarFailsAt (mode_of mode) (document_tokens doc) i
    pub fair : Fair base [] (take i (document_tokens doc))
    pub state : State
    pub reached : after_rules (mode_of mode) i (lexemes doc) (start_state base) ≡ some state
    pub fits : Fits (room_of lent) state.memory
    pub character : Nowhere (λ xs t. no_character t) (take i (document_tokens doc)) (take 1 (drop i (document_tokens doc)))
    pub cuts : i ≡ length (document_tokens doc) → T (readable (lexemes doc))

  -- Where the grammar fails, and the machine's verdict.
  pub verdict_fails : (i : ℕ) → machine_verdict (mode_of mode) (statement []) (start_memory base) (document_tokens doc) ≡ some i → GrammarFailsAt (mode_of mode) (document_tokens doc) i
  verdict_fails i v = (refused_iff (mode_of mode) (document_tokens doc) i).0 (sym (machine_grammar (mode_of mode) (start_memory base) (document_tokens doc)) ∙ v)

  pub fails_verdict : (i : ℕ) → GrammarFailsAt (mode_of mode) (document_tokens doc) i → machine_verdict (mode_of mode) (statement []) (start_memory base) (document_tokens doc) ≡ some i
  fails_verdict i f = machine_grammar (mode_of mode) (start_memory base) (document_tokens doc) ∙ (refused_iff (mode_of mode) (document_tokens doc) i).1 f

  -- Then the answer is 8 at that token, or at the document's end,
  pub run_fails_answer : (i : ℕ) → RunFails i → read doc mode base lent ≡ refusal 8 (place_of (length doc) (lexemes doc) i)
  run_fails_answer i f =
      read_run f.usable f.utf8
      ∙ ap (reported (length doc))
      (next_eight (mode_of mode) (room_of lent) base (length doc) (lexemes doc) [] (start_state base) (place_of (length doc) (lexemes doc) i) i (start_tracks base)
      (record {
        verdict = fails_verdict i f.fails;
        place = refl;
        fair = f.fair;
        state = f.state;
        reached = f.reached;
        fits = f.fits;
        character = f.character;
        cuts = f.cuts;
      }))

  abbrev EightAt : ℕ → Type 0
  EightAt p = (i : ℕ) × RunFails i × (p ≡ place_of (length doc) (lexemes doc) i)

  not_eight : {A : Type 0} (c : ℕ) → T (not (eqb c 8)) → c ≡ 8 → A
  not_eight c h e = absurd (subst (λ x. T (not (eqb x 8))) e h)

  -- and 8 is answered only there.
  pub eight_run_fails : (p : ℕ) → (read doc mode base lent).number ≡ 8 → (read doc mode base lent).position ≡ p → EightAt p
  unfolding read read_checked read_utf8 read_tokens all number_of
  eight_run_fails p e at = checked (first_refusal (first_checks doc mode base lent)) refl e at
    where
      ran : first_refusal (first_checks doc mode base lent) ≡ none → first_bad doc ≡ none → (o : Outcome) → run_of ≡ o
          → (reported (length doc) o).number ≡ 8 → (reported (length doc) o).position ≡ p → EightAt p
      ran u v (accepted m) r z y = not_eight 0 tt z
      ran u v (refused c q) r z y =
          let (i, f) = eight_next (mode_of mode) (room_of lent) base (length doc) (lexemes doc) [] (start_state base) p (start_tracks base) (start_fits (room_of lent) base) (r ∙ ap₂ refused z y) in (
            i,
            record {
              usable = u;
              utf8 = v;
              fails = verdict_fails i f.verdict;
              fair = f.fair;
              state = f.state;
              reached = f.reached;
              fits = f.fits;
              character = f.character;
              cuts = f.cuts;
            },
            f.place,
          )

      decoded : first_refusal (first_checks doc mode base lent) ≡ none → (o : Option ℕ) → first_bad doc ≡ o
          → (read_utf8 o doc mode base lent).number ≡ 8 → (read_utf8 o doc mode base lent).position ≡ p → EightAt p
      decoded u (some q) v z y = not_eight 5 tt z
      decoded u none v z y = ran u v run_of refl z y

      checked : (o : Option ℕ) → first_refusal (first_checks doc mode base lent) ≡ o
          → (read_checked o doc mode base lent).number ≡ 8 → (read_checked o doc mode base lent).position ≡ p → EightAt p
      checked (some c) u z y = not_eight c (refusal_number (λ x. not (eqb x 8)) (first_checks doc mode base lent) tt c u) z
      checked none u z y = decoded u (first_bad doc) refl z y
