-- What the machine does at the token of the cursor.
use mathlib.Core.Path.{◌≡◌, refl, sym, ap, ap₂, ◌∙◌}
use mathlib.Core.List.{List, ◌∷◌, ◌++◌}
use mathlib.Core.Bool.{Bool, true, false, ◌&&◌}
use mathlib.Core.Option.{Option, none, some}
use Prim.Native.Nat.{ℕ, ◌+◌, ◌-◌, ◌≤◌}
use native.Mathlib.Omega.{arith}
use borrow.Author.Tests.{ne_eqb, leb-false, eqb-true, eqb-false}
use lib.Dec.{eqb}
use lib.ListN.{length, take, drop}
use Rattle.text.specs.Text.{Text, cond}
use Rattle.text.proofs.Compare.{by}
use Rattle.token.specs.Kind.{last_kind, end_kind, unreadable_kind, kind_of_code, IRIREF, strings}
use Rattle.token.specs.Tokens.{Token, Lexeme, token}
use Rattle.escape.specs.Escape.{bad_escape}
use Rattle.lexer.specs.Rest.{rest}
use Rattle.grammar.specs.Productions.{Mode}
use Rattle.dataset.specs.Constructors.{nothing, awaiting}
use Rattle.machine.specs.Memory.{Memory, Write}
use Rattle.machine.specs.Frame.{Open}
use Rattle.machine.specs.Rules.{find_rule, rules}
use Rattle.machine.specs.Refusals.{no_character, one_prefix_more, too_deep, new_depth, opens, closes, escape_tests, iri_tests, depth_tests, room_tests}
use Rattle.machine.specs.Step.{Room, State, first_refusal, awaited_by, go, stop, tests, answer, step, tied_to, refused, at_end, onward, run}
use Rattle.machine.proofs.Firsts.{passes_each, zero_none, zero_passes, number_some}
use Rattle.state.specs.Words.{kind_in, at_in, len_in, depth_in}
use Rattle.state.specs.Cursor.{remaining, TokenHere}
use Rattle.state.specs.Represents.{Tables, room_in}
use Rattle.cursor.proofs.Seeking.{ahead_token, ahead_none, ahead_end}
use Rattle.simulation.specs.Simulation.{tables_of, here, Holding, goes, Ready, Comes, token_tests, token_refusal, Does, escaped_kind, refusal_here}
use Rattle.state.specs.declared.Held.{Held}
use Rattle.simulation.proofs.Tests.{among_code}
use Rattle.simulation.proofs.Compose.{same_all, room_same}
use Rattle.limits.specs.Limits.{depth_limit}

-- ---- One step where a rule is there

module _ (mode : Mode) (room : Room) (o : Open) (depth : ℕ) (m : Memory) (t : Token) (tied : Bool) (v : Write Open)
    (e : find_rule t.kind (rules t tied mode o) ≡ some v) (f : awaited_by o ≡ nothing) where
  abbrev now_state : State
  now_state = record { open_now = o; depth = depth; memory = m }

  abbrev then_state : State
  then_state = record { open_now = (v m).0; depth = new_depth depth t; memory = (v m).1 }

  -- 8 and 12 do not apply.
  tests_short : first_refusal (tests room now_state t (some v) then_state) ≡ first_refusal (token_tests room depth m.environment t (v m).1)
  unfolding one_prefix_more
  tests_short = rw f

  step_tests : step mode room now_state t tied ≡ answer (first_refusal (token_tests room depth m.environment t (v m).1)) t.start then_state
  unfolding step
  step_tests = rw e (ap (λ (x : Option ℕ). answer x t.start then_state) tests_short)

  pub step_on : token_refusal room depth m.environment t (v m).1 ≡ 0 → step mode room now_state t tied ≡ go then_state
  unfolding token_refusal
  step_on z = step_tests ∙ ap (λ (x : Option ℕ). answer x t.start then_state) (zero_none (token_tests room depth m.environment t (v m).1) refl z)

  pub step_stop : (token_refusal room depth m.environment t (v m).1 ≡ 0 → ⊥) → step mode room now_state t tied ≡ stop (token_refusal room depth m.environment t (v m).1) t.start
  unfolding token_refusal
  step_stop z = step_tests ∙ ap (λ (x : Option ℕ). answer x t.start then_state) (number_some (token_tests room depth m.environment t (v m).1) z)

-- ---- The run at the cursor

module _ (doc : Text) (a : Held) (h : TokenHere doc a.st) (z : kind_in a.st ≡ end_kind → ⊥) where
  left_here : remaining doc a.st ≡ token (here doc a) ∷ rest doc (at_in a.st + len_in a.st)
  left_here = ahead_token doc (kind_in a.st) (at_in a.st) (len_in a.st) z h.known

  -- A tag or ^^ follows the token.
  abbrev pub tied_here : Bool
  tied_here = tied_to (rest doc (at_in a.st + len_in a.st))

  pub goes_step : (mode : Mode) (o : Open) (m : Memory)
      → goes mode doc a o m
      ≡ onward (λ s'. run mode (room_in (tables_of a)) (length doc) (rest doc (at_in a.st + len_in a.st)) s')
      (step mode (room_in (tables_of a)) (record { open_now = o; depth = depth_in a.st; memory = m }) (here doc a) tied_here)
  unfolding goes run
  goes_step mode o m = rw left_here

-- A routine that does what the rule at the token says.
module _ {I : Type 0} (doc : Text) (w : Write ℕ) (F G : I → Open) (a b : Held) (r : ℕ) (ready : Ready doc a) (h : TokenHere doc a.st) (z : kind_in a.st ≡ end_kind → ⊥) (D : Does doc w a b r) (f : (i : I) → awaited_by (F i) ≡ nothing) where
  abbrev pub RuleDoes : Type 0
  RuleDoes = (mode : Mode) (i : I) → (v : Write Open) × ((find_rule (here doc a).kind (rules (here doc a) (tied_here doc a h z) mode (F i)) ≡ some v) × ((old : Tables) (m : Memory) → Holding old m a → ((v m).1 ≡ (w m).1) × (r ≡ 0 → (v m).0 ≡ G i)))

  depth_kept : r ≡ 0 → (m : Memory) (old : Tables) → Holding old m a → depth_in b.st ≤ depth_limit
  unfolding new_depth token_refusal too_deep
  depth_kept e m old x =
      let d = (D.done e).depth in
      let t = here doc a in
      let before = escape_tests t ++ iri_tests (awaiting nothing m.environment) t in
      let after = depth_tests (depth_in a.st) t ++ room_tests (room_in (tables_of a)) (w m).1 in
      let q = (passes_each before after (zero_passes (before ++ after) refl (sym (D.refusal old m x) ∙ e))).1.0 in
      by (opens t)
      (λ p. omega (arith, leb-false depth_limit (depth_in a.st) (rw p at q), rw p at d))
      (λ p. by (closes t) (λ y. let k = rw (p, y) at d in omega (arith, k, ready.depth)) (λ y. let k = rw (p, y) at d in omega (arith, k, ready.depth)))

  pub does_ready : r ≡ 0 → Ready doc b
  does_ready e =
      let (old, (m, x)) = ready.holds in
      record { cursor = (D.done e).cursor; holds = (old, ((w m).1, (D.done e).holding old m x)); depth = depth_kept e m old x }

  goes_now : (mode : Mode) (o : Open) (m : Memory) (e : r ≡ 0)
      → goes mode doc b o m ≡ run mode (room_in (tables_of a)) (length doc) (remaining doc b.st) (record { open_now = o; depth = new_depth (depth_in a.st) (here doc a); memory = m })
  unfolding goes
  goes_now mode o m e = rw (room_same a b D.same, (D.done e).depth)

  pub does_comes : RuleDoes → Comes doc F G a b r
  does_comes rule = record {
    same = D.same;
    ready = does_ready;
    later = λ e. omega (arith, (D.done e).later);
    on = λ e mode old m x.
        record { after = (w m).1; holding = (D.done e).holding old m x; same = λ i. on_one e mode old m x i (rule mode i) };
    stop = λ e mode old m x i. stop_one e mode old m x i (rule mode i);
  }
    where
      on_one : r ≡ 0 → (mode : Mode) (old : Tables) (m : Memory) → Holding old m a → (i : I)
          → (v : Write Open) × ((find_rule (here doc a).kind (rules (here doc a) (tied_here doc a h z) mode (F i)) ≡ some v) × ((old : Tables) (m : Memory) → Holding old m a → ((v m).1 ≡ (w m).1) × (r ≡ 0 → (v m).0 ≡ G i)))
          → goes mode doc a (F i) m ≡ goes mode doc b (G i) (w m).1
      on_one e mode old m x i (v, (p, q)) =
          goes_step doc a h z mode (F i) m
          ∙ ap (onward _) (step_on mode (room_in (tables_of a)) (F i) (depth_in a.st) m (here doc a) (tied_here doc a h z) v p (f i) (rw (q old m x).0 (sym (D.refusal old m x) ∙ e)))
          ∙ gone ((q old m x).1 e) (q old m x).0
        where
          gone : (v m).0 ≡ G i → (v m).1 ≡ (w m).1 → run mode (room_in (tables_of a)) (length doc) (rest doc (at_in a.st + len_in a.st)) (record { open_now = (v m).0; depth = new_depth (depth_in a.st) (here doc a); memory = (v m).1 }) ≡ goes mode doc b (G i) (w m).1
          gone y y' =
              ap₂ (λ (x : List Lexeme) (s : State). run mode (room_in (tables_of a)) (length doc) x s) (D.done e).tokens
              (ap₂ (λ (o : Open) (m' : Memory). record { open_now = o; depth = new_depth (depth_in a.st) (here doc a); memory = m' }) y y')
              ∙ sym (goes_now mode (G i) (w m).1 e)

      stop_one : (r ≡ 0 → ⊥) → (mode : Mode) (old : Tables) (m : Memory) → Holding old m a → (i : I)
          → (v : Write Open) × ((find_rule (here doc a).kind (rules (here doc a) (tied_here doc a h z) mode (F i)) ≡ some v) × ((old : Tables) (m : Memory) → Holding old m a → ((v m).1 ≡ (w m).1) × (r ≡ 0 → (v m).0 ≡ G i)))
          → goes mode doc a (F i) m ≡ refused r (at_in b.st)
      stop_one e mode old m x i (v, (p, q)) =
          let same : r ≡ token_refusal (room_in (tables_of a)) (depth_in a.st) m.environment (here doc a) (v m).1 = D.refusal old m x ∙ rw (q old m x).0 in
          goes_step doc a h z mode (F i) m
          ∙ ap (onward _) (step_stop mode (room_in (tables_of a)) (F i) (depth_in a.st) m (here doc a) (tied_here doc a h z) v p (f i) (λ y. e (same ∙ y)))
          ∙ ap₂ refused (sym same) (sym (D.place e))

-- ---- Where no rule is there

-- A token of a kind that may hold escapes and names no character, by its number.
no_character_code : (t : Token) (k : ℕ) → t.kind ≡ kind_of_code k → (k ≡ end_kind → ⊥) → k ≤ last_kind → no_character t ≡ (escaped_kind k && bad_escape t.text)
unfolding no_character
no_character_code t k e z h = rw (e, among_code (IRIREF ∷ strings) k z h)

-- The refusal by what stands at the cursor.
pub here_unread : (doc : Text) (st : List ℕ) → kind_in st ≡ unreadable_kind → 6 ≡ refusal_here doc st
unfolding refusal_here
here_unread doc st e = rw e

pub here_seven : (doc : Text) (st : List ℕ) (x y : Bool) (end : ℕ) → (kind_in st ≡ unreadable_kind → ⊥) → x ≡ escaped_kind (kind_in st) → x ≡ true → end ≡ at_in st + len_in st
    → y ≡ bad_escape (take (end - at_in st) (drop (at_in st) doc)) → y ≡ true → 7 ≡ refusal_here doc st
unfolding refusal_here
here_seven doc st x y end z e f g b t =
    let n : len_in st ≡ end - at_in st = omega arith in
    rw (ne_eqb (kind_in st) unreadable_kind z, ← e, f, n, ← b, t)

pub here_eight : (doc : Text) (st : List ℕ) (x y : Bool) (end : ℕ) → (kind_in st ≡ unreadable_kind → ⊥) → x ≡ escaped_kind (kind_in st) → x ≡ true → end ≡ at_in st + len_in st
    → y ≡ bad_escape (take (end - at_in st) (drop (at_in st) doc)) → y ≡ false → 8 ≡ refusal_here doc st
unfolding refusal_here
here_eight doc st x y end z e f g b t =
    let n : len_in st ≡ end - at_in st = omega arith in
    rw (ne_eqb (kind_in st) unreadable_kind z, ← e, f, n, ← b, t)

pub here_plain : (doc : Text) (st : List ℕ) (x : Bool) → (kind_in st ≡ unreadable_kind → ⊥) → x ≡ escaped_kind (kind_in st) → x ≡ false → 8 ≡ refusal_here doc st
unfolding refusal_here
here_plain doc st x z e f = rw (ne_eqb (kind_in st) unreadable_kind z, ← e, f)

here_end : (doc : Text) (st : List ℕ) → kind_in st ≡ end_kind → 8 ≡ refusal_here doc st
unfolding refusal_here
here_end doc st e = rw e

pub here_some : (doc : Text) (st : List ℕ) → refusal_here doc st ≡ 0 → ⊥
unfolding refusal_here
here_some doc st e = go (eqb (kind_in st) unreadable_kind) (escaped_kind (kind_in st) && bad_escape (take (len_in st) (drop (at_in st) doc))) e
  where
    go : (x y : Bool) → ◌≡◌ {A = ℕ} (cond x 6 (cond y 7 8)) 0 → ⊥
    go true y e = omega arith
    go false true e = omega arith
    go false false e = omega arith

module _ (doc : Text) (a : Held) (mode : Mode) (o : Open) (m : Memory) where
  goes_unread : kind_in a.st ≡ unreadable_kind → goes mode doc a o m ≡ refused (refusal_here doc a.st) (at_in a.st)
  unfolding goes run
  goes_unread p = rw (p, ahead_none doc (at_in a.st) (len_in a.st)) (ap (λ (x : ℕ). refused x (at_in a.st)) (here_unread doc a.st p))

  pub goes_ended : kind_in a.st ≡ end_kind → goes mode doc a o m ≡ at_end o (length doc) m
  unfolding goes run
  goes_ended p = rw (p, ahead_end doc (at_in a.st) (len_in a.st))

step_none : (mode : Mode) (room : Room) (o : Open) (depth : ℕ) (m : Memory) (t : Token) (tied : Bool) → find_rule t.kind (rules t tied mode o) ≡ none
    → step mode room (record { open_now = o; depth = depth; memory = m }) t tied ≡ stop (cond (no_character t) 7 8) t.start
unfolding step
step_none mode room o depth m t tied e = rw e (by (no_character t) (λ p. rw p) (λ p. rw p))

here_token : (doc : Text) (a : Held) → TokenHere doc a.st → (kind_in a.st ≡ end_kind → ⊥) → (kind_in a.st ≡ unreadable_kind → ⊥) → refusal_here doc a.st ≡ cond (no_character (here doc a)) 7 8
unfolding refusal_here
here_token doc a h p q = rw (ne_eqb (kind_in a.st) unreadable_kind q, no_character_code (here doc a) (kind_in a.st) refl p h.known)

-- Where nothing that is open takes what stands at the cursor, the machine refuses it.
module _ (doc : Text) (a : Held) (ready : Ready doc a) (mode : Mode) (o : Open) (m : Memory) where
  pub stopped_there : ((kind_in a.st ≡ end_kind → ⊥) → TokenHere doc a.st → (tied : Bool) → find_rule (here doc a).kind (rules (here doc a) tied mode o) ≡ none) → (kind_in a.st ≡ end_kind → (n : ℕ) (m : Memory) → at_end o n m ≡ refused 8 n)
      → goes mode doc a o m ≡ refused (refusal_here doc a.st) (at_in a.st)
  stopped_there none_there ended =
      by (eqb (kind_in a.st) unreadable_kind) (λ p. goes_unread doc a mode o m (eqb-true (kind_in a.st) unreadable_kind p))
      (λ p. by (eqb (kind_in a.st) end_kind) (λ q. at_the_end (eqb-true (kind_in a.st) end_kind q)) (λ q. at_token (eqb-false (kind_in a.st) end_kind q) (eqb-false (kind_in a.st) unreadable_kind p)))
    where
      at_the_end : kind_in a.st ≡ end_kind → goes mode doc a o m ≡ refused (refusal_here doc a.st) (at_in a.st)
      at_the_end p = goes_ended doc a mode o m p ∙ ended p (length doc) m ∙ ap₂ refused (here_end doc a.st p) (sym (ready.cursor.at_end p))

      at_token : (kind_in a.st ≡ end_kind → ⊥) → (kind_in a.st ≡ unreadable_kind → ⊥) → goes mode doc a o m ≡ refused (refusal_here doc a.st) (at_in a.st)
      at_token p q =
          let h = ready.cursor.token p q in
          goes_step doc a h p mode o m
          ∙ ap (onward _) (step_none mode (room_in (tables_of a)) o (depth_in a.st) m (here doc a) (tied_here doc a h p) (none_there p h (tied_here doc a h p)))
          ∙ ap (λ (x : ℕ). refused x (at_in a.st)) (sym (here_token doc a h p q))

  pub stopped_here : ((kind_in a.st ≡ end_kind → ⊥) → TokenHere doc a.st → (tied : Bool) → find_rule (here doc a).kind (rules (here doc a) tied mode o) ≡ none) → ((n : ℕ) (m : Memory) → at_end o n m ≡ refused 8 n)
      → goes mode doc a o m ≡ refused (refusal_here doc a.st) (at_in a.st)
  stopped_here none_there ended = stopped_there none_there (λ z. ended)

module _ {I : Type 0} (doc : Text) (F G : I → Open) (a : Held) (ready : Ready doc a) where
  -- Nothing that is open takes what stands at the cursor.
  pub record NoRule : Type 0 where
    pub token : (kind_in a.st ≡ end_kind → ⊥) → TokenHere doc a.st → (mode : Mode) (i : I) (tied : Bool) → find_rule (here doc a).kind (rules (here doc a) tied mode (F i)) ≡ none
    pub ended : (i : I) (n : ℕ) (m : Memory) → at_end (F i) n m ≡ refused 8 n

  pub refused_comes : (r : ℕ) → r ≡ refusal_here doc a.st → NoRule → Comes doc F G a a r
  refused_comes r e none_there = record {
    same = same_all a;
    ready = λ z. absurd (here_some doc a.st (sym e ∙ z));
    later = λ z. absurd (here_some doc a.st (sym e ∙ z));
    on = λ z. absurd (here_some doc a.st (sym e ∙ z));
    stop = λ z mode old m x i. rw e (stopped_here doc a ready mode (F i) m (λ p h tied. none_there.token p h mode i tied) (λ n m'. none_there.ended i n m'));
  }
