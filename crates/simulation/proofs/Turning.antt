-- Between statements, in one mode.
use mathlib.Core.Path.{◌≡◌, refl, sym, ap, ap₂, ◌∙◌}
use mathlib.Core.List.{List}
use mathlib.Core.Bool.{Bool}
use mathlib.Core.Option.{Option, none, some}
use Prim.Native.Nat.{ℕ, ◌+◌, ◌≤◌}
use native.Mathlib.Omega.{arith}
use lib.ListN.{length}
use Rattle.text.specs.Text.{Text}
use Rattle.token.specs.Kind.{end_kind}
use Rattle.token.specs.Tokens.{Token, Lexeme}
use Rattle.grammar.specs.Productions.{Mode}
use Rattle.lexer.specs.Rest.{rest}
use Rattle.table.specs.Tables.{or_zero}
use Rattle.dataset.specs.Constructors.{nothing}
use Rattle.machine.specs.Memory.{Memory, Write}
use Rattle.machine.specs.Frame.{Open}
use Rattle.machine.specs.Rules.{find_rule, rules}
use Rattle.machine.specs.Refusals.{new_depth}
use Rattle.machine.specs.Step.{Room, State, first_refusal, awaited_by, tests, answer, step, stop, refused, at_end, onward, run}
use Rattle.machine.proofs.Firsts.{zero_none, number_some}
use Rattle.state.specs.Words.{kind_in, at_in, len_in, depth_in}
use Rattle.state.specs.Cursor.{remaining, TokenHere}
use Rattle.state.specs.Represents.{Tables, room_in}
use Rattle.simulation.specs.Simulation.{tables_of, here, Holding, goes, Ready, Same, Comes, Turns, refusal_here, token_refusal, Does}
use Rattle.state.specs.declared.Held.{Held}
use Rattle.simulation.proofs.Compose.{same_all, same_both, room_same}
use Rattle.simulation.proofs.Steps.{goes_step, tied_here, stopped_here, stopped_there, here_some, step_on, step_stop}
use Rattle.simulation.proofs.Frames.{ready_does}

module _ (mode : Mode) (doc : Text) where
  pub turns_comes : {I : Type 0} (F G : I → Open) (a b : Held) (r : ℕ) → Comes doc F G a b r → (i : I) → Turns mode doc (F i) (G i) a b r
  turns_comes F G a b r x i = record {
    same = x.same;
    ready = x.ready;
    later = x.later;
    on = λ e old m h. let o = x.on e mode old m h in record { after = o.after; holding = o.holding; same = o.same i };
    stop = λ z old m h. x.stop z mode old m h i;
  }

  pub turns_here : (o : Open) (a : Held) → Ready doc a → Turns mode doc o o a a 0
  turns_here o a r = record {
    same = same_all a;
    ready = λ e. r;
    later = λ e. omega arith;
    on = λ e old m h. record { after = m; holding = h; same = refl };
    stop = λ z old m h. absurd (z refl);
  }

  pub turns_then : (o p q : Open) (a b c : Held) (r s : ℕ) → Turns mode doc o p a b r → r ≡ 0 → Turns mode doc p q b c s → Turns mode doc o q a c s
  turns_then o p q a b c r s x z y = record {
    same = same_both a b c x.same y.same;
    ready = y.ready;
    later = λ e. omega (arith, x.later z, y.later e);
    on = λ e old m h.
        let u = x.on z old m h in
        let v = y.on e old u.after u.holding in
        record { after = v.after; holding = v.holding; same = u.same ∙ v.same };
    stop = λ e old m h. let u = x.on z old m h in u.same ∙ y.stop e old u.after u.holding;
  }

  pub turns_stop : (o p q : Open) (a b : Held) (r : ℕ) → Turns mode doc o p a b r → (r ≡ 0 → ⊥) → Turns mode doc o q a b r
  turns_stop o p q a b r x z = record { same = x.same; ready = λ e. absurd (z e); later = λ e. absurd (z e); on = λ e. absurd (z e); stop = x.stop }

  -- Nothing that is open takes what stands at the cursor.
  pub turns_none : (o p : Open) (a : Held) (r : ℕ) → Ready doc a → r ≡ refusal_here doc a.st → ((kind_in a.st ≡ end_kind → ⊥) → TokenHere doc a.st → (tied : Bool) → find_rule (here doc a).kind (rules (here doc a) tied mode o) ≡ none)
      → ((n : ℕ) (m : Memory) → at_end o n m ≡ refused 8 n) → Turns mode doc o p a a r
  turns_none o p a r ready e none_there ended = record {
    same = same_all a;
    ready = λ z. absurd (here_some doc a.st (sym e ∙ z));
    later = λ z. absurd (here_some doc a.st (sym e ∙ z));
    on = λ z. absurd (here_some doc a.st (sym e ∙ z));
    stop = λ z old m x. rw e (stopped_here doc a ready mode o m none_there ended);
  }

-- The same where the end of the document is told apart.
pub turns_none_but : (mode : Mode) (doc : Text) (o p : Open) (a : Held) (r : ℕ) → Ready doc a → r ≡ refusal_here doc a.st → ((kind_in a.st ≡ end_kind → ⊥) → TokenHere doc a.st → (tied : Bool) → find_rule (here doc a).kind (rules (here doc a) tied mode o) ≡ none)
    → (kind_in a.st ≡ end_kind → (n : ℕ) (m : Memory) → at_end o n m ≡ refused 8 n) → Turns mode doc o p a a r
turns_none_but mode doc o p a r ready e none_there ended = record {
  same = same_all a;
  ready = λ z. absurd (here_some doc a.st (sym e ∙ z));
  later = λ z. absurd (here_some doc a.st (sym e ∙ z));
  on = λ z. absurd (here_some doc a.st (sym e ∙ z));
  stop = λ z old m x. rw e (stopped_there doc a ready mode o m none_there ended);
}

step_rule : (mode : Mode) (room : Room) (s : State) (t : Token) (tied : Bool) (v : Write Open) → find_rule t.kind (rules t tied mode s.open_now) ≡ some v
    → step mode room s t tied ≡ answer (first_refusal (tests room s t (some v) (record { open_now = (v s.memory).0; depth = new_depth s.depth t; memory = (v s.memory).1 }))) t.start (record { open_now = (v s.memory).0; depth = new_depth s.depth t; memory = (v s.memory).1 })
unfolding step
step_rule mode room s t tied v e = rw e

goes_from : (mode : Mode) (doc : Text) (a b : Held) (o : Open) (m : Memory) → Same a b → depth_in b.st ≡ new_depth (depth_in a.st) (here doc a)
    → goes mode doc b o m ≡ run mode (room_in (tables_of a)) (length doc) (remaining doc b.st) (record { open_now = o; depth = new_depth (depth_in a.st) (here doc a); memory = m })
unfolding goes
goes_from mode doc a b o m s e = rw (room_same a b s, e)

-- A token that writes w, where the machine's tests for it answer r.
module _ (mode : Mode) (doc : Text) (o p : Open) (a b : Held) (r : ℕ) (h : TokenHere doc a.st) (z : kind_in a.st ≡ end_kind → ⊥) where
  -- What the rule makes of the state, and the tests.
  abbrev state_at : Memory → State
  state_at m = record { open_now = o; depth = depth_in a.st; memory = m }

  abbrev state_then : Write Open → Memory → State
  state_then v m = record { open_now = (v m).0; depth = new_depth (depth_in a.st) (here doc a); memory = (v m).1 }

  pub record TokenTurns (v : Write Open) : Type 0 where
    pub rule : find_rule (here doc a).kind (rules (here doc a) (tied_here doc a h z) mode o) ≡ some v
    pub same : Same a b
    pub refusal : (old : Tables) (m : Memory) → Holding old m a → r ≡ or_zero (first_refusal (tests (room_in (tables_of a)) (state_at m) (here doc a) (some v) (state_then v m)))
    pub place : (r ≡ 0 → ⊥) → at_in b.st ≡ at_in a.st
    pub ready : r ≡ 0 → Ready doc b
    pub later : r ≡ 0 → at_in a.st ≤ at_in b.st
    pub tokens : r ≡ 0 → rest doc (at_in a.st + len_in a.st) ≡ remaining doc b.st
    pub depth : r ≡ 0 → depth_in b.st ≡ new_depth (depth_in a.st) (here doc a)
    pub result : r ≡ 0 → (old : Tables) (m : Memory) → Holding old m a → (v m).0 ≡ p
    pub holding : r ≡ 0 → (old : Tables) (m : Memory) → Holding old m a → Holding old (v m).1 b

  pub turns_token : (v : Write Open) → TokenTurns v → Turns mode doc o p a b r
  turns_token v t = record {
    same = t.same;
    ready = t.ready;
    later = t.later;
    on = λ e old m x. record { after = (v m).1; holding = t.holding e old m x; same = on_one e old m x };
    stop = λ e old m x. stop_one e old m x;
  }
    where
      stepped : (m : Memory) → step mode (room_in (tables_of a)) (state_at m) (here doc a) (tied_here doc a h z) ≡ answer (first_refusal (tests (room_in (tables_of a)) (state_at m) (here doc a) (some v) (state_then v m))) (here doc a).start (state_then v m)
      stepped m = step_rule mode (room_in (tables_of a)) (state_at m) (here doc a) (tied_here doc a h z) v t.rule

      goes_then : (m : Memory) (e : r ≡ 0) → goes mode doc b p m ≡ run mode (room_in (tables_of a)) (length doc) (remaining doc b.st) (record { open_now = p; depth = new_depth (depth_in a.st) (here doc a); memory = m })
      goes_then m e = goes_from mode doc a b p m t.same (t.depth e)

      on_one : r ≡ 0 → (old : Tables) (m : Memory) → Holding old m a → goes mode doc a o m ≡ goes mode doc b p (v m).1
      on_one e old m x =
          goes_step doc a h z mode o m
          ∙ ap (onward _) (stepped m ∙ ap (λ (y : Option ℕ). answer y (here doc a).start (state_then v m)) (zero_none (tests (room_in (tables_of a)) (state_at m) (here doc a) (some v) (state_then v m)) refl (sym (t.refusal old m x) ∙ e)))
          ∙ ap₂ (λ (y : List Lexeme) (q : Open). run mode (room_in (tables_of a)) (length doc) y (record { open_now = q; depth = new_depth (depth_in a.st) (here doc a); memory = (v m).1 })) (t.tokens e) (t.result e old m x)
          ∙ sym (goes_then (v m).1 e)

      stop_one : (r ≡ 0 → ⊥) → (old : Tables) (m : Memory) → Holding old m a → goes mode doc a o m ≡ refused r (at_in b.st)
      stop_one e old m x =
          let same : r ≡ or_zero (first_refusal (tests (room_in (tables_of a)) (state_at m) (here doc a) (some v) (state_then v m))) = t.refusal old m x in
          goes_step doc a h z mode o m
          ∙ ap (onward _) (stepped m ∙ ap (λ (y : Option ℕ). answer y (here doc a).start (state_then v m)) (number_some (tests (room_in (tables_of a)) (state_at m) (here doc a) (some v) (state_then v m)) (λ y. e (same ∙ y))))
          ∙ ap₂ refused (sym same) (sym (t.place e))

-- A routine that does what a statement's rule says in this mode.
module _ (mode : Mode) (doc : Text) (w : Write ℕ) (o p : Open) (a b : Held) (r : ℕ) (ready : Ready doc a) (h : TokenHere doc a.st) (z : kind_in a.st ≡ end_kind → ⊥) (D : Does doc w a b r) (f : awaited_by o ≡ nothing) where
  pub turns_does : (v : Write Open) → find_rule (here doc a).kind (rules (here doc a) (tied_here doc a h z) mode o) ≡ some v → ((old : Tables) (m : Memory) → Holding old m a → ((v m).1 ≡ (w m).1) × (r ≡ 0 → (v m).0 ≡ p)) → Turns mode doc o p a b r
  turns_does v e q =
      record {
        same = D.same;
        ready = ready_does doc w a b r ready h z D;
        later = λ y. omega (arith, (D.done y).later);
        on = λ y old m x. record { after = (w m).1; holding = (D.done y).holding old m x; same = on_one y old m x };
        stop = λ y old m x. stop_one y old m x;
      }
    where
      on_one : r ≡ 0 → (old : Tables) (m : Memory) → Holding old m a → goes mode doc a o m ≡ goes mode doc b p (w m).1
      on_one y old m x =
          goes_step doc a h z mode o m
          ∙ ap (onward _) (step_on mode (room_in (tables_of a)) o (depth_in a.st) m (here doc a) (tied_here doc a h z) v e f (rw (q old m x).0 (sym (D.refusal old m x) ∙ y)))
          ∙ ap₂ (λ (l : List Lexeme) (s : State). run mode (room_in (tables_of a)) (length doc) l s) (D.done y).tokens
          (ap₂ (λ (u : Open) (m' : Memory). record { open_now = u; depth = new_depth (depth_in a.st) (here doc a); memory = m' }) ((q old m x).1 y) (q old m x).0)
          ∙ sym (goes_from mode doc a b p (w m).1 D.same (D.done y).depth)

      stop_one : (r ≡ 0 → ⊥) → (old : Tables) (m : Memory) → Holding old m a → goes mode doc a o m ≡ refused r (at_in b.st)
      stop_one y old m x =
          let same : r ≡ token_refusal (room_in (tables_of a)) (depth_in a.st) m.environment (here doc a) (v m).1 = D.refusal old m x ∙ rw (q old m x).0 in
          goes_step doc a h z mode o m
          ∙ ap (onward _) (step_stop mode (room_in (tables_of a)) o (depth_in a.st) m (here doc a) (tied_here doc a h z) v e f (λ g. y (same ∙ g)))
          ∙ ap₂ refused (sym same) (sym (D.place y))
