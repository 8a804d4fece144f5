-- The tables of an accepted document are such as the writer takes: a run keeps them so.
use mathlib.Core.Path.{◌≡◌, refl, sym, ap, ◌∙◌, subst}
use mathlib.Core.Logic.{inr}
use mathlib.Core.Bool.{Bool, true, false}
use mathlib.Core.List.{List, [], ◌∷◌}
use mathlib.Core.Option.{Option, none, some}
use Prim.Native.Nat.{ℕ}
use native.Mathlib.Omega.{arith}
use Rattle.text.specs.Text.{cond}
use Rattle.token.specs.Kind.{among, IRIREF, PNAME_NS, at_prefix, at_base, PREFIX, BASE, dot}
use Rattle.token.specs.Tokens.{Token, Lexeme, token, unreadable, tokens_of}
use Rattle.grammar.specs.Productions.{Mode}
use Rattle.environment.specs.Environment.{Environment}
use Rattle.dataset.specs.Constructors.{iri_of, nothing, awaiting}
use Rattle.table.proofs.Numbers.{not_none}
use Rattle.machine.specs.Memory.{Memory, with_environment, Write}
use Rattle.machine.specs.Frame.{Directive, prefix_name, namespace_of, new_base, last_dot, Open, directive, statement}
use Rattle.machine.specs.Refusals.{undeclared, no_base, too_long}
use Rattle.machine.specs.Rules.{find_rule, directive_rules, rules}
use Rattle.machine.specs.Step.{Room, State, first_refusal, awaited_by, obeyed, tests, answer, step, tied_to, Outcome, accepted, refused, at_end, onward, run}
use Rattle.machine.proofs.Made.{first_or_later}
use Rattle.machine.proofs.Firsts.{own_and_room, no_rule}
use Rattle.table.specs.Usable.{for_long_form}
use Rattle.readback.proofs.Kept.{more_same, Kept, Safe}
use Rattle.readback.proofs.Rules.{Told, safe_frame, safe_statement, OpenFine, found_safe}
use Rattle.readback.proofs.Iris.{Absolute, Declared, bound_absolute, Lexed, AllLexed, iriref_absolute, told}

-- ---- Every rule

-- What is open, and the memory.
pub record Stays (r : Open × Memory) : Type 0 where
  pub kept : Kept for_long_form r.1.environment r.1
  pub open_now : OpenFine r.1.terms r.0
  pub declared : Declared r.1.environment

module _ (t : Token) (tied : Bool) (m : Memory) (k : Kept for_long_form m.environment m) (d : Declared m.environment) where
  stays_safe : {w : Write Open} → Safe for_long_form m.environment m.terms OpenFine w → Stays (w m)
  stays_safe x =
      let r = x.run m (more_same m.terms) k in
      let c = r.kept in
      record {
        kept = record { terms = c.terms; rows = c.rows; graph = c.graph; same = refl };
        open_now = r.post;
        declared = subst Declared (sym c.same) d;
      }

  -- A directive leaves rows and terms.
  stays_with : (o : Open) (e : Environment) → Declared e → OpenFine m.terms o → Stays (o, with_environment e m)
  stays_with o e f h = record { kept = record { terms = k.terms; rows = k.rows; graph = k.graph; same = refl }; open_now = h; declared = f }

  stays_still : {v w : Write Open} → Stays (v m) → v ≡ w → Stays (w m)
  stays_still x e = subst (λ (u : Write Open). Stays (u m)) e x

  still : (o : Open) → OpenFine m.terms o → Stays (o, m)
  still o h = record { kept = k; open_now = h; declared = d }

  -- What follows a directive's last IRI.
  ended : (b : Bool) → OpenFine m.terms (cond b (directive last_dot) (statement []))
  ended true = tt
  ended false = tt

  stays_directive : (x : Directive) (w : Write Open) → (among (IRIREF ∷ []) t.kind ≡ true → Absolute (iri_of m.environment t)) → find_rule t.kind (directive_rules t tied x) ≡ some w → Stays (w m)
  stays_directive (prefix_name b) w a e = first_or_later (among (PNAME_NS ∷ []) t.kind) e (λ p y. stays_still (still (directive (namespace_of _ b)) tt) y) (λ z. not_none z)
  stays_directive (namespace_of q b) w a e =
      first_or_later (among (IRIREF ∷ []) t.kind) e
      (λ p y.
      stays_still
      (stays_with (cond b (directive last_dot) (statement [])) _
      (record { base = d.base; namespaces = bound_absolute q (iri_of m.environment t) (a p) m.environment.namespaces d.namespaces }) (ended b)) y) (λ z. not_none z)
  stays_directive (new_base b) w a e =
      first_or_later (among (IRIREF ∷ []) t.kind) e
      (λ p y. stays_still (stays_with (cond b (directive last_dot) (statement [])) _ (record { base = inr (a p); namespaces = d.namespaces }) (ended b)) y) (λ z. not_none z)
  stays_directive last_dot w a e = first_or_later (among (dot ∷ []) t.kind) e (λ p y. stays_still (still (statement []) tt) y) (λ z. not_none z)

  stays_rule : (mode : Mode) (o : Open) (w : Write Open) → OpenFine m.terms o → (awaited_by o ≡ nothing → Told m.environment t)
      → (among (IRIREF ∷ []) t.kind ≡ true → Absolute (iri_of m.environment t)) → find_rule t.kind (rules t tied mode o) ≡ some w → Stays (w m)
  unfolding rules
  stays_rule mode (directive x) w h f a e = stays_directive x w a e
  stays_rule mode (statement (g ∷ K)) w h f a e = stays_safe (found_safe t tied K h.1 (safe_frame t tied m.environment m.terms (f refl) g h.0) w e)
  stays_rule mode (statement []) w h f a e =
      first_or_later (among (at_prefix ∷ []) t.kind) e (λ p y. stays_still (still (directive (prefix_name true)) tt) y)
      (λ e₁.
      first_or_later (among (PREFIX ∷ []) t.kind) e₁ (λ p y. stays_still (still (directive (prefix_name false)) tt) y)
      (λ e₂.
      first_or_later (among (at_base ∷ []) t.kind) e₂ (λ p y. stays_still (still (directive (new_base true)) tt) y)
      (λ e₃.
      first_or_later (among (BASE ∷ []) t.kind) e₃ (λ p y. stays_still (still (directive (new_base false)) tt) y)
      (λ e₄. stays_safe (found_safe t tied [] tt (safe_statement t tied m.environment m.terms (f refl) mode) w e₄)))))

-- ---- A run

refused_not : {X : Type 0} {c p : ℕ} {M : Memory} → refused c p ≡ accepted M → X
refused_not e = let z : ◌≡◌ {A = ℕ} 0 1 = cc in absurd (omega arith)

went_on : (f : State → Outcome) (o : Option ℕ) (at : ℕ) (s : State) (M : Memory) → onward f (answer o at s) ≡ accepted M → (o ≡ none) × (f s ≡ accepted M)
went_on f none at s M e = (refl, e)
went_on f (some n) at s M e = refused_not e

at_last : (o : Open) (n : ℕ) (m M : Memory) → at_end o n m ≡ accepted M → m ≡ M
at_last (directive d) n m M e = refused_not e
at_last (statement []) n m M e = cc
at_last (statement (f ∷ k)) n m M e = refused_not e

module _ (mode : Mode) (room : Room) (n : ℕ) where
  stays_step : (s : State) (t : Token) (tied : Bool) (r : Option (Write Open)) → find_rule t.kind (rules t tied mode s.open_now) ≡ r → Lexed t → Stays (s.open_now, s.memory)
      → first_refusal (tests room s t r (obeyed r t s)) ≡ none → Stays ((obeyed r t s).open_now, (obeyed r t s).memory)
  stays_step s t tied none e l x f = no_rule room s t f
  stays_step s t tied (some w) e l x f =
      let m = s.memory in
      let (own, (force, fits)) = (own_and_room room s t w (obeyed (some w) t s)).0 f in
      let c = own.0 in
      let (u, (b, (i, rest))) = force in
      stays_rule t tied m x.kept x.declared mode s.open_now w x.open_now
      (λ a.
      told m.environment t x.declared l c (ap (λ z. undeclared (awaiting z m.environment) t) (sym a) ∙ u) (ap (λ z. no_base (awaiting z m.environment) t) (sym a) ∙ b)
      (ap (λ z. too_long (awaiting z m.environment) t) (sym a) ∙ i))
      (λ k. iriref_absolute m.environment t x.declared l c (awaited_by s.open_now) b k) e

  pub stays_run : (ls : List Lexeme) (s : State) (M : Memory) → AllLexed (tokens_of ls) → Stays (s.open_now, s.memory) → run mode room n ls s ≡ accepted M → Kept for_long_form M.environment M
  unfolding run step tokens_of
  stays_run [] s M l x e = subst (λ (m : Memory). Kept for_long_form m.environment m) (at_last s.open_now n s.memory M e) x.kept
  stays_run (unreadable p ∷ ls) s M l x e = refused_not e
  stays_run (token t ∷ ls) s M l x e =
      let r = find_rule t.kind (rules t (tied_to ls) mode s.open_now) in
      let (f, g) = went_on (λ s'. run mode room n ls s') (first_refusal (tests room s t r (obeyed r t s))) t.start (obeyed r t s) M e in
      stays_run ls (obeyed r t s) M l.1 (stays_step s t (tied_to ls) r refl l.0 x f) g
