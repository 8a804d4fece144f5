-- The parts of a directive, and the directive.
use mathlib.Core.Path.{◌≡◌, refl, sym, ap, ◌∙◌, subst}
use mathlib.Core.List.{List, [], ◌∷◌}
use mathlib.Core.Bool.{Bool, true, false}
use mathlib.Core.Option.{none, some}
use Prim.Native.Nat.{ℕ, ◌+◌, ◌-◌, ◌≤◌, ◌<◌}
use native.Mathlib.Omega.{arith}
use borrow.Author.Tests.{ne_eqb, le-ltb, lt-ltb}
use lib.Dec.{ltb}
use lib.ListN.{length, take, drop, length-drop}
use lib.Seq.{length-take-le}
use denote.Ref.{MutBor, at_last}
use Rattle.text.specs.Text.{Text, cond}
use Rattle.token.specs.Kind.{Kind, kind_code, end_kind, kind_of_code, IRIREF, PNAME_NS, dot}
use Rattle.token.specs.Tokens.{Token}
use Rattle.grammar.specs.Productions.{Mode, trig}
use Rattle.environment.specs.Environment.{Environment, declare, set_base}
use Rattle.environment.specs.Code.{environment_in, Beside}
use Rattle.dataset.specs.Constructors.{prefix, iri_of, awaiting, namespace_of as namespace_awaited, new_base as base_awaited}
use Rattle.table.specs.Tables.{or_zero}
use Rattle.machine.specs.Memory.{Memory, Write, return, in_environment}
use Rattle.machine.specs.Frame.{Directive, prefix_name, namespace_of, new_base, last_dot, Open, directive, statement}
use Rattle.machine.specs.Rules.{◌⇒◌, find_rule, rules}
use Rattle.machine.specs.Refusals.{new_depth}
use Rattle.machine.specs.Step.{Room, State, first_refusal, awaited_by, tests}
use Rattle.machine.proofs.Firsts.{fits_passes, passes_fits}
use Rattle.machine.specs.Demand.{Fits}
use Rattle.state.specs.Words.{depth_word, kind_in, at_in, len_in, depth_in, graph_in}
use Rattle.state.specs.Cursor.{TokenHere}
use Rattle.state.specs.Represents.{Tables, room_in}
use Rattle.token_iri.specs.Tests.{token_as, iri_refusal, namespace_refusal}
use Rattle.token_iri.specs.Addresses.{Leaves, DeclaresNamespace, DeclaresBase}
use Rattle.simulation.specs.Simulation.{held, tables_of, here, Holding, Ready, Turns, refusal_here}
use Rattle.state.specs.declared.Held.{Held}
use Rattle.simulation.proofs.Tests.{among_code}
use Rattle.simulation.proofs.Turning.{turns_then, turns_stop, turns_none}
use Rattle.nodes.specs.Nodes.{Passed}
use Rattle.nodes.proofs.Passing.{Quiet}
use Rattle.directives.specs.Directives.{Prefixed, Finishes, Directs}
use Rattle.directives.proofs.Refusing.{quiet_tests, name_tests, namespace_tests, base_tests}
use Rattle.directives.proofs.Stepping.{Flat, turns_passed, turns_refused, turns_declined, turns_set}
use Rattle.limits.specs.Limits.{prefix_limit}

abbrev state : Open → ℕ → Memory → State
state o depth m = record { open_now = o; depth = depth; memory = m }

-- Each part awaits tokens of one kind.
abbrev Awaits : Directive → Kind → (Token → Write Open) → Type 0
Awaits d j w = (mode : Mode) (t : Token) (tied : Bool) → rules t tied mode (directive d) ≡ (j ∷ [] ⇒ w t) ∷ []

-- What stands at the cursor is not of that kind.
finishes_none : (doc : Text) (d : Directive) (j : Kind) (w : Token → Write Open) → Awaits d j w → (work : MutBor (List ℕ)) (st : List ℕ) (r : ℕ) → (kind_in st ≡ kind_code j → ⊥) → r ≡ refusal_here doc st → Finishes doc (directive d) work work st st r
finishes_none doc d j w awaits work st r k e =
    record {
      turns = λ mode rows terms store ready. turns_none mode doc (directive d) (statement []) (held work rows terms store st) r ready e (λ z h tied. none_there mode (held work rows terms store st) refl z h tied) (λ n m. refl);
      depth = λ z. refl;
    }
  where
    none_there : (mode : Mode) (a : Held) → a.st ≡ st → (kind_in st ≡ end_kind → ⊥) → TokenHere doc st → (tied : Bool) → find_rule (kind_of_code (kind_in st)) (rules (here doc a) tied mode (directive d)) ≡ none
    none_there mode a s z h tied = rw (awaits mode (here doc a) tied, among_code (j ∷ []) (kind_in st) z h.known, ne_eqb (kind_in st) (kind_code j) k)

-- ---- The dot

dot_awaits : Awaits last_dot dot (λ t. return (statement []))
unfolding rules
dot_awaits mode t tied = refl

quiet_dot : Quiet (kind_code dot)
quiet_dot = record { escapes = refl; reference = refl; name = refl; opening = refl }

flat_dot : Flat 19
flat_dot = record { opening = refl; closing = refl; low = λ z. omega arith; high = λ z. omega arith }

module _ (doc : Text) (st : List ℕ) where
  pub dot_none : (r : ℕ) → (kind_in st ≡ kind_code dot → ⊥) → r ≡ refusal_here doc st → (work : MutBor (List ℕ)) → Finishes doc (directive last_dot) work work st st r
  dot_none r k e work = finishes_none doc last_dot dot (λ t. return (statement [])) dot_awaits work st r k e

  pub dot_done : (st' : List ℕ) → kind_in st ≡ kind_code dot → Passed doc st st' (depth_in st) (graph_in st) → (work : MutBor (List ℕ)) → Finishes doc (directive last_dot) work work st st' 0
  dot_done st' k p work =
      record {
        turns = λ mode rows terms store ready.
            turns_passed mode doc (directive last_dot) (statement []) work rows terms store st ready 19 k flat_dot
            (λ tied. ap (find_rule dot) (dot_awaits mode (here doc (held work rows terms store st)) tied)) st' p
            (λ old m h. dot_tests old m (held work rows terms store st) refl h);
        depth = λ z. p.depth_is;
      }
    where
      dot_tests : (old : Tables) (m : Memory) (a : Held) → a.st ≡ st → Holding old m a → 0 ≡ or_zero (first_refusal (tests (room_in (tables_of a)) (state (directive last_dot) (depth_in a.st) m) (here doc a) (some (return (statement []))) (state (statement []) (new_depth (depth_in a.st) (here doc a)) m)))
      dot_tests old m a s h =
          quiet_tests (room_in (tables_of a)) (state (directive last_dot) (depth_in a.st) m) (return (statement [])) (state (statement []) (new_depth (depth_in a.st) (here doc a)) m) h.fits
          (here doc a) (kind_code dot) (ap (λ (l : List ℕ). kind_of_code (kind_in l)) s ∙ ap kind_of_code k) quiet_dot refl

-- ---- The IRIREF that changes what is in force

abbrev behind : Bool → Open
behind dotted = cond dotted (directive last_dot) (statement [])

-- What is in force after the token t, and the refusal at it.
module _ (f : Token → Environment → Environment) (ref : Environment → Token → ℕ) where
  record Sets (token work work' : Text) (st st' : List ℕ) (r : ℕ) : Type 0 where
    refusal : (at : ℕ) → r ≡ ref (environment_in work st) (token_as 1 at token)
    leaves : r ≡ 0 → (at : ℕ) → Leaves (f (token_as 1 at token) (environment_in work st)) work' st'
    beside : Beside work work' st st'
    words : length st' ≡ length st

  flat_iri : Flat 1
  flat_iri = record { opening = refl; closing = refl; low = λ z. omega arith; high = λ z. omega arith }

  module _ (doc : Text) (d : Directive) (dotted : Bool) (awaits : Awaits d IRIREF (λ t m. (behind dotted, (in_environment (f t m.environment) m).1)))
      (tested : (room : Room) (s : State) (v : Write Open) (s' : State) → Fits room s'.memory → (at : ℕ) (x : Text) → s.open_now ≡ directive d → ref s.memory.environment (token_as 1 at x) ≡ or_zero (first_refusal (tests room s (token_as 1 at x) (some v) s')))
      (work : MutBor (List ℕ)) (work' : List ℕ) (st st' : List ℕ) (r : ℕ) (k : kind_in st ≡ kind_code IRIREF) (S : Sets (take (len_in st) (drop (at_in st) doc)) work.now work' st st' r) where
    module _ (mode : Mode) (rows terms store : MutBor (List ℕ)) (ready : Ready doc (held work rows terms store st)) where
      abbrev a : Held
      a = held work rows terms store st

      here_iri : here doc a ≡ token_as 1 (at_in st) (take (len_in st) (drop (at_in st) doc))
      here_iri = ap (λ (i : ℕ). token_as i (at_in st) (take (len_in st) (drop (at_in st) doc))) k

      abbrev v : Write Open
      v m = (behind dotted, (in_environment (f (here doc a) m.environment) m).1)

      rule : (tied : Bool) → find_rule IRIREF (rules (here doc a) tied mode (directive d)) ≡ some v
      rule tied = ap (find_rule IRIREF) (awaits mode (here doc a) tied)

      left : r ≡ 0 → Leaves (f (here doc a) (environment_in work.now st)) work' st'
      left z = subst (λ (t : Token). Leaves (f t (environment_in work.now st)) work' st') (sym here_iri) (S.leaves z (at_in st))

      refuses : (old : Tables) (m : Memory) → Holding old m a → (v : Write Open) (s s' : State) → s.open_now ≡ directive d → s.memory ≡ m → Fits (room_in (tables_of a)) s'.memory → r ≡ or_zero (first_refusal (tests (room_in (tables_of a)) s (here doc a) (some v) s'))
      refuses old m h v s s' o em fits =
          S.refusal (at_in st)
          ∙ (ap (λ (e : Environment). ref e (token_as 1 (at_in st) (take (len_in st) (drop (at_in st) doc)))) (h.environment ∙ ap (λ (x : Memory). x.environment) (sym em))
          ∙ (tested (room_in (tables_of a)) s v s' fits (at_in st) (take (len_in st) (drop (at_in st) doc)) o
          ∙ ap (λ (t : Token). or_zero (first_refusal (tests (room_in (tables_of a)) s t (some v) s'))) (sym here_iri)))

      turns_no : (r ≡ 0 → ⊥) → Turns mode doc (directive d) (statement []) a (held (at_last work work') rows terms store st') r
      turns_no z =
          turns_stop mode doc (directive d) (behind dotted) (statement []) a (held (at_last work work') rows terms store st') r
          (turns_declined mode doc (directive d) (behind dotted) work rows terms store st ready 1 k flat_iri (f (here doc a)) rule work' st' r S.beside S.words left
          (λ old m h. refuses old m h v (state (directive d) (depth_in st) m) (state (behind dotted) (new_depth (depth_in st) (here doc a)) (v m).1) refl refl (passes_fits (room_in (tables_of a)) (v m).1 (fits_passes (room_in (tables_of a)) m h.fits))) z)
          z

      turns_on : r ≡ 0 → (st'' : List ℕ) → Passed doc st' st'' (depth_in st') (graph_in st') → Turns mode doc (directive d) (behind dotted) a (held (at_last work work') rows terms store st'') 0
      turns_on z st'' p =
          turns_set mode doc (directive d) (behind dotted) work rows terms store st ready 1 k flat_iri (f (here doc a)) rule work' st' r S.beside S.words left
          (λ old m h. refuses old m h v (state (directive d) (depth_in st) m) (state (behind dotted) (new_depth (depth_in st) (here doc a)) (v m).1) refl refl (passes_fits (room_in (tables_of a)) (v m).1 (fits_passes (room_in (tables_of a)) m h.fits))) z st'' p

    iri_refused : (r ≡ 0 → ⊥) → Finishes doc (directive d) work (at_last work work') st st' r
    iri_refused z = record { turns = λ mode rows terms store ready. turns_no mode rows terms store ready z; depth = λ y. absurd (z y) }

    module _ (z : r ≡ 0) (st'' : List ℕ) (p : Passed doc st' st'' (depth_in st') (graph_in st')) where
      iri_ends : dotted ≡ false → Finishes doc (directive d) work (at_last work work') st st'' 0
      iri_ends e =
          record {
            turns = λ mode rows terms store ready.
                subst (λ (b : Bool). Turns mode doc (directive d) (behind b) (held work rows terms store st) (held (at_last work work') rows terms store st'') 0) e (turns_on mode rows terms store ready z st'' p);
            depth = λ y. p.depth_is ∙ S.beside.own depth_word (omega arith);
          }

      iri_dot : dotted ≡ true → (st₃ : List ℕ) (q : ℕ) → ((w : MutBor (List ℕ)) → Finishes doc (directive last_dot) w w st'' st₃ q) → Finishes doc (directive d) work (at_last work work') st st₃ q
      iri_dot e st₃ q D =
          record {
            turns = λ mode rows terms store ready.
                let t = subst (λ (b : Bool). Turns mode doc (directive d) (behind b) (held work rows terms store st) (held (at_last work work') rows terms store st'') 0) e (turns_on mode rows terms store ready z st'' p) in
                turns_then mode doc (directive d) (directive last_dot) (statement []) (held work rows terms store st) (held (at_last work work') rows terms store st'') (held (at_last work work') rows terms store st₃) 0 q t refl
                ((D (at_last work work')).turns mode rows terms store (t.ready refl));
            depth = λ y. (D (at_last work work')).depth y ∙ (p.depth_is ∙ S.beside.own depth_word (omega arith));
          }

-- ---- A new base

module _ (doc : Text) (dotted : Bool) where
  abbrev base_after : Token → Environment → Environment
  base_after t e = set_base (iri_of e t) e

  abbrev base_ref : Environment → Token → ℕ
  base_ref e t = iri_refusal (awaiting base_awaited e) t

  base_awaits : Awaits (new_base dotted) IRIREF (λ t m. (behind dotted, (in_environment (base_after t m.environment) m).1))
  unfolding rules
  base_awaits mode t tied = refl

  base_tested : (room : Room) (s : State) (v : Write Open) (s' : State) → Fits room s'.memory → (at : ℕ) (x : Text) → s.open_now ≡ directive (new_base dotted) → base_ref s.memory.environment (token_as 1 at x) ≡ or_zero (first_refusal (tests room s (token_as 1 at x) (some v) s'))
  base_tested room s v s' fits at x o = base_tests room s v s' fits at x (ap awaited_by o)

  pub base_none : (work : MutBor (List ℕ)) (st : List ℕ) (r : ℕ) → (kind_in st ≡ kind_code IRIREF → ⊥) → r ≡ refusal_here doc st → Finishes doc (directive (new_base dotted)) work work st st r
  base_none work st r k e = finishes_none doc (new_base dotted) IRIREF (λ t m. (behind dotted, (in_environment (base_after t m.environment) m).1)) base_awaits work st r k e

  module _ (work : MutBor (List ℕ)) (work' : List ℕ) (st st' : List ℕ) (r : ℕ) (k : kind_in st ≡ kind_code IRIREF) (D : DeclaresBase (take (len_in st) (drop (at_in st) doc)) work.now work' st st' r) where
    base_sets : Sets base_after base_ref (take (len_in st) (drop (at_in st) doc)) work.now work' st st' r
    base_sets = record { refusal = D.refusal; leaves = D.leaves; beside = D.beside; words = D.words }

    pub base_refused : (r ≡ 0 → ⊥) → Finishes doc (directive (new_base dotted)) work (at_last work work') st st' r
    base_refused z = iri_refused base_after base_ref doc (new_base dotted) dotted base_awaits base_tested work work' st st' r k base_sets z

    module _ (z : r ≡ 0) (st'' : List ℕ) (p : Passed doc st' st'' (depth_in st') (graph_in st')) where
      pub base_ends : dotted ≡ false → Finishes doc (directive (new_base dotted)) work (at_last work work') st st'' 0
      base_ends e = iri_ends base_after base_ref doc (new_base dotted) dotted base_awaits base_tested work work' st st' r k base_sets z st'' p e

      pub base_dot : dotted ≡ true → (st₃ : List ℕ) (q : ℕ) → ((w : MutBor (List ℕ)) → Finishes doc (directive last_dot) w w st'' st₃ q) → Finishes doc (directive (new_base dotted)) work (at_last work work') st st₃ q
      base_dot e st₃ q F = iri_dot base_after base_ref doc (new_base dotted) dotted base_awaits base_tested work work' st st' r k base_sets z st'' p e st₃ q F

-- ---- The namespace of a prefix

module _ (doc prefix_text : Text) (dotted : Bool) where
  abbrev names_after : Token → Environment → Environment
  names_after t e = declare prefix_text (iri_of e t) e

  abbrev names_ref : Environment → Token → ℕ
  names_ref e t = namespace_refusal (awaiting (namespace_awaited prefix_text) e) t

  names_awaits : Awaits (namespace_of prefix_text dotted) IRIREF (λ t m. (behind dotted, (in_environment (names_after t m.environment) m).1))
  unfolding rules
  names_awaits mode t tied = refl

  names_tested : (room : Room) (s : State) (v : Write Open) (s' : State) → Fits room s'.memory → (at : ℕ) (x : Text) → s.open_now ≡ directive (namespace_of prefix_text dotted) → names_ref s.memory.environment (token_as 1 at x) ≡ or_zero (first_refusal (tests room s (token_as 1 at x) (some v) s'))
  names_tested room s v s' fits at x o = namespace_tests room s v s' fits prefix_text at x (ap awaited_by o)

  pub namespace_none : (work : MutBor (List ℕ)) (st : List ℕ) (r : ℕ) → (kind_in st ≡ kind_code IRIREF → ⊥) → r ≡ refusal_here doc st → Finishes doc (directive (namespace_of prefix_text dotted)) work work st st r
  namespace_none work st r k e = finishes_none doc (namespace_of prefix_text dotted) IRIREF (λ t m. (behind dotted, (in_environment (names_after t m.environment) m).1)) names_awaits work st r k e

  module _ (work : MutBor (List ℕ)) (work' : List ℕ) (st st' : List ℕ) (r : ℕ) (k : kind_in st ≡ kind_code IRIREF) (D : DeclaresNamespace (take (len_in st) (drop (at_in st) doc)) prefix_text work.now work' st st' r) where
    names_sets : Sets names_after names_ref (take (len_in st) (drop (at_in st) doc)) work.now work' st st' r
    names_sets = record { refusal = D.refusal; leaves = D.leaves; beside = D.beside; words = D.words }

    pub namespace_refused : (r ≡ 0 → ⊥) → Finishes doc (directive (namespace_of prefix_text dotted)) work (at_last work work') st st' r
    namespace_refused z = iri_refused names_after names_ref doc (namespace_of prefix_text dotted) dotted names_awaits names_tested work work' st st' r k names_sets z

    module _ (z : r ≡ 0) (st'' : List ℕ) (p : Passed doc st' st'' (depth_in st') (graph_in st')) where
      pub namespace_ends : dotted ≡ false → Finishes doc (directive (namespace_of prefix_text dotted)) work (at_last work work') st st'' 0
      namespace_ends e = iri_ends names_after names_ref doc (namespace_of prefix_text dotted) dotted names_awaits names_tested work work' st st' r k names_sets z st'' p e

      pub namespace_dot : dotted ≡ true → (st₃ : List ℕ) (q : ℕ) → ((w : MutBor (List ℕ)) → Finishes doc (directive last_dot) w w st'' st₃ q) → Finishes doc (directive (namespace_of prefix_text dotted)) work (at_last work work') st st₃ q
      namespace_dot e st₃ q F = iri_dot names_after names_ref doc (namespace_of prefix_text dotted) dotted names_awaits names_tested work work' st st' r k names_sets z st'' p e st₃ q F

-- ---- The prefix

flat_name : Flat 2
flat_name = record { opening = refl; closing = refl; low = λ z. omega arith; high = λ z. omega arith }

module _ (doc : Text) (dotted : Bool) where
  name_awaits : Awaits (prefix_name dotted) PNAME_NS (λ t. return (directive (namespace_of (prefix t) dotted)))
  unfolding rules
  name_awaits mode t tied = refl

  pub name_none : (work : MutBor (List ℕ)) (st : List ℕ) (r : ℕ) → (kind_in st ≡ kind_code PNAME_NS → ⊥) → r ≡ refusal_here doc st → Finishes doc (directive (prefix_name dotted)) work work st st r
  name_none work st r k e = finishes_none doc (prefix_name dotted) PNAME_NS (λ t. return (directive (namespace_of (prefix t) dotted))) name_awaits work st r k e

  module _ (work : MutBor (List ℕ)) (st : List ℕ) (k : kind_in st ≡ kind_code PNAME_NS) (n : ℕ) (P : Prefixed doc (at_in st) (len_in st) n) (inside : at_in st + len_in st ≤ length doc) where
    abbrev name_text : Text
    name_text = take n (drop (at_in st) doc)

    name_length : length name_text ≡ n
    name_length = length-take-le n (drop (at_in st) doc) (omega (arith, P.inside, length-drop (at_in st) doc))

    module _ (mode : Mode) (rows terms store : MutBor (List ℕ)) (ready : Ready doc (held work rows terms store st)) where
      abbrev name_held : Held
      name_held = held work rows terms store st

      prefix_here : prefix (here doc name_held) ≡ name_text
      unfolding prefix
      prefix_here = P.is_prefix

      abbrev behind_name : Open
      behind_name = directive (namespace_of (prefix (here doc name_held)) dotted)

      name_rule : (tied : Bool) → find_rule PNAME_NS (rules (here doc name_held) tied mode (directive (prefix_name dotted))) ≡ some (return behind_name)
      name_rule tied = ap (find_rule PNAME_NS) (name_awaits mode (here doc name_held) tied)

      name_refuses : (old : Tables) (m : Memory) → Holding old m name_held
          → cond (ltb prefix_limit n) 11 0 ≡ or_zero (first_refusal (tests (room_in (tables_of name_held)) (state (directive (prefix_name dotted)) (depth_in st) m) (here doc name_held) (some (return behind_name)) (state behind_name (new_depth (depth_in st) (here doc name_held)) m)))
      name_refuses old m h =
          ap (λ (i : ℕ). cond (ltb prefix_limit i) 11 0) (sym (ap length prefix_here ∙ name_length))
          ∙ name_tests (room_in (tables_of name_held)) (state (directive (prefix_name dotted)) (depth_in st) m) (return behind_name) (state behind_name (new_depth (depth_in st) (here doc name_held)) m) h.fits (here doc name_held) (ap kind_of_code k) refl

      name_stop : prefix_limit < n → Turns mode doc (directive (prefix_name dotted)) (statement []) name_held name_held 11
      name_stop l =
          turns_stop mode doc (directive (prefix_name dotted)) behind_name (statement []) name_held name_held 11
          (turns_refused mode doc (directive (prefix_name dotted)) behind_name work rows terms store st ready 2 k flat_name name_rule 11 (λ z. omega arith) (λ old m h. long (ltb prefix_limit n) (lt-ltb prefix_limit n l) (name_refuses old m h))) (λ z. omega arith)
        where
          long : {x : ℕ} (b : Bool) → b ≡ true → cond b 11 0 ≡ x → 11 ≡ x
          long b e q = rw e at q

      name_on : n ≤ prefix_limit → (st' : List ℕ) → Passed doc st st' (depth_in st) (graph_in st) → Turns mode doc (directive (prefix_name dotted)) (directive (namespace_of name_text dotted)) name_held (held work rows terms store st') 0
      name_on l st' p =
          subst (λ (x : Text). Turns mode doc (directive (prefix_name dotted)) (directive (namespace_of x dotted)) name_held (held work rows terms store st') 0) prefix_here
          (turns_passed mode doc (directive (prefix_name dotted)) behind_name work rows terms store st ready 2 k flat_name name_rule st' p (λ old m h. short (ltb prefix_limit n) (le-ltb prefix_limit n l) (name_refuses old m h)))
        where
          short : {x : ℕ} (b : Bool) → b ≡ false → cond b 11 0 ≡ x → 0 ≡ x
          short b e q = rw e at q

    pub name_long : prefix_limit < n → Finishes doc (directive (prefix_name dotted)) work work st st 11
    name_long l = record { turns = λ mode rows terms store ready. name_stop mode rows terms store ready l; depth = λ z. refl }

    pub name_done : n ≤ prefix_limit → (st' : List ℕ) → Passed doc st st' (depth_in st) (graph_in st) → (work' : MutBor (List ℕ)) (st'' : List ℕ) (q : ℕ)
        → Finishes doc (directive (namespace_of (take ((at_in st + n) - at_in st) (drop (at_in st) doc)) dotted)) work work' st' st'' q → Finishes doc (directive (prefix_name dotted)) work work' st st'' q
    name_done l st' p work' st'' q F =
        let i : (at_in st + n) - at_in st ≡ n = omega arith in
        let G : Finishes doc (directive (namespace_of name_text dotted)) work work' st' st'' q = subst (λ (x : ℕ). Finishes doc (directive (namespace_of (take x (drop (at_in st) doc)) dotted)) work work' st' st'' q) i F in
        record {
          turns = λ mode rows terms store ready.
              let t = name_on mode rows terms store ready l st' p in
              turns_then mode doc (directive (prefix_name dotted)) (directive (namespace_of name_text dotted)) (statement []) (held work rows terms store st) (held work rows terms store st') (held work' rows terms store st'') 0 q t refl
              (G.turns mode rows terms store (t.ready refl));
          depth = λ z. G.depth z ∙ p.depth_is;
        }

-- ---- The keyword

pub record Keyword (k : ℕ) (d : Directive) : Type 0 where
  pub quiet : Quiet k
  pub flat : Flat k
  pub rule : (mode : Mode) (t : Token) (tied : Bool) → find_rule (kind_of_code k) (rules t tied mode (statement [])) ≡ some (return (directive d))

pub at_prefix_keyword : Keyword 5 (prefix_name true)
unfolding rules
at_prefix_keyword = record { quiet = record { escapes = refl; reference = refl; name = refl; opening = refl }; flat = record { opening = refl; closing = refl; low = λ z. omega arith; high = λ z. omega arith }; rule = λ mode t tied. refl }

pub prefix_keyword : Keyword 16 (prefix_name false)
unfolding rules
prefix_keyword = record { quiet = record { escapes = refl; reference = refl; name = refl; opening = refl }; flat = record { opening = refl; closing = refl; low = λ z. omega arith; high = λ z. omega arith }; rule = λ mode t tied. refl }

pub at_base_keyword : Keyword 6 (new_base true)
unfolding rules
at_base_keyword = record { quiet = record { escapes = refl; reference = refl; name = refl; opening = refl }; flat = record { opening = refl; closing = refl; low = λ z. omega arith; high = λ z. omega arith }; rule = λ mode t tied. refl }

pub base_keyword : Keyword 17 (new_base false)
unfolding rules
base_keyword = record { quiet = record { escapes = refl; reference = refl; name = refl; opening = refl }; flat = record { opening = refl; closing = refl; low = λ z. omega arith; high = λ z. omega arith }; rule = λ mode t tied. refl }

pub directs : (doc : Text) (work rows terms store : MutBor (List ℕ)) (st : List ℕ) → Ready doc (held work rows terms store st) → (k : ℕ) (d : Directive) → Keyword k d → kind_in st ≡ k → (st' : List ℕ) → Passed doc st st' (depth_in st) (graph_in st)
    → (work' : MutBor (List ℕ)) (st'' : List ℕ) (q : ℕ) → Finishes doc (directive d) work work' st' st'' q → Directs doc (held work rows terms store st) (held work' rows terms store st'') q
directs doc work rows terms store st ready k d K e st' p work' st'' q F =
    record {
      turns = λ mode. turns_then mode doc (statement []) (directive d) (statement []) (held work rows terms store st) (held work rows terms store st') (held work' rows terms store st'') 0 q (passed mode) refl (F.turns mode rows terms store ((passed mode).ready refl));
      depth = λ z. F.depth z ∙ p.depth_is;
      later = λ z. let l = (F.turns trig rows terms store ((passed trig).ready refl)).later z in omega (arith, p.later, l);
    }
  where
    passed : (mode : Mode) → Turns mode doc (statement []) (directive d) (held work rows terms store st) (held work rows terms store st') 0
    passed mode =
        turns_passed mode doc (statement []) (directive d) work rows terms store st ready k e K.flat (λ tied. K.rule mode (here doc (held work rows terms store st)) tied) st' p
        (λ old m h. quiet_tests (room_in (tables_of (held work rows terms store st))) (state (statement []) (depth_in st) m) (return (directive d)) (state (directive d) (new_depth (depth_in st) (here doc (held work rows terms store st))) m) h.fits (here doc (held work rows terms store st)) k (ap kind_of_code e) K.quiet refl)
