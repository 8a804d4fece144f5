-- One token of a directive: it is passed, refused, or changes what is in force.
use mathlib.Core.Path.{◌≡◌, refl, sym, ap, ap₂, ◌∙◌, subst}
use mathlib.Core.List.{List, [], ◌∷◌}
use mathlib.Core.Bool.{Bool, false}
use mathlib.Core.Option.{some}
use Prim.Native.Nat.{ℕ, ◌+◌}
use native.Mathlib.Omega.{arith}
use lib.ListN.{length}
use denote.Ref.{MutBor, at_last}
use Rattle.text.specs.Text.{Text}
use Rattle.token.specs.Kind.{end_kind, unreadable_kind, kind_of_code, among, open_bracket, open_paren, close_bracket, close_paren}
use Rattle.lexer.specs.Rest.{rest}
use Rattle.grammar.specs.Productions.{Mode}
use Rattle.environment.specs.Environment.{Environment}
use Rattle.environment.specs.Code.{environment_in, Beside}
use Rattle.table.specs.Tables.{or_zero}
use Rattle.machine.specs.Memory.{Memory, Write, return, in_environment}
use Rattle.machine.specs.Frame.{Open}
use Rattle.machine.specs.Rules.{find_rule, rules}
use Rattle.machine.specs.Refusals.{new_depth}
use Rattle.machine.specs.Step.{State, first_refusal, tests}
use Rattle.machine.proofs.Firsts.{fits_passes, passes_fits}
use Rattle.state.specs.Words.{depth_word, graph_word, at_word, blanks_word, len_word, rows_word, terms_word, used_word, kind_in, depth_in, graph_in}
use Rattle.state.specs.Cursor.{TokenHere}
use Rattle.state.specs.Represents.{Tables, room_in, Represents}
use Rattle.token_iri.specs.Addresses.{Leaves}
use Rattle.simulation.specs.Simulation.{held, tables_of, here, Holding, Ready, Turns}
use Rattle.state.specs.declared.Held.{Held}
use Rattle.simulation.proofs.Compose.{same_all}
use Rattle.simulation.proofs.Turning.{turns_token}
use Rattle.nodes.specs.Nodes.{Passed}
use Rattle.nodes.proofs.Passing.{represents_words}

-- A kind that opens and closes no bracket.
pub record Flat (k : ℕ) : Type 0 where
  pub opening : among (open_bracket ∷ open_paren ∷ []) (kind_of_code k) ≡ false
  pub closing : among (close_bracket ∷ close_paren ∷ []) (kind_of_code k) ≡ false
  pub low : k ≡ 0 → ⊥
  pub high : k ≡ unreadable_kind → ⊥

depth_flat : (doc : Text) (a : Held) (k : ℕ) → kind_in a.st ≡ k → Flat k → depth_in a.st ≡ new_depth (depth_in a.st) (here doc a)
unfolding new_depth
depth_flat doc a k e f = rw (e, f.opening, f.closing)

-- What is in force is changed in its part of the work slice and in its words.
pub represents_in_force : (old : Tables) (m : Memory) (t : Tables) (work work' : Text) (st st' : List ℕ) (e : Environment) → Beside work work' st st' → Leaves e work' st' → Represents old m work t st → Represents old (in_environment e m).1 work' t st'
represents_in_force old m t work work' st st' e b l r =
    record {
      usable = l.usable;
      environment = l.after;
      base = l.sound;
      terms_held = rw (b.behind, b.own terms_word (omega arith), b.own used_word (omega arith), b.own blanks_word (omega arith)) r.terms_held;
      rows_held = rw (b.own rows_word (omega arith)) r.rows_held;
      graph = b.own graph_word (omega arith) ∙ r.graph;
      graph_small = r.graph_small;
      fits = passes_fits (room_in t) (in_environment e m).1 (fits_passes (room_in t) m r.fits);
      same_rows = rw (b.own rows_word (omega arith)) r.same_rows;
      same_terms = rw (b.own terms_word (omega arith)) r.same_terms;
      same_store = rw (b.own used_word (omega arith)) r.same_store;
    }

-- A token of the kind k, where o is open and p is open behind it.
module _ (mode : Mode) (doc : Text) (o p : Open) (work rows terms store : MutBor (List ℕ)) (st : List ℕ) (ready : Ready doc (held work rows terms store st)) (k : ℕ) (e : kind_in st ≡ k) (flat : Flat k) where
  abbrev a : Held
  a = held work rows terms store st

  abbrev before_it : Memory → State
  before_it m = record { open_now = o; depth = depth_in st; memory = m }

  abbrev behind_it : Memory → State
  behind_it m = record { open_now = p; depth = new_depth (depth_in st) (here doc a); memory = m }

  nonzero : kind_in st ≡ end_kind → ⊥
  nonzero z = flat.low (sym e ∙ z)

  pub token_there : TokenHere doc st
  token_there = ready.cursor.token nonzero (λ z. flat.high (sym e ∙ z))

  -- The rule for it writes nothing.
  module _ (rule : (tied : Bool) → find_rule (kind_of_code k) (rules (here doc a) tied mode o) ≡ some (return p)) where
    rule_here : (tied : Bool) → find_rule (here doc a).kind (rules (here doc a) tied mode o) ≡ some (return p)
    rule_here tied = ap (λ (x : ℕ). find_rule (kind_of_code x) (rules (here doc a) tied mode o)) e ∙ rule tied

    abbrev Refuses : ℕ → Type 0
    Refuses r = (old : Tables) (m : Memory) → Holding old m a → r ≡ or_zero (first_refusal (tests (room_in (tables_of a)) (before_it m) (here doc a) (some (return p)) (behind_it m)))

    pub turns_passed : (st' : List ℕ) → Passed doc st st' (depth_in st) (graph_in st) → Refuses 0 → Turns mode doc o p a (held work rows terms store st') 0
    turns_passed st' q refusal =
        turns_token mode doc o p a (held work rows terms store st') 0 token_there nonzero (return p)
        (record {
          rule = rule_here _;
          same = record { work = refl; rows = refl; terms = refl; store = refl; work_length = refl; rows_length = refl; terms_length = refl; store_length = refl; words = q.words };
          refusal = refusal;
          place = λ z. absurd (z refl);
          ready = λ z. let (old, (m, h)) = ready.holds in record { cursor = q.cursor; holds = (old, (m, holding old m h)); depth = rw q.depth_is ready.depth };
          later = λ z. omega (arith, q.later);
          tokens = λ z. q.tokens;
          depth = λ z. q.depth_is ∙ depth_flat doc a k e flat;
          result = λ z old m h. refl;
          holding = λ z old m h. holding old m h;
        })
      where
        holding : (old : Tables) (m : Memory) → Holding old m a → Holding old m (held work rows terms store st')
        holding old m h = represents_words old m work.now (tables_of a) st st' q.before q.graph_is q.words h

    pub turns_refused : (r : ℕ) → (r ≡ 0 → ⊥) → Refuses r → Turns mode doc o p a a r
    turns_refused r z refusal =
        turns_token mode doc o p a a r token_there nonzero (return p)
        (record {
          rule = rule_here _;
          same = same_all a;
          refusal = refusal;
          place = λ y. refl;
          ready = λ y. absurd (z y);
          later = λ y. absurd (z y);
          tokens = λ y. absurd (z y);
          depth = λ y. absurd (z y);
          result = λ y. absurd (z y);
          holding = λ y. absurd (z y);
        })

  -- The rule changes what is in force, as f says. The code has done so, or refuses.
  module _ (f : Environment → Environment) (rule : (tied : Bool) → find_rule (kind_of_code k) (rules (here doc a) tied mode o) ≡ some (λ m. (p, (in_environment (f m.environment) m).1)))
      (work' st' : List ℕ) (r : ℕ) (b : Beside work.now work' st st') (n : length st' ≡ length st) (l : r ≡ 0 → Leaves (f (environment_in work.now st)) work' st')
      (refusal : (old : Tables) (m : Memory) → Holding old m a → r ≡ or_zero (first_refusal (tests (room_in (tables_of a)) (before_it m) (here doc a) (some (λ m. (p, (in_environment (f m.environment) m).1))) (behind_it (in_environment (f m.environment) m).1)))) where
    abbrev after : List ℕ → Held
    after st'' = held (at_last work work') rows terms store st''

    abbrev v : Write Open
    v m = (p, (in_environment (f m.environment) m).1)

    rule_at : (tied : Bool) → find_rule (here doc a).kind (rules (here doc a) tied mode o) ≡ some v
    rule_at tied = ap (λ (x : ℕ). find_rule (kind_of_code x) (rules (here doc a) tied mode o)) e ∙ rule tied

    pub turns_declined : (r ≡ 0 → ⊥) → Turns mode doc o p a (after st') r
    turns_declined z =
        turns_token mode doc o p a (after st') r token_there nonzero v
        (record {
          rule = rule_at _;
          same = record { work = refl; rows = refl; terms = refl; store = refl; work_length = b.long; rows_length = refl; terms_length = refl; store_length = refl; words = n };
          refusal = refusal;
          place = λ y. b.own at_word (omega arith);
          ready = λ y. absurd (z y);
          later = λ y. absurd (z y);
          tokens = λ y. absurd (z y);
          depth = λ y. absurd (z y);
          result = λ y. absurd (z y);
          holding = λ y. absurd (z y);
        })

    pub turns_set : r ≡ 0 → (st'' : List ℕ) → Passed doc st' st'' (depth_in st') (graph_in st') → Turns mode doc o p a (after st'') 0
    turns_set z st'' q =
        turns_token mode doc o p a (after st'') 0 token_there nonzero v
        (record {
          rule = rule_at _;
          same = record { work = refl; rows = refl; terms = refl; store = refl; work_length = b.long; rows_length = refl; terms_length = refl; store_length = refl; words = q.words ∙ n };
          refusal = λ old m h. sym z ∙ refusal old m h;
          place = λ y. absurd (y refl);
          ready = λ y. let (old, (m, h)) = ready.holds in record { cursor = q.cursor; holds = (old, ((in_environment (f m.environment) m).1, holding old m h)); depth = rw (q.depth_is, b.own depth_word (omega arith)) ready.depth };
          later = λ y. let x = b.own at_word (omega arith) in omega (arith, q.later, x);
          tokens = λ y. ap₂ (λ (i j : ℕ). rest doc (i + j)) (sym (b.own at_word (omega arith))) (sym (b.own len_word (omega arith))) ∙ q.tokens;
          depth = λ y. q.depth_is ∙ (b.own depth_word (omega arith) ∙ depth_flat doc a k e flat);
          result = λ y old m h. refl;
          holding = λ y old m h. holding old m h;
        })
      where
        holding : (old : Tables) (m : Memory) → Holding old m a → Holding old (in_environment (f m.environment) m).1 (after st'')
        holding old m h =
            represents_words old (in_environment (f m.environment) m).1 work' (tables_of a) st' st'' q.before q.graph_is q.words
            (represents_in_force old m (tables_of a) work.now work' st st' (f m.environment) b (subst (λ (x : Environment). Leaves (f x) work' st') h.environment (l z)) h)
