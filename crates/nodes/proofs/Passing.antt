-- Tokens that write nothing: what is open after them.
use mathlib.Core.Path.{◌≡◌, refl, sym, ap, ◌∙◌}
use mathlib.Core.List.{List, [], ◌∷◌, ◌++◌}
use mathlib.Core.Bool.{true, false}
use Prim.Native.Nat.{ℕ, ◌-◌, ◌<◌}
use native.Mathlib.Omega.{arith}
use lib.ListN.{length, get_or}
use denote.Ref.{MutBor}
use Rattle.text.specs.Text.{Text}
use Rattle.token.specs.Kind.{kind_of_code, among, names, strings, IRIREF, open_bracket, open_paren, close_bracket, close_paren}
use Rattle.token.specs.Tokens.{Token}
use Rattle.environment.specs.Code.{environment_in}
use Rattle.environment.proofs.Directives.{in_force_words}
use Rattle.dataset.specs.Constructors.{nothing, awaiting}
use Rattle.table.specs.Tables.{or_zero}
use Rattle.machine.specs.Memory.{Memory, enter}
use Rattle.machine.specs.Refusals.{no_character, undeclared, no_base, too_long, too_deep, new_depth, escape_tests, iri_tests, depth_tests, room_tests}
use Rattle.machine.specs.Call.{first_refusal}
use Rattle.machine.proofs.Firsts.{first_before, fits_passes, passes_fits}
use Rattle.state.specs.Words.{kind_word, blanks_word, rows_word, terms_word, used_word, kind_in, depth_in, graph_in}
use Rattle.state.specs.Represents.{Tables, room_in, Represents}
use Rattle.simulation.specs.Simulation.{held, tables_of, here, token_refusal, Does}
use Rattle.state.specs.declared.Held.{Held}
use Rattle.nodes.specs.Nodes.{Passed}
use Rattle.table.specs.Layout.{word_limit}

-- Representation depends on the words before the cursor's, and on the graph's.
pub represents_words : (old : Tables) (m : Memory) (work : Text) (t : Tables) (st st' : List ℕ) → ((k : ℕ) → k < kind_word → get_or st' k 0 ≡ get_or st k 0) → graph_in st' ≡ graph_in st → length st' ≡ length st
    → Represents old m work t st → Represents old m work t st'
represents_words old m work t st st' same eg n r =
    let e : environment_in work st' ≡ environment_in work st = in_force_words work st st' (λ k h. same k (omega arith)) in
    record {
      usable = record { room = r.usable.room; words = n ∙ r.usable.words };
      environment = e ∙ r.environment;
      base = r.base;
      terms_held = rw (same terms_word (omega arith), same used_word (omega arith), same blanks_word (omega arith)) r.terms_held;
      rows_held = rw (same rows_word (omega arith)) r.rows_held;
      graph = eg ∙ r.graph;
      graph_small = r.graph_small;
      fits = r.fits;
      same_rows = rw (same rows_word (omega arith)) r.same_rows;
      same_terms = rw (same terms_word (omega arith)) r.same_terms;
      same_store = rw (same used_word (omega arith)) r.same_store;
    }

-- Another graph.
represents_graph : (old : Tables) (m : Memory) (work : Text) (t : Tables) (st st' : List ℕ) (g : ℕ) → ((k : ℕ) → k < kind_word → get_or st' k 0 ≡ get_or st k 0) → graph_in st' ≡ g → g < word_limit → length st' ≡ length st
    → Represents old m work t st → Represents old (enter g m).1 work t st'
represents_graph old m work t st st' g same eg small n r =
    let e : environment_in work st' ≡ environment_in work st = in_force_words work st st' (λ k h. same k (omega arith)) in
    record {
      usable = record { room = r.usable.room; words = n ∙ r.usable.words };
      environment = e ∙ r.environment;
      base = r.base;
      terms_held = rw (same terms_word (omega arith), same used_word (omega arith), same blanks_word (omega arith)) r.terms_held;
      rows_held = rw (same rows_word (omega arith)) r.rows_held;
      graph = eg;
      graph_small = small;
      fits = passes_fits (room_in t) (enter g m).1 (fits_passes (room_in t) m r.fits);
      same_rows = rw (same rows_word (omega arith)) r.same_rows;
      same_terms = rw (same terms_word (omega arith)) r.same_terms;
      same_store = rw (same used_word (omega arith)) r.same_store;
    }

-- A kind whose tokens meet no refusal of their own.
pub record Quiet (k : ℕ) : Type 0 where
  pub escapes : among (IRIREF ∷ strings) (kind_of_code k) ≡ false
  pub reference : among (IRIREF ∷ []) (kind_of_code k) ≡ false
  pub name : among names (kind_of_code k) ≡ false
  pub opening : among (open_bracket ∷ open_paren ∷ []) (kind_of_code k) ≡ false

quiet_refusal : (t : Token) (k : ℕ) → t.kind ≡ kind_of_code k → Quiet k → (old : Tables) (m : Memory) (work : Text) (ts : Tables) (st : List ℕ) (g depth : ℕ) → Represents old m work ts st → 0 ≡ token_refusal (room_in ts) depth m.environment t (enter g m).1
unfolding token_refusal no_character undeclared no_base too_long too_deep
quiet_refusal t k e q old m work ts st g depth r =
    let own = escape_tests t ++ iri_tests (awaiting nothing m.environment) t ++ depth_tests depth t in
    let z : 0 ≡ or_zero (first_refusal own) = rw (e, q.escapes, q.reference, q.name, q.opening) in
    z ∙ sym (ap or_zero (first_before own (room_tests (room_in ts) m) (fits_passes (room_in ts) m r.fits)))

module _ (doc : Text) (work rows terms store : MutBor (List ℕ)) (st st' : List ℕ) (k d g : ℕ) (e : kind_in st ≡ k) (q : Quiet k) where
  abbrev a : Held
  a = held work rows terms store st

  abbrev b : Held
  b = held work rows terms store st'

  pub passed_does : Passed doc st st' d g → d ≡ new_depth (depth_in st) (here doc a) → g < word_limit → Does doc (λ m. (0, (enter g m).1)) a b 0
  passed_does p ed small =
      record {
        same = record { work = refl; rows = refl; terms = refl; store = refl; work_length = refl; rows_length = refl; terms_length = refl; store_length = refl; words = p.words };
        refusal = λ old m h. quiet_refusal (here doc a) k (ap kind_of_code e) q old m work.now (tables_of a) st g (depth_in st) h;
        place = λ z. absurd (z refl);
        done = λ z.
            record {
              cursor = p.cursor;
              tokens = p.tokens;
              later = p.later;
              depth = p.depth_is ∙ ed;
              spot = p.spot;
              holding = λ old m h. represents_graph old m work.now (tables_of a) st st' g p.before p.graph_is small p.words h;
            };
      }

  -- The graph stays.
  pub passed_same : Passed doc st st' d (graph_in st) → d ≡ new_depth (depth_in st) (here doc a) → Does doc (λ m. (0, m)) a b 0
  passed_same p ed =
      record {
        same = record { work = refl; rows = refl; terms = refl; store = refl; work_length = refl; rows_length = refl; terms_length = refl; store_length = refl; words = p.words };
        refusal = λ old m h. quiet_refusal (here doc a) k (ap kind_of_code e) q old m work.now (tables_of a) st m.graph (depth_in st) h;
        place = λ z. absurd (z refl);
        done = λ z.
            record {
              cursor = p.cursor;
              tokens = p.tokens;
              later = p.later;
              depth = p.depth_is ∙ ed;
              spot = p.spot;
              holding = λ old m h. represents_words old m work.now (tables_of a) st st' p.before p.graph_is p.words h;
            };
      }

-- A closing bracket.
pub depth_closing : (doc : Text) (a : Held) (k : ℕ) → kind_in a.st ≡ k → among (open_bracket ∷ open_paren ∷ []) (kind_of_code k) ≡ false → among (close_bracket ∷ close_paren ∷ []) (kind_of_code k) ≡ true
    → depth_in a.st - 1 ≡ new_depth (depth_in a.st) (here doc a)
unfolding new_depth
depth_closing doc a k e o c = rw (e, o, c)
