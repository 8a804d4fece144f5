-- Nodes at their places: what one token of a term, a bracket or a list writes there.
use Rattle.std.specs.Prelude.{◌≡◌, List, [], ◌∷◌, ◌++◌, Bool, true, false, not, ℕ, suc, ◌+◌, ◌≤◌, ◌<◌, eqb, length, get_or}
use Rattle.std.proofs.Math.Option.{none, some}
use Rattle.text.specs.Text.{Text, cond}
use Rattle.token.specs.Kind.{Kind, last_kind, end_kind, kind_of_code, among, iris, strings, BLANK_NODE_LABEL, INTEGER, DECIMAL, DOUBLE, kw_a, kw_true, kw_false, open_bracket, open_paren}
use Rattle.token.specs.Tokens.{Token}
use Rattle.dataset.specs.Terms.{iri, rdf_type, xsd_integer, xsd_decimal, xsd_double, xsd_boolean}
use Rattle.machine.specs.Memory.{Memory, Write, term, typed, iri_term}
use Rattle.machine.specs.Frame.{Ending, Place, top, subject_before, object_of, element_of, Cells, no_cell, cells, Frame, object}
use Rattle.machine.specs.Rules.{Rule, ◌⇒◌, find_rule, after_node, after_properties, Opening, label_term, end_rules, verb_rules, object_rules, frame_rules}
use Rattle.state.specs.Words.{terms_word, kind_word, list_word, x_word, y_word, opened_word, last_word, kind_in, at_in, len_in, depth_in, node_in, graph_in, list_in}
use Rattle.lexer.specs.Rest.{rest}
use Rattle.state.specs.Cursor.{Cursor, TokenHere, remaining}
use Rattle.state.specs.Represents.{Tables}
use Rattle.state.specs.Writes.{place_of, begin, placed, closed}
use Rattle.state.specs.declared.Spot.{Spot}
use Rattle.simulation.specs.Simulation.{here, Holding, Reads, Gives}
use Rattle.state.specs.declared.Held.{Held}
use Rattle.table.specs.Layout.{word_limit}

-- The terms that one token stands for: objects, and predicates.
abbrev pub node_rules : Token → List (Rule ℕ)
node_rules t =
    (iris ⇒ iri_term t)
    ∷ (BLANK_NODE_LABEL ∷ [] ⇒ label_term t false)
    ∷ (INTEGER ∷ [] ⇒ typed t.text xsd_integer)
    ∷ (DECIMAL ∷ [] ⇒ typed t.text xsd_decimal)
    ∷ (DOUBLE ∷ [] ⇒ typed t.text xsd_double)
    ∷ (kw_true ∷ kw_false ∷ [] ⇒ typed t.text xsd_boolean) ∷ []

abbrev pub term_rules : Token → List (Rule ℕ)
term_rules t = node_rules t ++ (kw_a ∷ [] ⇒ term (iri rdf_type)) ∷ []

-- Where the array says that the next node belongs.
abbrev pub spot_of : Held → Spot
spot_of h =
    record {
      list = not (eqb (list_in h.st) 0);
      x = get_or h.st x_word 0;
      y = get_or h.st y_word 0;
      opened = get_or h.st opened_word 0;
      last = get_or h.st last_word 0;
      at = at_in h.st;
    }

-- Its numbers fit the tables' words.
pub record Spotted (h : Held) : Type 0 where
  pub x : get_or h.st x_word 0 < word_limit
  pub y : get_or h.st y_word 0 < word_limit
  pub opened : get_or h.st opened_word 0 < word_limit
  pub last : get_or h.st last_word 0 < word_limit

-- The place that it gets: an element's is its new cell.
unfoldable pub slot_place : Held → Place
slot_place h = cond (not (eqb (list_in h.st) 0)) (element_of (suc (get_or h.st terms_word 0))) (place_of (get_or h.st x_word 0) (get_or h.st y_word 0))

-- The kinds that begin an object.
abbrev pub object_kinds : List Kind
object_kinds = iris ++ (BLANK_NODE_LABEL ∷ INTEGER ∷ DECIMAL ∷ DOUBLE ∷ kw_true ∷ kw_false ∷ strings ++ open_bracket ∷ open_paren ∷ [])

-- An object or element is awaited by the frame f, at this place, and g is open after it.
pub record Slot (doc : Text) (h : Held) (f g : Frame) : Type 0 where
  pub opening : Write Opening
  pub rules : (k : Kind) (tied : Bool) → among object_kinds k ≡ true → find_rule k (frame_rules (here doc h) tied f) ≡ find_rule k (object_rules (here doc h) tied opening)
  pub others : (kind_in h.st ≡ end_kind → ⊥) → TokenHere doc h.st → (tied : Bool) → among object_kinds (here doc h).kind ≡ false → find_rule (here doc h).kind (frame_rules (here doc h) tied f) ≡ none
  pub opens : (old : Tables) (m : Memory) → Holding old m h → opening m ≡ (record { place = slot_place h; after = g ∷ [] }, (begin (spot_of h) m).1)
  pub begins : (old : Tables) (m : Memory) → Holding old m h → (begin (spot_of h) m).0 ≡ slot_place h
  pub no_node : (n : ℕ) → after_node (slot_place h) n ≡ []
  pub no_properties : (n : ℕ) → after_properties (slot_place h) n ≡ []

-- The place of a list, as far as the array knows it: a subject's is none.
abbrev pub Belongs : Place → ℕ → ℕ → Type 0
Belongs top x y = ⊥
Belongs (subject_before e) x y = x ≡ 0
Belongs (object_of s p) x y = (x ≡ s) × ((y ≡ p) × ((0 < s) × (0 < p)))
Belongs (element_of c) x y = (x ≡ c) × ((y ≡ 0) × (0 < c))

-- Its last cell, 0 where there is none.
abbrev pub LastCell : Cells → ℕ → Type 0
LastCell no_cell last = last ≡ 0
LastCell (cells head c) last = (last ≡ c) × (0 < c)

-- A list's place, where it was opened, and its cells, as far as the array knows them: of a list that has cells only the last one matters.
abbrev pub InList : Held → Place → ℕ → Cells → Type 0
InList h place opened no_cell = Belongs place (get_or h.st x_word 0) (get_or h.st y_word 0) × ((opened ≡ get_or h.st opened_word 0) × (get_or h.st last_word 0 ≡ 0))
InList h place opened (cells head c) = (get_or h.st last_word 0 ≡ c) × (0 < c)

-- A node was read where one was awaited.
abbrev pub Fills : Text → Held → Held → ℕ → Type 0
Fills doc a b r = (f g : Frame) → Slot doc a f g → Reads doc (f ∷ []) (g ∷ []) a b r

-- A node was written; it has a number.
pub record Numbers (doc : Text) (w : Write ℕ) (a b : Held) (r : ℕ) : Type 0 where
  pub gives : Gives doc w a b r
  pub positive : r ≡ 0 → 0 < node_in b.st

-- The token of a term was read: its node is at its place.
abbrev pub PutsTerm : Text → Held → Held → ℕ → Type 0
PutsTerm doc a b r = (v : Write ℕ) → find_rule (here doc a).kind (term_rules (here doc a)) ≡ some v → Numbers doc (placed (spot_of a) v) a b r

-- A list was closed; the node of an empty one has a number.
pub record Closes (doc : Text) (a b : Held) (r : ℕ) : Type 0 where
  pub gives : Gives doc (closed (spot_of a)) a b r
  pub positive : r ≡ 0 → get_or a.st last_word 0 ≡ 0 → 0 < node_in b.st

-- ---- Predicates

abbrev pub verb_kinds : List Kind
verb_kinds = iris ++ kw_a ∷ []

-- The frame f awaits a predicate of s; behind its objects the frames `after` are open.
pub record Verbs (f : Frame) (s : ℕ) (e : Ending) (after : List Frame) : Type 0 where
  pub rules : (t : Token) (tied : Bool) (k : Kind) → among verb_kinds k ≡ true → find_rule k (frame_rules t tied f) ≡ find_rule k (verb_rules t tied (λ p. object s p e ∷ after))

-- Behind predicates and objects nothing but their end may come.
abbrev pub Ends : Frame → Ending → ℕ → Type 0
Ends f e k = (k ≡ end_kind → ⊥) → k ≤ last_kind → (t : Token) (tied : Bool) → find_rule (kind_of_code k) (frame_rules t tied f) ≡ find_rule (kind_of_code k) (end_rules t tied e)

-- ---- Words

-- The place of the next node is put into the array.
pub record Aimed (st st' : List ℕ) (list x y opened last : ℕ) : Type 0 where
  pub list_is : list_in st' ≡ list
  pub x_is : get_or st' x_word 0 ≡ x
  pub y_is : get_or st' y_word 0 ≡ y
  pub opened_is : get_or st' opened_word 0 ≡ opened
  pub last_is : get_or st' last_word 0 ≡ last
  pub before : (k : ℕ) → k < list_word → get_or st' k 0 ≡ get_or st k 0
  pub behind : (k : ℕ) → last_word < k → get_or st' k 0 ≡ get_or st k 0
  pub words : length st' ≡ length st

-- The cursor is behind a token that writes nothing; so many brackets are open then, in this graph.
pub record Passed (doc : Text) (st st' : List ℕ) (depth graph : ℕ) : Type 0 where
  pub cursor : Cursor doc st'
  pub tokens : rest doc (at_in st + len_in st) ≡ remaining doc st'
  pub later : at_in st < at_in st'
  pub depth_is : depth_in st' ≡ depth
  pub graph_is : graph_in st' ≡ graph
  pub before : (k : ℕ) → k < kind_word → get_or st' k 0 ≡ get_or st k 0
  pub spot : (k : ℕ) → list_word ≤ k → get_or st' k 0 ≡ get_or st k 0
  pub words : length st' ≡ length st

abbrev pub term_kinds : List Kind
term_kinds = iris ++ (BLANK_NODE_LABEL ∷ INTEGER ∷ DECIMAL ∷ DOUBLE ∷ kw_true ∷ kw_false ∷ [])

-- What stays beside where a node was read.
pub record Steady (a b : Held) (r : ℕ) : Type 0 where
  pub depth : r ≡ 0 → depth_in b.st ≡ depth_in a.st
  pub later : r ≡ 0 → at_in a.st < at_in b.st

-- The same where a node of its own tokens alone was read: its place stays in the array, with all words behind it.
pub record Settled (a b : Held) (r : ℕ) : Type 0 where
  pub steady : Steady a b r
  pub spot : r ≡ 0 → (k : ℕ) → list_word ≤ k → get_or b.st k 0 ≡ get_or a.st k 0
