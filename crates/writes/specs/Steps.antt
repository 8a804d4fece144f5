-- The same of the steps of a write: a term, a blank node, a row.
use Rattle.std.specs.Prelude.{◌≡◌, true, false, List, [], ℕ, ◌≤◌, ◌<◌, length, get_or, take, drop}
use Rattle.text.specs.Text.{Text}
use Rattle.limits.specs.Limits.{work_size}
use Rattle.spelling.specs.Form.{bad}
use Rattle.spelling.specs.declared.Form.{Form}
use Rattle.dataset.specs.Terms.{Blank, Term, blank}
use Rattle.table.specs.Tables.{label_of}
use Rattle.table.specs.Layout.{word_limit}
use Rattle.terms.specs.declared.Counts.{Counts}
use Rattle.terms.specs.declared.Sort.{Sort}
use Rattle.terms.specs.Sorts.{type_of}
use Rattle.terms.specs.Keeps.{findable, Typed, Means, Added}
use Rattle.term_tree.specs.Tree.{Links}
use Rattle.machine.specs.Memory.{Memory, Write, done, term, new_term, row}
use Rattle.state.specs.Words.{rows_word, terms_word, node_word, counts_of}
use Rattle.machine.specs.Rules.{hold, new_cell}
use Rattle.state.specs.Represents.{Tables, lent_tables, Represents}
use Rattle.state.specs.Writes.{place_of, cells_of}
use Rattle.state.specs.declared.Spot.{Spot}
use Rattle.writes.specs.Ready.{Ready, Kept, Writes, put_at}

-- Only the counts of terms, bytes and blank nodes were set.
pub record CountsSet (st st' : List ℕ) (c : Counts) : Type 0 where
  pub counts : counts_of st' ≡ c
  pub before : (k : ℕ) → k ≤ rows_word → get_or st' k 0 ≡ get_or st k 0
  pub behind : (k : ℕ) → node_word ≤ k → get_or st' k 0 ≡ get_or st k 0
  pub words : length st' ≡ length st

-- ---- Terms

-- A part of the environment's bytes before a back without wrong escapes.
pub record Part (start end : ℕ) (form : Form) (back : Text) : Type 0 where
  pub order : start ≤ end
  pub front : end ≤ work_size
  pub right : bad form back ≡ false

-- In the memory m the term u is of this sort, with the text x and the tag g.
pub record Asks (sort : Sort) (x g : Text) (m : Memory) (u : Term) : Type 0 where
  pub means : Means m.terms sort x g u
  pub typed : Typed m.terms u
  pub named : findable u ≡ true

pub record ShareReady (sort : Sort) (x g work : Text) (terms : List ℕ) (store : Text) (st : List ℕ) : Type 0 where
  pub rows : List ℕ
  pub asked : Term
  pub ready : Ready (term asked) work (lent_tables rows terms store) st
  pub asks : Asks sort x g ready.memory asked
  pub datatype : type_of sort < word_limit

-- A number of a term.
abbrev pub Number : ℕ → Type 0
Number n = (0 < n) × (n < word_limit)

-- The term that was asked for has the number r.
pub record Shares (sort : Sort) (x g : Text) (r : ℕ) (work work' : Text) (t t' : Tables) (st st' : List ℕ) : Type 0 where
  pub represents : (old : Tables) (m : Memory) (u : Term) → Represents old m work t st → Asks sort x g m u → Represents old (term u m).1 work' t' st'
  pub result : (old : Tables) (m : Memory) (u : Term) → Represents old m work t st → Asks sort x g m u → (term u m).0 ≡ r
  pub kept : Kept work work' t t' st st'

-- A term was added and put into its slot of the index.
pub record TermAdded (sort : Sort) (x g : Text) (slot : ℕ) (work work' : Text) (terms terms' : List ℕ) (store store' : Text) (st st' : List ℕ) : Type 0 where
  pub added : Added terms terms' store store' (counts_of st) (counts_of st') sort x g
  pub linked : Links (drop work_size work) (drop work_size work') (get_or st terms_word 0) slot
  pub front : take work_size work' ≡ take work_size work
  pub long : length work' ≡ length work
  pub set : CountsSet st st' (counts_of st')

-- Whatever the rows hold.
abbrev pub TermReady : Write ℕ → Text → List ℕ → Text → List ℕ → Type 0
TermReady w work terms store st = (rows : List ℕ) × Ready w work (lent_tables rows terms store) st

abbrev pub TermWrites : Write ℕ → ℕ → Text → Text → List ℕ → List ℕ → Text → Text → List ℕ → List ℕ → Type 0
TermWrites w r work work' terms terms' store store' st st' = Number r × ((rows : List ℕ) → Writes w r work work' (lent_tables rows terms store) (lent_tables rows terms' store') st st')

-- ---- Blank nodes without a label

abbrev pub Unlabelled : Blank → Type 0
Unlabelled b = (label_of b ≡ []) × (findable (blank b) ≡ false)

pub record FreshReady (terms st : List ℕ) : Type 0 where
  pub work : Text
  pub rows : List ℕ
  pub store : Text
  pub node : Blank
  pub unlabelled : Unlabelled node
  pub ready : Ready (new_term (blank node)) work (lent_tables rows terms store) st

abbrev pub FreshWrites : ℕ → List ℕ → List ℕ → List ℕ → List ℕ → Type 0
FreshWrites r terms terms' st st' =
    Number r
    × ((work : Text) (rows : List ℕ) (store : Text) (b : Blank) → Unlabelled b → Writes (new_term (blank b)) r work work (lent_tables rows terms store) (lent_tables rows terms' store) st st')

-- ---- Rows

pub record RowReady (s p o at : ℕ) (rows st : List ℕ) : Type 0 where
  pub work : Text
  pub terms : List ℕ
  pub store : Text
  pub ready : Ready (row s p o at) work (lent_tables rows terms store) st
  pub subject : s < word_limit
  pub predicate : p < word_limit
  pub object : o < word_limit
  pub position : at < word_limit

abbrev pub RowWrites : ℕ → ℕ → ℕ → ℕ → List ℕ → List ℕ → List ℕ → List ℕ → Type 0
RowWrites s p o at rows rows' st st' = (work : Text) (terms : List ℕ) (store : Text) → Writes (row s p o at) done work work (lent_tables rows terms store) (lent_tables rows' terms store) st st'

-- ---- A node at its place

abbrev pub NumberWrites : Write ℕ → ℕ → Text → Text → Tables → Tables → List ℕ → List ℕ → Type 0
NumberWrites w r work work' t t' st st' = Number r × Writes w r work work' t t' st st'

pub record HoldReady (x y n at : ℕ) (work : Text) (t : Tables) (st : List ℕ) : Type 0 where
  pub ready : Ready (hold (place_of x y) n at) work t st
  pub first : x < word_limit
  pub second : y < word_limit
  pub node : n < word_limit
  pub position : at < word_limit

pub record PutReady (x y at : ℕ) (w : Write ℕ) (work : Text) (t : Tables) (st : List ℕ) : Type 0 where
  pub ready : Ready (put_at (place_of x y) at w) work t st
  pub first : x < word_limit
  pub second : y < word_limit
  pub position : at < word_limit

-- What a node belongs to has the number x: a new cell where it is an element, else what the place says.
pub record Below (s : Spot) (x : ℕ) (work work' : Text) (t t' : Tables) (st st' : List ℕ) : Type 0 where
  pub listed : s.list ≡ true → NumberWrites (new_cell (place_of s.x s.y) s.opened (cells_of s.last) s.at) x work work' t t' st st'
  pub alone : s.list ≡ false → (x ≡ s.x) × ((work' ≡ work) × ((t' ≡ t) × (st' ≡ st)))
