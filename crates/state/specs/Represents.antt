-- What it means that the lent slices and the array hold the memory of the machine.
use Rattle.std.specs.Prelude.{◌≡◌, List, true, ◌||◌, ℕ, ◌*◌, ◌<◌, leb, length, get_or, drop}
use Rattle.text.specs.Text.{Text, cond, empty}
use Rattle.limits.specs.Limits.{work_size}
use Rattle.iri.specs.Iri.{has_scheme}
use Rattle.environment.specs.Code.{environment_in, Usable}
use Rattle.table.specs.Layout.{row_size, term_size, row_room, term_room, word_limit}
use Rattle.table.specs.Tables.{or_zero}
use Rattle.terms.specs.Keeps.{KeepsRows}
use Rattle.term_tree.specs.Holds.{Holds}
use Rattle.machine.specs.Memory.{Memory, Write}
use Rattle.machine.specs.Call.{Room, room_up_to, first_refusal}
use Rattle.machine.specs.Refusals.{room_tests}
use Rattle.machine.specs.Demand.{Fits}
use Rattle.state.specs.Words.{rows_word, terms_word, used_word, counts_of, Stays, node_in, graph_in}

-- The lent slices: what they held when the call began, and what they hold.
pub record Tables : Type 0 where
  pub rows : List ℕ
  pub terms : List ℕ
  pub store : Text

abbrev pub lent_tables : List ℕ → List ℕ → Text → Tables
lent_tables rows terms store = record { rows = rows; terms = terms; store = store }

-- The code counts rows, terms and store bytes in 32 bits, and looks at the next number before it uses it: room past that is not used.
abbrev pub most_counted : ℕ
most_counted = 4294967294

abbrev pub counted : ℕ → ℕ
counted n = cond (leb n most_counted) n most_counted

-- How much room they have, as far as it is counted. No document within the limit needs more (proofs/Counted).
abbrev pub room_in : Tables → Room
room_in t = room_up_to (counted (row_room (length t.rows))) (counted (term_room (length t.terms))) (counted (length t.store))

-- They hold the memory m, and past their used part what they held before.
pub record Represents (old : Tables) (m : Memory) (work : Text) (t : Tables) (st : List ℕ) : Type 0 where
  pub usable : Usable work st
  pub environment : environment_in work st ≡ m.environment
  pub base : (empty m.environment.base || has_scheme m.environment.base) ≡ true
  pub terms_held : Holds m.terms t.terms t.store (drop work_size work) (counts_of st)
  pub rows_held : KeepsRows m.rows t.rows (get_or st rows_word 0)
  pub graph : graph_in st ≡ m.graph
  pub graph_small : m.graph < word_limit
  pub fits : Fits (room_in t) m
  pub same_rows : drop (row_size * get_or st rows_word 0) t.rows ≡ drop (row_size * get_or st rows_word 0) old.rows
  pub same_terms : drop (term_size * get_or st terms_word 0) t.terms ≡ drop (term_size * get_or st terms_word 0) old.terms
  pub same_store : drop (get_or st used_word 0) t.store ≡ drop (get_or st used_word 0) old.store

-- Some memory is held.
abbrev pub Represented : Text → Tables → List ℕ → Type 0
Represented work t st = (old : Tables) × ((m : Memory) × Represents old m work t st)

-- 14, 15 or 16 where the memory has no room; else 0.
unfoldable pub room_refusal : Room → Memory → ℕ
room_refusal room m = or_zero (first_refusal (room_tests room m))

-- What a write w leaves where there is room for it: the memory that w makes, and its result in the array.
pub record Wrote (w : Write ℕ) (work work' : Text) (t t' : Tables) (st st' : List ℕ) : Type 0 where
  pub represents : (old : Tables) (m : Memory) → Represents old m work t st → Represents old (w m).1 work' t' st'
  pub node : (old : Tables) (m : Memory) → Represents old m work t st → node_in st' ≡ (w m).0
  pub small : node_in st' < word_limit

-- What a write with its tests of room leaves: the number of the refusal and the cursor where it was, or all that is written.
pub record Puts (w : Write ℕ) (work work' : Text) (t t' : Tables) (st st' : List ℕ) (r : ℕ) : Type 0 where
  pub room : (old : Tables) (m : Memory) → Represents old m work t st → r ≡ room_refusal (room_in t) (w m).1
  pub wrote : r ≡ 0 → Wrote w work work' t t' st st'
  pub stays : Stays st st'
  pub words : length st' ≡ length st
