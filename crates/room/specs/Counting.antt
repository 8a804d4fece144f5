-- Counting the terms that are new, and their bytes, without writing them.
use Rattle.std.specs.Prelude.{◌≡◌, List, Bool, true, false, ℕ, ◌+◌, ◌≤◌, eqb, length, get_or, drop}
use Rattle.text.specs.Text.{Text, cond, same_text}
use Rattle.limits.specs.Limits.{iri_limit, work_size}
use Rattle.spelling.specs.Form.{undo}
use Rattle.dataset.specs.Terms.{Term, iri, blank, literal, tagged, label}
use Rattle.table.specs.Tables.{number, or_zero, term_bytes}
use Rattle.table.specs.Layout.{iri_kind, blank_kind, literal_kind, tagged_kind}
use Rattle.terms.specs.declared.Counts.{Counts}
use Rattle.term_tree.specs.Holds.{Holds}
use Rattle.machine.specs.Memory.{Memory, Write}
use Rattle.machine.specs.Call.{Room, first_refusal}
use Rattle.machine.specs.Refusals.{size_tests}
use Rattle.state.specs.declared.Spot.{Spot}
use Rattle.state.specs.declared.Node.{Node}
use Rattle.state.specs.Words.{rows_word, terms_word, used_word}
use Rattle.state.specs.Represents.{Tables, room_in, room_refusal, Represents}
use Rattle.state.specs.Writes.{cells_of, node_iri}
use Rattle.room.specs.declared.Tally.{Tally}
use Rattle.room.specs.Asks.{supplied, spot_place, cell_iri, before_iri, behind_iri, end_iri, last_iri}

abbrev pub tally : ℕ → ℕ → Tally
tally terms bytes = record { terms = terms; bytes = bytes }

-- One term more of so many bytes, where its number is 0.
unfoldable pub more : Tally → ℕ → ℕ → Tally
more c n size = cond (eqb n 0) (tally (c.terms + 1) (c.bytes + size)) c

-- A term that is shared; it is looked for among the terms ts.
unfoldable pub count_term : List Term → Term → Tally → Tally
count_term ts t c = more c (or_zero (number t ts)) (length (term_bytes t))

unfoldable pub count_supply : List Term → ℕ → Tally → Tally
count_supply ts p c = cond (eqb p 0) c (count_term ts (iri (supplied p)) c)

-- The IRI x behind a supplied one, which may be the same.
unfoldable pub is_supplied : ℕ → Text → Bool
is_supplied p x = cond (eqb p 1) (same_text x (supplied 1)) (cond (eqb p 2) (same_text x (supplied 2)) false)

unfoldable pub count_iri : List Term → ℕ → Text → Tally → Tally
count_iri ts p x c = cond (is_supplied p x) c (count_term ts (iri x) c)

unfoldable pub count_node : List Term → ℕ → Node → Text → Text → Text → Text → Tally → Tally
count_node ts p n work back text tag c =
    cond (eqb n.kind iri_kind) (count_iri ts p (node_iri n work back) c)
    (cond (eqb n.kind blank_kind) (count_term ts (blank (label text)) c)
    (cond (eqb n.kind literal_kind) (count_term ts (literal (undo n.text text) (node_iri n work back)) (count_iri ts p (node_iri n work back) c))
    (cond (eqb n.kind tagged_kind) (count_term ts (tagged (undo n.text text) tag) c)
    (more c 0 0))))

-- Does the node ask for an IRI, and is it this one?
unfoldable pub has_iri : Node → Bool
has_iri n = cond (eqb n.kind iri_kind) true (eqb n.kind literal_kind)

unfoldable pub asks_first : Node → Text → Text → Bool
asks_first n work back = cond (has_iri n) (is_supplied 1 (node_iri n work back)) false

-- The IRI q of the row of a node, behind p and the node.
unfoldable pub count_behind : List Term → ℕ → ℕ → Node → Text → Text → Tally → Tally
count_behind ts p q n work back c =
    cond (eqb q 0) c (cond (eqb p 1) c (cond (asks_first n work back) c (count_supply ts 1 c)))

unfoldable pub count_before : List Term → Spot → Tally → Tally
count_before ts s c = cond s.list (count_supply ts (cell_iri (spot_place s) (cells_of s.last)) (more c 0 0)) c

unfoldable pub count_place : List Term → Spot → Node → Text → Text → Text → Text → Tally → Tally
count_place ts s n work back text tag c =
    count_behind ts (before_iri s) (behind_iri s) n work back (count_node ts (before_iri s) n work back text tag (count_before ts s c))

unfoldable pub count_close : List Term → Spot → Tally → Tally
count_close ts s c = count_supply ts (last_iri (spot_place s) (cells_of s.last)) (count_supply ts (end_iri (cells_of s.last)) c)

-- ---- What the code says

-- The slices hold some terms.
abbrev pub Held : Text → List ℕ → Text → Counts → Type 0
Held work terms store c = (work_size ≤ length work) × ((ts : List Term) × Holds ts terms store (drop work_size work) c)

-- r is the number of the term, or 0; r is what f says of the terms.
abbrev pub Numbers : Text → List ℕ → Text → Counts → Term → ℕ → Type 0
Numbers work terms store c t r = (ts : List Term) → Holds ts terms store (drop work_size work) c → r ≡ or_zero (number t ts)

abbrev pub Tallies : Text → List ℕ → Text → Counts → (List Term → Tally) → Tally → Type 0
Tallies work terms store c f r = (ts : List Term) → Holds ts terms store (drop work_size work) c → r ≡ f ts

-- The same with a literal of the datatype whose number is d.
abbrev pub LiteralTallies : Text → List ℕ → Text → Counts → ℕ → Text → Tally → Tally → Type 0
LiteralTallies work terms store c d s t r = (x : Text) → Numbers work terms store c (iri x) d → Tallies work terms store c (λ ts. count_term ts (literal s x) t) r

-- So small that sums do not wrap.
pub record Small (c : Tally) (most : ℕ) : Type 0 where
  pub terms : c.terms ≤ most
  pub bytes : c.bytes ≤ most

-- The node's IRI begins in the work slice, and is not too long.
pub record Named (n : Node) (work back : Text) : Type 0 where
  pub order : n.start ≤ n.end
  pub inside : n.end ≤ length work
  pub short : length (node_iri n work back) ≤ iri_limit

-- So many rows, terms and bytes are in use.
abbrev pub rows_in : List ℕ → ℕ
rows_in st = get_or st rows_word 0

abbrev pub tally_in : List ℕ → Tally
tally_in st = tally (get_or st terms_word 0) (get_or st used_word 0)

-- 14, 15, 16 or 0, where there would be so many rows, and so many terms and bytes.
unfoldable pub refusal_of : Room → ℕ → Tally → ℕ
refusal_of room rows c = or_zero (first_refusal (size_tests room rows c.terms c.bytes))

-- What the tables' room says of a write w.
abbrev pub Answers : Text → Tables → List ℕ → Write ℕ → ℕ → Type 0
Answers work t st w r = (old : Tables) (m : Memory) → Represents old m work t st → r ≡ room_refusal (room_in t) (w m).1
