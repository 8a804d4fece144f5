-- Tables as a routine is lent them, and what it asks of them.
use Rattle.std.specs.Prelude.{◌≡◌, List, [], Bool, ◌&&◌, ◌||◌, ℕ, ◌+◌, ◌≤◌, ◌<◌, eqb, length}
use Rattle.text.specs.Text.{Text, is_none}
use Rattle.utf8.specs.Utf8.{first_bad}
use Rattle.table.specs.Layout.{Slices, iri_kind, blank_kind, literal_kind, tagged_kind, row_at}
use Rattle.table.specs.Usable.{Takes, the, text, inside, has_kind, good_iri, good_datatype, good_tag, resource, good_row}
pub use Rattle.table.specs.Lent.{slices, slices_of, Stands, RowStands, word_of}

-- Tables whose counts do not matter.
abbrev pub drawn : List ℕ → List ℕ → Text → Slices
drawn rows terms store = slices rows 0 terms 0 store 0

-- Terms and store without rows.
abbrev pub lent : List ℕ → ℕ → Text → ℕ → Slices
lent terms term_count store store_count = slices [] 0 terms term_count store store_count

-- The two halves of a term's test.
abbrev pub readable : Slices → ℕ → Bool
readable s n = inside s (the s n).start (the s n).size && is_none (first_bad (text s n))

abbrev pub right_kind : Takes → Slices → ℕ → Bool
right_kind w s n =
    (has_kind s iri_kind n && good_iri w s n) || has_kind s blank_kind n || (has_kind s literal_kind n && good_datatype s n)
    || (has_kind s tagged_kind n && good_tag w s n)

-- A term's text lies in the store.
abbrev pub SpanIn : Slices → ℕ → Type 0
SpanIn s n = (the s n).start + (the s n).size ≤ length s.store

-- "graph 0 is the default graph"
abbrev pub names_graph : Slices → ℕ → Bool
names_graph s n = eqb n 0 || resource s n

abbrev pub row_test : List ℕ → List ℕ → ℕ → ℕ → Bool
row_test rows terms term_count i = good_row (lent terms term_count [] 0) (row_at rows i)

-- ---- Terms and rows that can be read

-- The terms and the store alone.
abbrev pub bare : Slices → Slices
bare s = lent s.terms 0 s.store 0

-- A term of one of the four kinds, whose spans, and those of its datatype, lie in the store.
pub record Sound (s : Slices) (n : ℕ) : Type 0 where
  pub stands : Stands s.terms n
  pub text_in : SpanIn s n
  pub low : iri_kind ≤ (the s n).kind
  pub high : (the s n).kind ≤ tagged_kind
  pub type_stands : (the s n).kind ≡ literal_kind → Stands s.terms (the s n).fourth
  pub type_in : (the s n).kind ≡ literal_kind → SpanIn s (the s n).fourth
  pub tag_in : ((the s n).kind ≡ iri_kind → ⊥) → ((the s n).kind ≡ blank_kind → ⊥) → ((the s n).kind ≡ literal_kind → ⊥) → (the s n).fourth + (the s n).fifth ≤ length s.store

-- Neither an IRI nor a blank node.
abbrev pub NoResource : Slices → ℕ → Type 0
NoResource s n = ((the s n).kind ≡ iri_kind → ⊥) × ((the s n).kind ≡ blank_kind → ⊥)

-- A row of such terms, and so many of them.
pub record SoundRow (s : Slices) (i : ℕ) : Type 0 where
  pub stands : RowStands s.rows i
  pub graph : ((row_at s.rows i).graph ≡ 0 → ⊥) → Sound (bare s) (row_at s.rows i).graph
  pub subject : Sound (bare s) (row_at s.rows i).subject
  pub predicate : Sound (bare s) (row_at s.rows i).predicate
  pub object : Sound (bare s) (row_at s.rows i).object

abbrev pub SoundRows : Slices → ℕ → Type 0
SoundRows s count = (i : ℕ) → i < count → SoundRow s i
