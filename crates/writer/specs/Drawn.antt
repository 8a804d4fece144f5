-- The pieces of a line, as the routines write them, and what tables must have for it.
use Rattle.std.specs.Prelude.{◌≡◌, ◌++◌, ℕ, ◌+◌, ◌≤◌, ◌<◌, length}
use Rattle.text.specs.Text.{Text, ascii, cond}
use Rattle.table.specs.Layout.{Slices, iri_kind, blank_kind, literal_kind, row_at}
use Rattle.table.specs.Usable.{the, text, tag, has_kind}
use Rattle.table.specs.LongForm.{decimal, string_form, type_form, term_form, line}
use Rattle.writer.specs.Writing.{Countable}
use Rattle.usable.specs.Lent.{Stands, RowStands, SpanIn}
pub use Rattle.usable.specs.Lent.{NoResource}

abbrev pub tag_form : Text → Text
tag_form t = ascii "@" ++ t

abbrev pub blank_form : ℕ → Text
blank_form n = ascii "_:b" ++ decimal n

unfoldable pub literal_form : Slices → ℕ → Text
literal_form s n =
    string_form (text s n)
    ++ cond (has_kind s literal_kind n) (type_form (text s (the s n).fourth)) (tag_form (tag s n))

-- A term that can be written: its spans, and those of its datatype, lie in the store.
pub record Writable (s : Slices) (n : ℕ) : Type 0 where
  pub stands : Stands s.terms n
  pub text_in : SpanIn s n
  pub type_stands : (the s n).kind ≡ literal_kind → Stands s.terms (the s n).fourth
  pub type_in : (the s n).kind ≡ literal_kind → SpanIn s (the s n).fourth
  pub tag_in : ((the s n).kind ≡ iri_kind → ⊥) → ((the s n).kind ≡ blank_kind → ⊥) → ((the s n).kind ≡ literal_kind → ⊥) → (the s n).fourth + (the s n).fifth ≤ length s.store

-- ---- Rows

abbrev pub part_form : Slices → ℕ → Text
part_form s n = term_form s n ++ ascii " "

-- A row that can be written.
pub record WritableRow (s : Slices) (i : ℕ) : Type 0 where
  pub stands : RowStands s.rows i
  pub graph : ((row_at s.rows i).graph ≡ 0 → ⊥) → Writable s (row_at s.rows i).graph
  pub subject : Writable s (row_at s.rows i).subject
  pub predicate : Writable s (row_at s.rows i).predicate
  pub object : Writable s (row_at s.rows i).object

-- The first rows can be written; each of their lines is so short that its length is a number that the code can hold.
abbrev pub Ready : Slices → ℕ → Type 0
Ready s count = (i : ℕ) → i < count → WritableRow s i

abbrev pub Short : Slices → ℕ → Type 0
Short s count = (i : ℕ) → i < count → Countable 0 (line s (row_at s.rows i))
