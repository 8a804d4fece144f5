-- Tests and words as the code makes them.
use Rattle.std.specs.Prelude.{◌≡◌, List, Bool, true, ◌&&◌, ℕ, zero, suc, ◌+◌, ◌*◌, ◌≤◌, ◌<◌, eqb, length}
use Rattle.text.specs.Text.{Text, cond, same_text}
use Rattle.table.specs.Layout.{Entry, term_size, entry_at, blank_kind, literal_kind, tagged_kind, span}
use Rattle.table.specs.Tables.{entry}
use Rattle.terms.specs.declared.Counts.{Counts}
use Rattle.terms.specs.declared.Sort.{Sort}
use Rattle.terms.specs.Sorts.{kind_of, type_of}

-- Does an entry stand for the term of this sort with the text x and the tag g?
unfoldable pub same_rest : Text → Entry → Sort → Text → Bool
same_rest store e sort g =
    cond (eqb (kind_of sort) literal_kind) (eqb e.fourth (type_of sort))
    (cond (eqb (kind_of sort) tagged_kind) (same_text g (span store e.fourth e.fifth)) true)

unfoldable pub matches : Text → Entry → Sort → Text → Text → Bool
matches store e sort x g = eqb e.kind (kind_of sort) && (same_text x (span store e.start e.size) && same_rest store e sort g)

-- The first number from `from` on whose index passes the test, among n of them; else 0.
unfoldable pub first : (ℕ → Bool) → ℕ → ℕ → ℕ
first p from zero = 0
first p from (suc n) = let r = first p (suc from) n in cond (p from) (suc from) r

-- The spans of an entry lie in the store.
pub record Inside (terms : List ℕ) (store : Text) (i : ℕ) : Type 0 where
  pub words : term_size * i + term_size ≤ length terms
  pub text : (entry_at terms (suc i)).start + (entry_at terms (suc i)).size ≤ length store
  pub tag : (entry_at terms (suc i)).kind ≡ tagged_kind → (entry_at terms (suc i)).fourth + (entry_at terms (suc i)).fifth ≤ length store

abbrev pub Readable : List ℕ → Text → ℕ → Type 0
Readable terms store count = (i : ℕ) → i < count → Inside terms store i

-- The entry of one term more, and the counts behind it.
unfoldable pub fourth : Counts → Sort → ℕ → ℕ
fourth c sort size =
    cond (eqb (kind_of sort) blank_kind) c.blanks
    (cond (eqb (kind_of sort) literal_kind) (type_of sort)
    (cond (eqb (kind_of sort) tagged_kind) (c.used + size) 0))

unfoldable pub next_entry : Counts → Sort → ℕ → ℕ → Entry
next_entry c sort size tag_size = entry (kind_of sort) c.used size (fourth c sort size) tag_size

unfoldable pub next_counts : Counts → Sort → ℕ → Counts
next_counts c sort bytes = record { terms = c.terms + 1; used = c.used + bytes; blanks = cond (eqb (kind_of sort) blank_kind) (c.blanks + 1) c.blanks }
