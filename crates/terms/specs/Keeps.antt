-- What it means that lent slices hold a list of terms.
use Rattle.std.specs.Prelude.{◌≡◌, List, [], ◌∷◌, ◌++◌, Bool, true, false, ℕ, suc, ◌+◌, ◌*◌, ◌<◌, ◌≤◌, length, get_or, take}
use Rattle.std.proofs.Math.Option.{none, some}
use Rattle.text.specs.Text.{Text, cond}
use Rattle.text.specs.Slice.{over_at}
use Rattle.dataset.specs.Terms.{label, bracket, cell, numbered, Term, iri, blank, literal, tagged}
use Rattle.table.specs.Layout.{Row, row_size, row_words, term_size, entry_words, iri_kind, blank_kind, literal_kind, tagged_kind, word_limit}
use Rattle.table.specs.Tables.{number, or_zero, is_blank, label_of, terms_words, store_bytes, store_size, rows_words}
use Rattle.terms.specs.declared.Counts.{Counts}
use Rattle.terms.specs.declared.Sort.{Sort}
use Rattle.terms.specs.declared.Sort.TheVariants.{Iri, Blank}
use Rattle.terms.specs.Sorts.{kind_of, type_of}
use Rattle.terms.specs.Code.{next_entry, next_counts}

unfoldable pub blank_count : List Term → ℕ
blank_count [] = 0
blank_count (t ∷ ts) = let r = blank_count ts in cond (is_blank t) (suc r) r

-- Can a token name the term again? "each [ and each list cell is new".
abbrev pub findable : Term → Bool
findable (iri s) = true
findable (blank (label [])) = false
findable (blank (label (c ∷ s))) = true
findable (blank (bracket p)) = false
findable (blank (cell p)) = false
findable (blank (numbered p)) = false
findable (literal s d) = true
findable (tagged s g) = true

-- A literal's datatype is one of the terms.
unfoldable pub Typed : List Term → Term → Type 0
Typed ts (iri s) = Unit {0}
Typed ts (blank b) = Unit {0}
Typed ts (literal s d) = (n : ℕ) × (number (iri d) ts ≡ some n)
Typed ts (tagged s g) = Unit {0}

-- The slices hold the terms ts. "Equal terms share a number": the number that is found for a term is its own.
pub record Keeps (ts : List Term) (terms : List ℕ) (store : Text) (c : Counts) : Type 0 where
  pub words : take (term_size * c.terms) terms ≡ terms_words ts
  pub bytes : take c.used store ≡ store_bytes ts
  pub count : c.terms ≡ length ts
  pub used : c.used ≡ store_size ts
  pub blanks : c.blanks ≡ blank_count ts
  pub typed : (i : ℕ) → i < length ts → Typed ts (get_or ts i (iri []))
  pub own : (i : ℕ) → i < length ts → findable (get_or ts i (iri [])) ≡ true → number (get_or ts i (iri [])) ts ≡ some (suc i)

-- The term t is the one of this sort with the text x, and the tag g. The datatype of a literal is given by its number, 0 where it is no term yet.
unfoldable pub Means : List Term → Sort → Text → Text → Term → Type 0
Means ts sort x g (iri s) = (kind_of sort ≡ iri_kind) × ((s ≡ x) × (g ≡ []))
Means ts sort x g (blank b) = (kind_of sort ≡ blank_kind) × ((label_of b ≡ x) × (g ≡ []))
Means ts sort x g (literal s d) = (kind_of sort ≡ literal_kind) × ((s ≡ x) × ((g ≡ []) × (or_zero (number (iri d) ts) ≡ type_of sort)))
Means ts sort x g (tagged s h) = (kind_of sort ≡ tagged_kind) × ((s ≡ x) × (h ≡ g))

-- The numbers of one term more, with so many bytes, fit 32 bits.
pub record Small (c : Counts) (sort : Sort) (bytes : ℕ) : Type 0 where
  pub terms : c.terms < 4294967294
  pub used : c.used + bytes < 4294967295
  pub blanks : c.blanks < word_limit
  pub kind : kind_of sort < word_limit
  pub datatype : type_of sort < word_limit

-- There is room for one term more.
pub record TermFits (terms : List ℕ) (store : Text) (c : Counts) (sort : Sort) (x g : Text) : Type 0 where
  pub words : term_size * c.terms + term_size ≤ length terms
  pub bytes : c.used + (length x + length g) ≤ length store
  pub small : Small c sort (length x + length g)

-- What adding the term leaves: its words and bytes behind the others, and all else as it was.
pub record Added (terms terms' : List ℕ) (store store' : Text) (c c' : Counts) (sort : Sort) (x g : Text) : Type 0 where
  pub words : terms' ≡ over_at (term_size * c.terms) (entry_words (next_entry c sort (length x) (length g))) terms
  pub bytes : store' ≡ over_at c.used (x ++ g) store
  pub counts : c' ≡ next_counts c sort (length x + length g)
  pub keeps : (ts : List Term) (t : Term) → Keeps ts terms store c → Means ts sort x g t → Typed ts t → (findable t ≡ true → number t ts ≡ none) → Keeps (ts ++ t ∷ []) terms' store' c'

-- The sort of a [ or a list cell.
abbrev pub iri_sort : Sort
iri_sort = Iri

abbrev pub blank_sort : Sort
blank_sort = Blank

-- What adding a blank node without a label leaves, whatever the store holds.
abbrev pub BlankAdded : List ℕ → List ℕ → Counts → Counts → Type 0
BlankAdded terms terms' c c' = (store : Text) → c.used ≤ length store → Added terms terms' store store c c' blank_sort [] []

-- The slice holds the rows rs.
pub record KeepsRows (rs : List Row) (rows : List ℕ) (count : ℕ) : Type 0 where
  pub words : take (row_size * count) rows ≡ rows_words rs
  pub size : count ≡ length rs

pub record RowAdded (rows rows' : List ℕ) (count : ℕ) (row : List ℕ) : Type 0 where
  pub words : rows' ≡ over_at (row_size * count) row rows
  pub keeps : (rs : List Row) (r : Row) → KeepsRows rs rows count → row ≡ row_words r → KeepsRows (rs ++ r ∷ []) rows' (count + 1)
