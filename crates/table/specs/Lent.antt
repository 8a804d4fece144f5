-- Tables as a routine is lent them.
use Rattle.std.specs.Prelude.{List, ℕ, pred, ◌+◌, ◌*◌, ◌≤◌, length, get_or}
use Rattle.text.specs.Text.{Text}
use Rattle.table.specs.Layout.{Slices, row_size, term_size}
use Rattle.table.specs.declared.Tables.{Tables}

abbrev pub slices : List ℕ → ℕ → List ℕ → ℕ → Text → ℕ → Slices
slices rows row_count terms term_count store store_count =
    record { rows = rows; row_count = row_count; terms = terms; term_count = term_count; store = store; store_count = store_count }

abbrev pub slices_of : Tables → Slices
slices_of t = slices t.rows.now t.row_count t.terms.now t.term_count t.store.now t.store_count

-- The term n, from 1 on, and the row i, from 0 on, stand in the words.
abbrev pub Stands : List ℕ → ℕ → Type 0
Stands terms n = (1 ≤ n) × (term_size * n ≤ length terms)

abbrev pub RowStands : List ℕ → ℕ → Type 0
RowStands rows i = row_size * (i + 1) ≤ length rows

-- The word k of the term n.
abbrev pub word_of : List ℕ → ℕ → ℕ → ℕ
word_of terms n k = get_or terms (term_size * pred n + k) 0
