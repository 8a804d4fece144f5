-- "A file added at the end must not move the beginning": what the first call leaves is the beginning of what the second leaves.
use Rattle.std.specs.Prelude.{◌≡◌, List, ◌∷◌, ◌++◌, ℕ, ◌*◌, ◌≤◌, take}
use Rattle.text.specs.Text.{Text}
use Rattle.table.specs.Layout.{row_size, term_size, Slices}

-- "the same document, a line feed, and further text"
abbrev pub line_feed : ℕ
line_feed = 10

abbrev pub with_text_added : Text → Text → Text
with_text_added doc more = doc ++ line_feed ∷ more

-- The first n of xs are the beginning of the first m of ys.
abbrev pub IsBeginning : ℕ → List ℕ → ℕ → List ℕ → Type 0
IsBeginning n xs m ys = (n ≤ m) × (rest : List ℕ) × (take m ys ≡ take n xs ++ rest)

-- "the rows, terms, store bytes .. of the first are the beginning of those of the second": the words and bytes that the counts say are used.
pub record Begins (first second : Slices) : Type 0 where
  pub rows : IsBeginning (row_size * first.row_count) first.rows (row_size * second.row_count) second.rows
  pub terms : IsBeginning (term_size * first.term_count) first.terms (term_size * second.term_count) second.terms
  pub store : IsBeginning first.store_count first.store second.store_count second.store
