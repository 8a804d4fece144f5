-- What a call leaves: the lent slices after it, with the counts that it returned.
use Rattle.std.specs.Prelude.{ℕ}
use Rattle.table.specs.Layout.{Slices}
use Rattle.reader.specs.Reader.{LentSlices, Reading}

abbrev pub accepted : ℕ
accepted = 0

abbrev pub handed : LentSlices → Reading → Slices
handed new r = record { rows = new.rows; row_count = r.rows; terms = new.terms; term_count = r.terms; store = new.store; store_count = r.store }
