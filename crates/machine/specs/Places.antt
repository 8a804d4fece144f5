-- Where a node stands, and the rows that hold it there and that a list makes.
-- The order of writing is that of the paragraph "Order" in the scope, whose sentences are quoted.
use Rattle.std.specs.Prelude.{ℕ}
use Rattle.dataset.specs.Terms.{cell as cell_node, iri, blank, rdf_first, rdf_rest, rdf_nil}
use Rattle.machine.specs.Memory.{RowTerm, Write, return, ◌>>=◌, ◌>>◌, Done, done, term, new_term, row}

-- Where a node stands: outside braces as a subject or a graph's label; as a subject; as the object of a subject and a predicate;
-- as the element of a list cell. A subject's predicates and objects end as `Ending` says.
pub data Ending : Type 0 where
  full_stop brace bracket_end : Ending

pub data Place : Type 0 where
  top : Place
  subject_before : Ending → Place
  object_of : RowTerm → RowTerm → Place
  element_of : RowTerm → Place

-- The cells of a list so far: none, or the first and the last.
pub data Cells : Type 0 where
  no_cell : Cells
  cells : RowTerm → RowTerm → Cells

-- ---- Rows

-- The row that holds a node at its place, if it is an object or an element. "A predicate that a list supplies is numbered when its row is made."
abbrev pub hold : Place → RowTerm → ℕ → Write Done
hold top n at = return done
hold (subject_before e) n at = return done
hold (object_of s p) n at = row s p n at
hold (element_of cell) n at = do
  first ← term (iri rdf_first)
  row cell first n at

-- "At an element's first token: the new cell is numbered, then for the first element the row that holds the list (if any), for later
-- ones the row old cell, rdf:rest, new cell." The list stands at `place`, its ( at `opened`, and the element begins at `at`.
abbrev pub new_cell : Place → ℕ → Cells → ℕ → Write RowTerm
new_cell place opened no_cell at = do
  cell ← new_term (blank (cell_node at))
  hold place cell opened
  return cell
new_cell place opened (cells head last) at = do
  cell ← new_term (blank (cell_node at))
  rest ← term (iri rdf_rest)
  row last rest cell at
  return cell

abbrev pub extended : Cells → RowTerm → Cells
extended no_cell cell = cells cell cell
extended (cells head last) cell = cells head cell

-- "At ) of an empty list: rdf:nil is numbered, then its row made if it is an object or element. At the closing bracket: last cell, rdf:rest, rdf:nil."
-- The result is the list's node.
abbrev pub end_list : Place → ℕ → Cells → ℕ → Write RowTerm
end_list place opened no_cell at = do
  nil ← term (iri rdf_nil)
  hold place nil opened
  return nil
end_list place opened (cells head last) at = do
  rest ← term (iri rdf_rest)
  nil ← term (iri rdf_nil)
  row last rest nil at
  return head
