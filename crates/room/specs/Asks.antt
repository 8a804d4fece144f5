-- What one token asks of the tables: terms, in order, and rows.
use Rattle.std.specs.Prelude.{List, [], ◌∷◌, ◌++◌, ℕ, eqb}
use Rattle.std.proofs.Math.Option.{Option, none, some}
use Rattle.text.specs.Text.{Text, cond}
use Rattle.spelling.specs.Form.{undo}
use Rattle.dataset.specs.Terms.{Term, iri, blank, literal, tagged, label, bracket, cell, rdf_first, rdf_rest, rdf_nil}
use Rattle.table.specs.Tables.{number}
use Rattle.machine.specs.Frame.{Place, top, subject_before, object_of, element_of, Cells, no_cell, cells}
use Rattle.state.specs.declared.Spot.{Spot}
use Rattle.state.specs.declared.Node.{Node}
use Rattle.state.specs.Writes.{place_of, cells_of, node_iri}

-- A term that is always new, or one that shares the number of an equal term.
pub data Ask : Type 0 where
  fresh shared : Term → Ask

abbrev pub with_by : Option ℕ → Term → List Term → List Term
with_by (some n) t ts = ts
with_by none t ts = ts ++ t ∷ []

abbrev pub with_term : Term → List Term → List Term
with_term t ts = with_by (number t ts) t ts

unfoldable pub asked : List Term → List Ask → List Term
asked ts [] = ts
asked ts (fresh t ∷ asks) = asked (ts ++ t ∷ []) asks
asked ts (shared t ∷ asks) = asked (with_term t ts) asks

-- The IRIs that lists supply, by numbers: 0 is none.
unfoldable pub supplied : ℕ → Text
supplied p = cond (eqb p 1) rdf_first (cond (eqb p 2) rdf_rest rdf_nil)

unfoldable pub supply : ℕ → List Ask
supply p = cond (eqb p 0) [] (shared (iri (supplied p)) ∷ [])

-- ---- Places

-- The IRI that holding a node at a place supplies, and how many rows that makes.
abbrev pub place_iri : Place → ℕ
place_iri top = 0
place_iri (subject_before e) = 0
place_iri (object_of s p) = 0
place_iri (element_of c) = 1

abbrev pub place_rows : Place → ℕ
place_rows top = 0
place_rows (subject_before e) = 0
place_rows (object_of s p) = 1
place_rows (element_of c) = 1

-- The same of a new cell of a list that stands at a place.
abbrev pub cell_iri : Place → Cells → ℕ
cell_iri p no_cell = place_iri p
cell_iri p (cells head last) = 2

abbrev pub cell_rows : Place → Cells → ℕ
cell_rows p no_cell = place_rows p
cell_rows p (cells head last) = 1

-- The same of a list's end, which supplies two.
abbrev pub end_iri : Cells → ℕ
end_iri no_cell = 3
end_iri (cells head last) = 2

abbrev pub last_iri : Place → Cells → ℕ
last_iri p no_cell = place_iri p
last_iri p (cells head last) = 3

-- ---- What is asked for

abbrev pub spot_place : Spot → Place
spot_place s = place_of s.x s.y

-- Before the node: a cell, and the IRI of the cell's row.
unfoldable pub before_iri : Spot → ℕ
before_iri s = cond s.list (cell_iri (spot_place s) (cells_of s.last)) 0

unfoldable pub before_rows : Spot → ℕ
before_rows s = cond s.list (cell_rows (spot_place s) (cells_of s.last)) 0

unfoldable pub before_node : Spot → List Ask
before_node s = cond s.list (fresh (blank (cell s.at)) ∷ supply (cell_iri (spot_place s) (cells_of s.last))) []

-- Behind it: the IRI of its own row.
unfoldable pub behind_iri : Spot → ℕ
behind_iri s = cond s.list 1 (place_iri (spot_place s))

unfoldable pub behind_rows : Spot → ℕ
behind_rows s = cond s.list 1 (place_rows (spot_place s))

unfoldable pub for_node : Node → Text → Text → Text → Text → ℕ → List Ask
for_node n work back text tag at =
    cond (eqb n.kind 1) (shared (iri (node_iri n work back)) ∷ [])
    (cond (eqb n.kind 2) (shared (blank (label text)) ∷ [])
    (cond (eqb n.kind 3) (shared (iri (node_iri n work back)) ∷ shared (literal (undo n.text text) (node_iri n work back)) ∷ [])
    (cond (eqb n.kind 4) (shared (tagged (undo n.text text) tag) ∷ [])
    (fresh (blank (bracket at)) ∷ []))))

unfoldable pub to_place : Spot → Node → Text → Text → Text → Text → List Ask
to_place s n work back text tag = before_node s ++ (for_node n work back text tag s.at ++ supply (behind_iri s))

unfoldable pub to_close : Spot → List Ask
to_close s = supply (end_iri (cells_of s.last)) ++ supply (last_iri (spot_place s) (cells_of s.last))

unfoldable pub close_rows : Spot → ℕ
close_rows s = cell_rows (spot_place s) (cells_of s.last)
