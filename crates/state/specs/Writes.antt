-- What one token writes: the place of its node, the node, the row that holds it.
use Rattle.std.specs.Prelude.{◌≡◌, false, ℕ, zero, suc, ◌-◌, ◌≤◌, ◌<◌, eqb, length, take, drop}
use Rattle.text.specs.Text.{Text, cond}
use Rattle.limits.specs.Limits.{document_limit, iri_limit, work_size}
use Rattle.spelling.specs.Form.{undo, bad, joined}
use Rattle.dataset.specs.Terms.{iri, blank, tagged, label, bracket}
use Rattle.table.specs.Layout.{iri_kind, blank_kind, literal_kind, tagged_kind, word_limit}
use Rattle.machine.specs.Memory.{Write, return, ◌>>=◌, ◌>>◌, term, new_term, typed}
use Rattle.machine.specs.Frame.{Place, top, object_of, element_of, Cells, no_cell, cells}
use Rattle.machine.specs.Rules.{hold, new_cell, end_list}
use Rattle.state.specs.declared.Spot.{Spot}
use Rattle.state.specs.declared.Node.{Node}

abbrev pub place_of : ℕ → ℕ → Place
place_of zero y = top
place_of (suc x) zero = element_of (suc x)
place_of (suc x) (suc y) = object_of (suc x) (suc y)

-- The first cell of a list does not matter to what is written.
abbrev pub cells_of : ℕ → Cells
cells_of zero = no_cell
cells_of (suc n) = cells 0 (suc n)

abbrev pub new_element : Spot → Write Place
new_element s = do
  cell ← new_cell (place_of s.x s.y) s.opened (cells_of s.last) s.at
  return (element_of cell)

-- The place of a node: an element gets a cell of its own.
unfoldable pub begin : Spot → Write Place
begin s = cond s.list (new_element s) (return (place_of s.x s.y))

-- The IRI of a node, or of its datatype.
abbrev pub node_iri : Node → Text → Text → Text
node_iri n work back = joined (take (n.end - n.start) (drop n.start work)) n.form back

-- The kind of a new blank node; the others are those of terms.
abbrev pub new_kind : ℕ
new_kind = suc tagged_kind

unfoldable pub node_write : Node → Text → Text → Text → Text → ℕ → Write ℕ
node_write n work back text tag at =
    cond (eqb n.kind iri_kind) (term (iri (node_iri n work back)))
    (cond (eqb n.kind blank_kind) (term (blank (label text)))
    (cond (eqb n.kind literal_kind) (typed (undo n.text text) (node_iri n work back))
    (cond (eqb n.kind tagged_kind) (term (tagged (undo n.text text) tag))
    (new_term (blank (bracket at))))))

-- A node at its place; a place alone; the end of a list.
unfoldable pub placed : Spot → Write ℕ → Write ℕ
placed s w = do
  p ← begin s
  n ← w
  hold p n s.at
  return n

unfoldable pub opened_at : Spot → Write ℕ
opened_at s = do
  p ← begin s
  return 0

unfoldable pub closed : Spot → Write ℕ
closed s = end_list (place_of s.x s.y) s.opened (cells_of s.last) s.at

-- What is asked of a place and of a node.
pub record SpotFits (s : Spot) : Type 0 where
  pub x : s.x < word_limit
  pub y : s.y < word_limit
  pub opened : s.opened < word_limit
  pub last : s.last < word_limit
  pub at : s.at < word_limit

pub record NodeFits (n : Node) (work back text tag : Text) : Type 0 where
  pub low : 0 < n.kind
  pub high : n.kind ≤ new_kind
  pub order : n.start ≤ n.end
  pub front : n.end ≤ work_size
  pub back_right : bad n.form back ≡ false
  pub text_right : bad n.text text ≡ false
  pub label_text : n.kind ≡ blank_kind → 0 < length text
  pub short : length (node_iri n work back) ≤ iri_limit
  pub text_short : length (undo n.text text) ≤ document_limit
  pub tag_short : length tag ≤ document_limit
  pub text_slice : length text ≤ document_limit
