-- What is open while a document is read.
use Rattle.std.specs.Prelude.{List, Bool, ℕ}
use Rattle.text.specs.Text.{Text}
use Rattle.machine.specs.Memory.{RowTerm}
pub use Rattle.machine.specs.Places.{Ending, full_stop, brace, bracket_end, Place, top, subject_before, object_of, element_of, Cells, no_cell, cells}

-- What is to be read next in a statement. The numbers are positions of tokens: where a list was opened, where the object began.
pub data Frame : Type 0 where
  graph_label : Frame
  closing_label : RowTerm → Frame
  graph_body : RowTerm → Frame
  label_or_subject : RowTerm → Frame
  triples_or_end : Frame
  verb : RowTerm → Ending → Frame
  verb_or_end : RowTerm → Ending → Frame
  object : RowTerm → RowTerm → Ending → Frame
  after_object : RowTerm → RowTerm → Ending → Frame
  after_semicolon : RowTerm → Ending → Frame
  bracket : Place → RowTerm → Frame
  list : Place → ℕ → Cells → Frame
  suffix : Place → ℕ → Text → Frame
  datatype : Place → ℕ → Text → Frame

-- What is to be read next in a directive; true: a dot ends it.
pub data Directive : Type 0 where
  prefix_name : Bool → Directive
  namespace_of : Text → Bool → Directive
  new_base : Bool → Directive
  last_dot : Directive

-- A directive, or a statement: the frames that are open, the innermost first. Between statements none is open.
pub data Open : Type 0 where
  directive : Directive → Open
  statement : List Frame → Open
