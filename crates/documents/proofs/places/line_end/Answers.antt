use Rattle.documents.proofs.Lines.{end_taken, end_past}
use Rattle.documents.proofs.places.line_end.Goals as goal

pub returns-then-document-at : goal.returns-then-document-at
returns-then-document-at c = end_past _ _ c.if-document-at.true

pub returns : goal.returns
returns c = end_taken _ _ _ c.if-document-at.false c.left_in_line.ensures
