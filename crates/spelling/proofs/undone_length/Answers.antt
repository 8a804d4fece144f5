use Rattle.escape.specs.Code.{undone}
use Rattle.spelling.specs.Form.{undo}
use Rattle.spelling.proofs.undone_length.Goals as goal

pub returns-in-Plain : goal.returns-in-Plain
unfolding undo
returns-in-Plain c = rw c.in-Plain.is

pub returns-in-Escaped : goal.returns-in-Escaped
unfolding undo undone
returns-in-Escaped c = rw c.in-Escaped.is c.undone_length.ensures

pub returns-in-Reserved : goal.returns-in-Reserved
unfolding undo undone
returns-in-Reserved c = rw c.in-Reserved.is c.undone_length-in-Reserved.ensures
