use Rattle.escape.specs.Code.{undone}
use Rattle.spelling.specs.Form.{undo}
use Rattle.spelling.proofs.same_undone.Goals as goal

pub returns-in-Plain : goal.returns-in-Plain
unfolding undo
returns-in-Plain c = rw c.in-Plain.is c.same.ensures

pub returns-in-Escaped : goal.returns-in-Escaped
unfolding undo undone
returns-in-Escaped c = rw c.in-Escaped.is c.same_undone.ensures

pub returns-in-Reserved : goal.returns-in-Reserved
unfolding undo undone
returns-in-Reserved c = rw c.in-Reserved.is c.same_undone-in-Reserved.ensures
