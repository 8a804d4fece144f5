use Rattle.escape.specs.Code.{undone}
use Rattle.spelling.specs.Form.{undo}
use Rattle.spelling.proofs.hash_undone.Goals as goal

pub returns-in-Plain : goal.returns-in-Plain
unfolding undo
returns-in-Plain c = rw c.in-Plain.is c.hash_bytes.ensures

pub returns-in-Escaped : goal.returns-in-Escaped
unfolding undo undone
returns-in-Escaped c = rw c.in-Escaped.is c.hash_stretches.ensures

pub returns-in-Reserved : goal.returns-in-Reserved
unfolding undo undone
returns-in-Reserved c = rw c.in-Reserved.is c.hash_stretches-in-Reserved.ensures
