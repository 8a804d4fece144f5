use mathlib.Core.Path.{sym}
use Rattle.cursor.proofs.Seeking.{there_none, there_end}
use Rattle.cursor.proofs.kind_of_none.Goals as goal

pub returns-then-at-size : goal.returns-then-at-size
returns-then-at-size c = sym (there_none _ _ c.if-at-size.true)

pub returns : goal.returns
returns c = sym (there_end _ _ c.if-at-size.false)
