use borrow.Author.Tests.{lt-ltb, le-ltb}
use Rattle.escape.specs.Code.{bad}
use Rattle.escape.proofs.Character.is_bad.Goals as goal

pub returns-then-self-gt2 : goal.returns-then-self-gt2
unfolding bad
returns-then-self-gt2 c = simp (lt-ltb _ _ c.if-self-gt2.true) c.names_no_character.ensures

pub returns-else-self-gt2 : goal.returns-else-self-gt2
unfolding bad
returns-else-self-gt2 c = simp (le-ltb _ _ c.if-self-gt2.false)
