use mathlib.Core.Path.{sym, ◌∙◌}
use Rattle.documents.proofs.Endings.{turtle_name, other_name}
use Rattle.documents.proofs.choice.mode_by_name.Goals as goal

pub returns-then-ends_with : goal.returns-then-ends_with
returns-then-ends_with c = turtle_name _ (sym c.ends_with.ensures.value ∙ c.if-ends_with.true)

pub returns : goal.returns
returns c = other_name _ (sym c.ends_with.ensures.value ∙ c.if-ends_with.false)
