use mathlib.Core.Path.{refl, sym, ◌∙◌}
use Rattle.spelling.specs.Form.{undo, bad}
use Rattle.spelling.proofs.Forms.{plain_form}
use Rattle.spelling.proofs.simplest.Goals as goal

pub returns-then-has_backslash : goal.returns-then-has_backslash
returns-then-has_backslash c = (refl, refl)

pub returns : goal.returns
unfolding undo bad
returns c = plain_form c.args.form c.args.back.now (sym c.has_backslash.ensures ∙ c.if-has_backslash.false)
