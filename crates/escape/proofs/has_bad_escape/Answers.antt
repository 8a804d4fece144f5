use mathlib.Core.Path.{sym, ◌∙◌}
use Rattle.escape.proofs.Walk.{plain_good}
use Rattle.escape.proofs.has_bad_escape.Goals as goal

pub returns-then-not-has_backslash : goal.returns-then-not-has_backslash
returns-then-not-has_backslash c = plain_good c.args.s.now (sym c.has_backslash.ensures ∙ c.if-not-has_backslash.true)
