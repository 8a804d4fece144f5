use mathlib.Core.Path.{◌∙◌}
use Rattle.text.proofs.Library.{begins_is}
use Rattle.text.proofs.begins.Goals as goal

pub returns : goal.returns
returns c = c.starts_with.ensures.value ∙ begins_is c.args.s.now c.args.t.now
