use mathlib.Core.Path.{◌∙◌}
use Rattle.text.specs.Runs.{byte}
use Rattle.text.proofs.Library.{some_is}
use Rattle.text.proofs.has.Goals as goal

pub returns : goal.returns
returns c = c.contains.ensures.value ∙ some_is (byte c.args.q) c.args.s.now
