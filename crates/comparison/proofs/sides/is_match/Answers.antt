use mathlib.Core.Path.{◌∙◌}
use Rattle.comparison.proofs.Listing.{key_differs}
use Rattle.comparison.proofs.sides.is_match.Goals as goal

pub returns-else-may_have : goal.returns-else-may_have
returns-else-may_have c = c.if-may_have.false ∙ key_differs c.args.pairing.now.words.now c.requires.0.0 c.args.mine.now c.args.i c.args.other.now c.args.key c.requires.1.0 c.args.j c.may_have.result c.may_have.ensures c.if-may_have.false
