use mathlib.Core.Path.{ap, ◌∙◌}
use Rattle.text.specs.Text.{same_text}
use Rattle.state.specs.Writes.{node_iri}
use Rattle.room.proofs.Tests.{supplied_is}
use Rattle.room.proofs.is_named.Goals as goal

pub returns : goal.returns
returns c = c.same_joined.ensures ∙ ap (same_text (node_iri c.args.node c.args.work.now c.args.back.now)) (c.text.ensures ∙ supplied_is c.args.which)
