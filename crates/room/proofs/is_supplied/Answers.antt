use mathlib.Core.Path.{refl, ◌∙◌}
use Rattle.state.specs.Writes.{node_iri}
use Rattle.room.specs.Counting.{is_supplied}
use Rattle.room.proofs.Tests.{named_is}
use Rattle.room.proofs.is_supplied.Goals as goal

pub returns-in-None : goal.returns-in-None
unfolding is_supplied
returns-in-None c = rw c.in-None.is refl

pub returns-in-Nil : goal.returns-in-Nil
unfolding is_supplied
returns-in-Nil c = rw (c.in-Some.is, c.in-Nil.is) refl

pub returns-in_default : goal.returns-in_default
returns-in_default c = rw c.in-Some.is (c.is_named.ensures ∙ named_is c.in-Some.which (node_iri c.args.node c.args.work.now c.args.back.now) c.in_default.not-Nil)
