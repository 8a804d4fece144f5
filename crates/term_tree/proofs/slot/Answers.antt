use Rattle.term_tree.specs.Slots.{slot_at}
use Rattle.term_tree.proofs.slot.Goals as goal

pub returns : goal.returns
unfolding slot_at
returns c = c.four.ensures.0
