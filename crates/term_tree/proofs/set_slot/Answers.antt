use native.Mathlib.Omega.{arith}
use mathlib.Core.Path.{◌∙◌}
use Rattle.term_tree.proofs.Slots.{slot_copied}
use Rattle.term_tree.proofs.set_slot.Goals as goal

pub returns : goal.returns
returns c = slot_copied c.args.s.now c.copy_from_slice.new.self c.args.i c.args.v _ c.requires.0 (omega arith) (c.copy_from_slice.ensures.after ∙ c.to_le_bytes.ensures)
