use mathlib.Core.Path.{refl, sym, ◌∙◌}
use Rattle.text.proofs.Compare.{contrary}
use Rattle.writes.proofs.holder.Goals as goal

pub new_cell-requires : goal.new_cell-requires
new_cell-requires c = (c.requires.0 c.if-spot.true, c.requires.1)

pub returns-then-spot : goal.returns-then-spot
returns-then-spot c = record { listed = λ e. c.new_cell.ensures; alone = λ e. contrary (sym c.if-spot.true ∙ e) }

pub returns : goal.returns
returns c = record { listed = λ e. contrary (sym e ∙ c.if-spot.false); alone = λ e. (refl, (refl, (refl, refl))) }
