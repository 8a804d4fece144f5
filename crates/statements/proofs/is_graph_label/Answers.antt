use Rattle.statements.proofs.OfLabels.{other_mode, other_shape, label_mode}
use Rattle.statements.proofs.is_graph_label.Goals as goal

pub returns-then-mode-ne0 : goal.returns-then-mode-ne0
returns-then-mode-ne0 c = search other_mode

pub returns-then-st-ne0 : goal.returns-then-st-ne0
returns-then-st-ne0 c = search other_shape

pub returns : goal.returns
returns c = search label_mode
