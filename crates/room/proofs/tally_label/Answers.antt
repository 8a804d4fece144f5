use Rattle.std.specs.Prelude.{unwrap_or}
use mathlib.Core.List.{[]}
use lib.ListN.{length, length-append}
use Rattle.spelling.specs.Form.{undo}
use Rattle.terms.specs.Keeps.{Means}
use Rattle.dataset.specs.Terms.{blank, label}
use mathlib.Core.Path.{refl, sym, ◌∙◌}
use native.Mathlib.Omega.{arith}
use Rattle.room.proofs.Tests.{one_counted, label_findable}
use Rattle.room.proofs.tally_label.Goals as goal

pub returns : goal.returns
unfolding Means undo
returns c = λ ts H. one_counted ts (blank (label c.args.text.now)) c.args.t c.more.result (unwrap_or c.find_text-n.result 0) (length c.args.text.now) c.more.ensures (c.find_text-n.ensures.0 ts (blank (label c.args.text.now)) H (refl, (refl, refl)) (label_findable c.args.text.now c.requires.1.0.0)) (sym (length-append c.args.text.now [] ∙ omega arith))
