use Prim.Native.Nat.{ℕ}
use mathlib.Core.Path.{◌≡◌, ap, ◌∙◌}
use native.Mathlib.Omega.{arith}
use lib.ListN.{length}
use Rattle.text.proofs.Over.{over_length}
use Rattle.escape.specs.Code.{undone}
use Rattle.spelling.specs.Form.{undo, bad}
use Rattle.spelling.proofs.write_undone.Goals as goal

pub returns-in-Plain : goal.returns-in-Plain
unfolding undo bad
returns-in-Plain c = rw c.in-Plain.is (record { long = c.write_plain.ensures.0; size = ap length c.write_plain.ensures.1 ∙ over_length _ c.args.out.now; text = λ _. c.write_plain.ensures.1 })

pub returns-in-Escaped : goal.returns-in-Escaped
unfolding undo bad undone
returns-in-Escaped c = let w = c.write_undone.ensures in rw c.in-Escaped.is (record { long = w.long; size = w.size; text = λ g. w.text (λ q. g) })

pub returns-in-Reserved : goal.returns-in-Reserved
unfolding undo bad undone
returns-in-Reserved c = let w = c.write_undone-in-Reserved.ensures in rw c.in-Reserved.is (record { long = w.long; size = w.size; text = λ g. w.text (λ q. absurd (let x : ◌≡◌ {A = ℕ} 0 1 = cc in omega arith)) })
