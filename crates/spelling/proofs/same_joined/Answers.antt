use mathlib.Core.Path.{sym, ◌∙◌}
use native.Mathlib.Omega.{arith}
use lib.Seq.{length-take-le}
use Rattle.spelling.proofs.Forms.{joined_short, joined_not, joined_same}
use Rattle.spelling.proofs.same_joined.Goals as goal

pub returns-then-t-n : goal.returns-then-t-n
returns-then-t-n c = joined_short c.args.front.now c.args.form c.args.back.now c.args.t.now (omega arith)

pub slice_bounds-same-end : goal.slice_bounds-same-end
slice_bounds-same-end c = sym (length-take-le _ c.args.t.now (omega arith))

pub returns-then-same_undone : goal.returns-then-same_undone
returns-then-same_undone c = joined_same c.args.front.now c.args.form c.args.back.now c.args.t.now _ (sym c.same_undone.ensures ∙ c.if-same_undone.true) c.same.ensures

pub returns : goal.returns
returns c = joined_not c.args.front.now c.args.form c.args.back.now c.args.t.now (sym c.same_undone.ensures ∙ c.if-same_undone.false)
