use mathlib.Core.Path.{sym, ◌∙◌}
use native.Mathlib.Omega.{arith}
use lib.Seq.{length-take-le}
use Rattle.spelling.specs.Form.{undo}
use Rattle.spelling.specs.declared.Form.TheVariants.{Plain}
use Rattle.spelling.proofs.Forms.{joined_short, joined_not, joined_same}
use Rattle.spelling.proofs.same_plain.Goals as goal

pub returns-then-t-size : goal.returns-then-t-size
returns-then-t-size c = joined_short c.args.front.now Plain c.args.back.now c.args.t.now (omega arith)

pub slice_bounds-same-end-then-same : goal.slice_bounds-same-end-then-same
slice_bounds-same-end-then-same c = sym (length-take-le _ c.args.t.now (omega arith))

pub returns-then-same : goal.returns-then-same
unfolding undo
returns-then-same c = joined_same c.args.front.now Plain c.args.back.now c.args.t.now _ (sym c.same.ensures ∙ c.if-same.true) c.same-then-same.ensures

pub returns : goal.returns
unfolding undo
returns c = joined_not c.args.front.now Plain c.args.back.now c.args.t.now (sym c.same.ensures ∙ c.if-same.false)
