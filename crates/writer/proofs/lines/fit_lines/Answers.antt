use native.Mathlib.Omega.{arith}
use mathlib.Core.Path.{refl, ◌∙◌}
use Rattle.usable.specs.Lent.{slices_of}
use Rattle.writer.proofs.Chains.{wrote_length}
use Rattle.writer.proofs.RowForms.{none_length, too_long, more_length, all_fit}
use Rattle.writer.proofs.lines.fit_lines.Goals as goal

pub loop-i-init : goal.loop-i-init
loop-i-init c = (none_length (slices_of c.args.tables.now), omega arith, refl)

pub put_line-n-requires : goal.put_line-n-requires
put_line-n-requires c = (c.requires.0 c.loop-i.i (omega arith), c.requires.1 c.loop-i.i (omega arith))

pub returns-then-limit-total : goal.returns-then-limit-total
returns-then-limit-total c =
    too_long (slices_of c.args.tables.now) c.loop-i.i c.args.count (omega arith) c.loop-i.total c.args.limit c.put_line-n.result c.loop-i.invariant.0 c.put_line-n.ensures.end c.if-limit-total.true

pub loop-i-preserved : goal.loop-i-preserved
loop-i-preserved c =
    (more_length (slices_of c.args.tables.now) c.loop-i.i c.loop-i.total c.put_line-n.result c.loop-i.invariant.0 c.put_line-n.ensures.end, omega arith, wrote_length c.put_line-n.ensures ∙ c.loop-i.invariant.2)

pub returns : goal.returns
returns c =
    all_fit (slices_of c.args.tables.now) c.loop-i.i c.args.count c.loop-i.total c.args.limit (omega arith) (omega arith) c.loop-i.invariant.0 c.loop-i.invariant.1
