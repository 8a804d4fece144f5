use mathlib.Core.Path.{sym, ◌∙◌}
use Rattle.look_up.specs.Record.{rows}
use Rattle.subject_index.proofs.Checking.{no_head, head_fits, then_text}
use Rattle.subject_index.proofs.has_record.Goals as goal

pub returns-then-not-begins : goal.returns-then-not-begins
returns-then-not-begins c = no_head c.args.text.now _ (rows c.args.count c.args.first) _ c.head_of-head.ensures (sym c.begins.ensures ∙ c.if-not-begins.true)

pub slice_bounds-begins-count : goal.slice_bounds-begins-count
slice_bounds-begins-count c = head_fits c.args.text.now _ (rows c.args.count c.args.first) _ c.head_of-head.ensures (sym c.begins.ensures ∙ c.if-not-begins.false)

pub slice_bounds-begins-start : goal.slice_bounds-begins-start
slice_bounds-begins-start c = head_fits c.args.text.now _ (rows c.args.count c.args.first) _ c.head_of-head.ensures (sym c.begins.ensures ∙ c.if-not-begins.false)

pub returns : goal.returns
returns c = then_text c.args.text.now _ (rows c.args.count c.args.first) _ c.head_of-head.ensures (sym c.begins.ensures ∙ c.if-not-begins.false) _ c.begins-2.ensures
