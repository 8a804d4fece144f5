use mathlib.Core.Path.{sym, ap, ◌∙◌}
use native.Mathlib.Omega.{arith}
use Rattle.term_text.proofs.Spans.{part_of, none_of, shown_part}
use Rattle.term_text.specs.Shown.{text_of, lent}
use Rattle.term_text.proofs.Terms.show_text.Goals as goal

pub overflow_add-result : goal.overflow_add-result
overflow_add-result c = omega (arith, (part_of (lent c.args.self.now) c.args.number _ (sym c.find_span.ensures ∙ c.in-Some.is)).inside)

pub slice_bounds-result-end : goal.slice_bounds-result-end
slice_bounds-result-end c = omega (arith, (part_of (lent c.args.self.now) c.args.number _ (sym c.find_span.ensures ∙ c.in-Some.is)).inside)

pub returns-in-Some : goal.returns-in-Some
returns-in-Some c =
    let s = lent c.args.self.now in
    shown_part s c.args.number _ _ (part_of s c.args.number _ (sym c.find_span.ensures ∙ c.in-Some.is))

pub returns-in-None : goal.returns-in-None
returns-in-None c = sym (ap text_of (none_of (lent c.args.self.now) c.args.number (sym c.find_span.ensures ∙ c.in-None.is)))
