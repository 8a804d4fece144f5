use mathlib.Core.Path.{sym, ap, ◌∙◌}
use Rattle.term_text.proofs.Spans.{part_of, none_of}
use Rattle.term_text.specs.Shown.{answer, lent}
use Rattle.term_text.proofs.Terms.answer_text.Goals as goal

pub returns-in-Some : goal.returns-in-Some
returns-in-Some c = sym (ap answer (part_of (lent c.args.self.now) c.args.number _ (sym c.find_span.ensures ∙ c.in-Some.is)).text)

pub returns-in-None : goal.returns-in-None
returns-in-None c = sym (ap answer (none_of (lent c.args.self.now) c.args.number (sym c.find_span.ensures ∙ c.in-None.is)))
