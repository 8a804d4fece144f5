use mathlib.Core.Path.{sym, ◌∙◌}
use Rattle.nesting.proofs.Aiming.{unexpected_call}
use Rattle.subjects.proofs.OfTerms.{subject_none}
use Rattle.subjects.proofs.subject.Goals as goal

pub term_subject-requires : goal.term_subject-requires
term_subject-requires c = (c.requires, sym c.is_label.ensures ∙ c.if-is_label.true)

pub bracket_subject-requires : goal.bracket_subject-requires
bracket_subject-requires c = (c.requires, c.if-kind-eq-OPEN_BRACKET.true)

pub list_subject-requires : goal.list_subject-requires
list_subject-requires c = (c.requires, c.if-kind-eq-OPEN_PAREN.true)

pub unexpected-requires : goal.unexpected-requires
unexpected-requires c = unexpected_call _ c.args.held.now c.requires

pub returns : goal.returns
returns c = subject_none _ _ _ c.requires (sym c.is_label.ensures ∙ c.if-is_label.false) c.if-kind-eq-OPEN_BRACKET.false c.if-kind-eq-OPEN_PAREN.false c.unexpected.ensures
