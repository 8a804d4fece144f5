use mathlib.Core.Path.{sym, ap, ◌∙◌}
use native.Mathlib.Omega.{arith}
use Rattle.table.specs.Layout.{entry_at}
use Rattle.table.specs.Usable.{text}
use Rattle.usable.specs.Lent.{bare, slices_of}
use Rattle.usable.proofs.Words.{kind_word, fourth_word}
use Rattle.comparison.proofs.ByKind.{fourth_kind, more_type, more_tag}
use Rattle.comparison.proofs.values.more_of.Goals as goal

pub span_of-requires : goal.span_of-requires
unfolding entry_at
span_of-requires c = (rw (fourth_word c.args.tables.now.terms.now c.args.n c.term_word-d.result c.term_word-d.ensures.0) (c.requires.0.type_stands (sym (kind_word c.args.tables.now.terms.now c.args.n c.term_word.result c.term_word.ensures.0) ∙ c.if-term_word-eq-LITERAL.true)), (omega arith, rw (fourth_word c.args.tables.now.terms.now c.args.n c.term_word-d.result c.term_word-d.ensures.0) (c.requires.0.type_in (sym (kind_word c.args.tables.now.terms.now c.args.n c.term_word.result c.term_word.ensures.0) ∙ c.if-term_word-eq-LITERAL.true))))

pub returns-then-term_word-eq-LITERAL : goal.returns-then-term_word-eq-LITERAL
unfolding entry_at
returns-then-term_word-eq-LITERAL c = c.span_of.ensures ∙ (ap (text (bare (slices_of c.args.tables.now))) (fourth_word c.args.tables.now.terms.now c.args.n c.term_word-d.result c.term_word-d.ensures.0) ∙ more_type (bare (slices_of c.args.tables.now)) c.args.n (sym (kind_word c.args.tables.now.terms.now c.args.n c.term_word.result c.term_word.ensures.0) ∙ c.if-term_word-eq-LITERAL.true))

pub tag_of-requires : goal.tag_of-requires
tag_of-requires c = (c.requires.0.stands, c.requires.0.tag_in c.requires.1.0 c.requires.1.1 (λ q. c.if-term_word-eq-LITERAL.false ((kind_word c.args.tables.now.terms.now c.args.n c.term_word.result c.term_word.ensures.0) ∙ q)))

pub returns : goal.returns
returns c = c.tag_of.ensures ∙ more_tag (bare (slices_of c.args.tables.now)) c.args.n (fourth_kind _ c.requires.0.low c.requires.0.high c.requires.1.0 c.requires.1.1 (λ q. c.if-term_word-eq-LITERAL.false ((kind_word c.args.tables.now.terms.now c.args.n c.term_word.result c.term_word.ensures.0) ∙ q)))
