use mathlib.Core.Path.{sym, ap₂, ◌∙◌}
use borrow.Author.Tests.{eq-eqb}
use Rattle.text.specs.Text.{same_text}
use Rattle.usable.specs.Lent.{bare}
use Rattle.usable.proofs.Words.{kind_word, fourth_word}
use Rattle.comparison.specs.Code.{nodes, tables_of}
use Rattle.comparison.proofs.ByKind.{other_kind, both_blank, both_iri, other_text, rest}
use Rattle.comparison.proofs.values.same_value.Goals as goal

pub returns-then-term_word-kind : goal.returns-then-term_word-kind
returns-then-term_word-kind c = other_kind (nodes c.args.mine.now.edition c.args.other.now.edition c.args.pairing.now.words.now) (bare (tables_of c.args.mine.now)) c.args.n (bare (tables_of c.args.other.now)) c.args.m c.requires.1.0 c.requires.1.1 (λ q. c.if-term_word-kind.true ((kind_word c.args.other.now.tables.terms.now c.args.m c.term_word.result c.term_word.ensures.0) ∙ (q ∙ sym (kind_word c.args.mine.now.tables.terms.now c.args.n c.term_word-kind.result c.term_word-kind.ensures.0))))

pub returns-then-kind-eq-BLANK : goal.returns-then-kind-eq-BLANK
returns-then-kind-eq-BLANK c = c.same_node.ensures ∙ (ap₂ (nodes c.args.mine.now.edition c.args.other.now.edition c.args.pairing.now.words.now) (fourth_word c.args.mine.now.tables.terms.now c.args.n c.term_word-then-kind-eq-BLANK.result c.term_word-then-kind-eq-BLANK.ensures.0) (fourth_word c.args.other.now.tables.terms.now c.args.m c.term_word-then-kind-eq-BLANK-2.result c.term_word-then-kind-eq-BLANK-2.ensures.0) ∙ both_blank (nodes c.args.mine.now.edition c.args.other.now.edition c.args.pairing.now.words.now) (bare (tables_of c.args.mine.now)) c.args.n (bare (tables_of c.args.other.now)) c.args.m c.requires.1.0 c.requires.1.1 ((sym (kind_word c.args.other.now.tables.terms.now c.args.m c.term_word.result c.term_word.ensures.0) ∙ (c.if-term_word-kind.false ∙ (kind_word c.args.mine.now.tables.terms.now c.args.n c.term_word-kind.result c.term_word-kind.ensures.0)))) (sym (kind_word c.args.mine.now.tables.terms.now c.args.n c.term_word-kind.result c.term_word-kind.ensures.0) ∙ c.if-kind-eq-BLANK.true))

pub returns-then-not-same : goal.returns-then-not-same
returns-then-not-same c = other_text (nodes c.args.mine.now.edition c.args.other.now.edition c.args.pairing.now.words.now) (bare (tables_of c.args.mine.now)) c.args.n (bare (tables_of c.args.other.now)) c.args.m c.requires.1.0 c.requires.1.1 ((sym (kind_word c.args.other.now.tables.terms.now c.args.m c.term_word.result c.term_word.ensures.0) ∙ (c.if-term_word-kind.false ∙ (kind_word c.args.mine.now.tables.terms.now c.args.n c.term_word-kind.result c.term_word-kind.ensures.0)))) ((λ q. c.if-kind-eq-BLANK.false ((kind_word c.args.mine.now.tables.terms.now c.args.n c.term_word-kind.result c.term_word-kind.ensures.0) ∙ q))) ((sym (c.same.ensures ∙ ap₂ same_text c.text_of.ensures c.text_of-2.ensures)) ∙ c.if-not-same.true)

pub returns-then-kind-eq-IRI : goal.returns-then-kind-eq-IRI
returns-then-kind-eq-IRI c = eq-eqb _ _ c.if-kind-eq-IRI.true ∙ both_iri (nodes c.args.mine.now.edition c.args.other.now.edition c.args.pairing.now.words.now) (bare (tables_of c.args.mine.now)) c.args.n (bare (tables_of c.args.other.now)) c.args.m c.requires.1.0 c.requires.1.1 ((sym (kind_word c.args.other.now.tables.terms.now c.args.m c.term_word.result c.term_word.ensures.0) ∙ (c.if-term_word-kind.false ∙ (kind_word c.args.mine.now.tables.terms.now c.args.n c.term_word-kind.result c.term_word-kind.ensures.0)))) (sym (kind_word c.args.mine.now.tables.terms.now c.args.n c.term_word-kind.result c.term_word-kind.ensures.0) ∙ c.if-kind-eq-IRI.true) ((sym (c.same.ensures ∙ ap₂ same_text c.text_of.ensures c.text_of-2.ensures)) ∙ c.if-not-same.false)

pub more_of-requires : goal.more_of-requires
more_of-requires c = (c.requires.1.0, ((λ q. c.if-kind-eq-IRI.false ((kind_word c.args.mine.now.tables.terms.now c.args.n c.term_word-kind.result c.term_word-kind.ensures.0) ∙ q)), (λ q. c.if-kind-eq-BLANK.false ((kind_word c.args.mine.now.tables.terms.now c.args.n c.term_word-kind.result c.term_word-kind.ensures.0) ∙ q))))

pub more_of-requires-else-kind-eq-IRI : goal.more_of-requires-else-kind-eq-IRI
more_of-requires-else-kind-eq-IRI c = (c.requires.1.1, ((λ q. c.if-kind-eq-IRI.false ((kind_word c.args.mine.now.tables.terms.now c.args.n c.term_word-kind.result c.term_word-kind.ensures.0) ∙ (sym ((sym (kind_word c.args.other.now.tables.terms.now c.args.m c.term_word.result c.term_word.ensures.0) ∙ (c.if-term_word-kind.false ∙ (kind_word c.args.mine.now.tables.terms.now c.args.n c.term_word-kind.result c.term_word-kind.ensures.0)))) ∙ q))), (λ q. c.if-kind-eq-BLANK.false ((kind_word c.args.mine.now.tables.terms.now c.args.n c.term_word-kind.result c.term_word-kind.ensures.0) ∙ (sym ((sym (kind_word c.args.other.now.tables.terms.now c.args.m c.term_word.result c.term_word.ensures.0) ∙ (c.if-term_word-kind.false ∙ (kind_word c.args.mine.now.tables.terms.now c.args.n c.term_word-kind.result c.term_word-kind.ensures.0)))) ∙ q)))))

pub returns-else-kind-eq-IRI : goal.returns-else-kind-eq-IRI
returns-else-kind-eq-IRI c = c.same-else-kind-eq-IRI.ensures ∙ (ap₂ same_text c.more_of.ensures c.more_of-else-kind-eq-IRI.ensures ∙ rest (nodes c.args.mine.now.edition c.args.other.now.edition c.args.pairing.now.words.now) (bare (tables_of c.args.mine.now)) c.args.n (bare (tables_of c.args.other.now)) c.args.m c.requires.1.0 c.requires.1.1 ((sym (kind_word c.args.other.now.tables.terms.now c.args.m c.term_word.result c.term_word.ensures.0) ∙ (c.if-term_word-kind.false ∙ (kind_word c.args.mine.now.tables.terms.now c.args.n c.term_word-kind.result c.term_word-kind.ensures.0)))) ((λ q. c.if-kind-eq-BLANK.false ((kind_word c.args.mine.now.tables.terms.now c.args.n c.term_word-kind.result c.term_word-kind.ensures.0) ∙ q))) (λ q. c.if-kind-eq-IRI.false ((kind_word c.args.mine.now.tables.terms.now c.args.n c.term_word-kind.result c.term_word-kind.ensures.0) ∙ q)) ((sym (c.same.ensures ∙ ap₂ same_text c.text_of.ensures c.text_of-2.ensures)) ∙ c.if-not-same.false))
