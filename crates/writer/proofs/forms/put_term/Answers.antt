use native.Mathlib.Omega.{arith}
use mathlib.Core.Path.{◌≡◌, sym, ◌∙◌}
use borrow.Author.Rules.{rules}
use Rattle.table.specs.Layout.{entry_at}
use Rattle.usable.specs.Lent.{slices_of}
use Rattle.usable.proofs.Words.{kind_word, fourth_word}
use Rattle.writer.proofs.Pieces.{term_iri, term_blank, term_literal}
use Rattle.writer.proofs.forms.put_term.Goals as goal

pub span_of-requires : goal.span_of-requires
unfolding entry_at
span_of-requires c = (c.requires.0.stands, (omega arith, c.requires.0.text_in))

pub put_iri-requires : goal.put_iri-requires
unfolding entry_at
put_iri-requires c =
    let kind = kind_word c.args.tables.now.terms.now c.args.n c.term_word.result c.term_word.ensures.0 in
    let form = term_iri (slices_of c.args.tables.now) c.args.n (sym kind ∙ c.in-1.is) in
    rw c.span_of.ensures (rw form at c.requires.1)

pub returns-in-1 : goal.returns-in-1
unfolding entry_at
returns-in-1 c =
    let kind = kind_word c.args.tables.now.terms.now c.args.n c.term_word.result c.term_word.ensures.0 in
    let form = term_iri (slices_of c.args.tables.now) c.args.n (sym kind ∙ c.in-1.is) in
    rw form (rw c.span_of.ensures at c.put_iri.ensures)

pub put_blank-requires : goal.put_blank-requires
put_blank-requires c =
    let kind = kind_word c.args.tables.now.terms.now c.args.n c.term_word.result c.term_word.ensures.0 in
    let number = fourth_word c.args.tables.now.terms.now c.args.n c.term_word-in-2.result c.term_word-in-2.ensures.0 in
    let form = term_blank (slices_of c.args.tables.now) c.args.n (λ e. omega (arith, kind, e, c.in-2.is)) (sym kind ∙ c.in-2.is) in
    rw number (rw form at c.requires.1)

pub returns-in-2 : goal.returns-in-2
returns-in-2 c =
    let kind = kind_word c.args.tables.now.terms.now c.args.n c.term_word.result c.term_word.ensures.0 in
    let number = fourth_word c.args.tables.now.terms.now c.args.n c.term_word-in-2.result c.term_word-in-2.ensures.0 in
    let form = term_blank (slices_of c.args.tables.now) c.args.n (λ e. omega (arith, kind, e, c.in-2.is)) (sym kind ∙ c.in-2.is) in
    rw form (rw number at c.put_blank.ensures)

pub put_literal-requires : goal.put_literal-requires
put_literal-requires c =
    let kind = kind_word c.args.tables.now.terms.now c.args.n c.term_word.result c.term_word.ensures.0 in
    let others : (c.term_word.result ≡ 1 → ⊥) × (c.term_word.result ≡ 2 → ⊥) = search rules in
    let form = term_literal (slices_of c.args.tables.now) c.args.n (λ e. others.0 (kind ∙ e)) (λ e. others.1 (kind ∙ e)) in
    (c.requires.0, (((λ e. others.0 (kind ∙ e)), (λ e. others.1 (kind ∙ e))), rw form at c.requires.1))

pub returns-in_default : goal.returns-in_default
returns-in_default c =
    let kind = kind_word c.args.tables.now.terms.now c.args.n c.term_word.result c.term_word.ensures.0 in
    let others : (c.term_word.result ≡ 1 → ⊥) × (c.term_word.result ≡ 2 → ⊥) = search rules in
    rw (term_literal (slices_of c.args.tables.now) c.args.n (λ e. others.0 (kind ∙ e)) (λ e. others.1 (kind ∙ e))) c.put_literal.ensures
