use Rattle.table.specs.Layout.{entry_at}
use Rattle.usable.specs.Lent.{slices_of}
use Rattle.usable.proofs.Words.{kind_word, fourth_word}
use Rattle.writer.proofs.Chains.{both, room_after}
use Rattle.writer.proofs.Pieces.{literal_typed, literal_tagged, literal_string}
use native.Mathlib.Omega.{arith}
use mathlib.Core.Path.{sym, ◌∙◌}
use Rattle.writer.proofs.forms.put_literal.Goals as goal

pub span_of-requires : goal.span_of-requires
unfolding entry_at
span_of-requires c = (c.requires.0.stands, (omega arith, c.requires.0.text_in))

pub put_string-end-requires : goal.put_string-end-requires
unfolding entry_at
put_string-end-requires c = let tables = slices_of c.args.tables.now in
    rw c.span_of.ensures (literal_string tables c.args.n c.requires.1.1)

pub term_word-requires : goal.term_word-requires
term_word-requires c = (c.requires.0.stands, omega arith)

pub term_word-d-requires : goal.term_word-d-requires
term_word-d-requires c = (c.requires.0.stands, omega arith)

pub span_of-requires-then-term_word-eq-LITERAL : goal.span_of-requires-then-term_word-eq-LITERAL
unfolding entry_at
span_of-requires-then-term_word-eq-LITERAL c = let datatype = fourth_word c.args.tables.now.terms.now c.args.n c.term_word-d.result c.term_word-d.ensures.0 in
    let kind = kind_word c.args.tables.now.terms.now c.args.n c.term_word.result c.term_word.ensures.0 in
    let literal = sym kind ∙ c.if-term_word-eq-LITERAL.true in
    rw datatype (c.requires.0.type_stands literal, (omega arith, c.requires.0.type_in literal))

pub put_type-requires : goal.put_type-requires
unfolding entry_at
put_type-requires c = let datatype = fourth_word c.args.tables.now.terms.now c.args.n c.term_word-d.result c.term_word-d.ensures.0 in
    let string = rw c.span_of.ensures at c.put_string-end.ensures in
    let tables = slices_of c.args.tables.now in
    let kind = kind_word c.args.tables.now.terms.now c.args.n c.term_word.result c.term_word.ensures.0 in
    let literal = sym kind ∙ c.if-term_word-eq-LITERAL.true in
    let form = literal_typed tables c.args.n literal in
    rw (c.span_of-then-term_word-eq-LITERAL.ensures, datatype) (room_after string (rw form at c.requires.1.1))

pub returns-then-term_word-eq-LITERAL : goal.returns-then-term_word-eq-LITERAL
unfolding entry_at
returns-then-term_word-eq-LITERAL c = let tables = slices_of c.args.tables.now in
    let kind = kind_word c.args.tables.now.terms.now c.args.n c.term_word.result c.term_word.ensures.0 in
    let literal = sym kind ∙ c.if-term_word-eq-LITERAL.true in
    let form = literal_typed tables c.args.n literal in
    let string = rw c.span_of.ensures at c.put_string-end.ensures in
    let datatype = fourth_word c.args.tables.now.terms.now c.args.n c.term_word-d.result c.term_word-d.ensures.0 in
    rw form (both string (rw (c.span_of-then-term_word-eq-LITERAL.ensures, datatype) at c.put_type.ensures))

pub span_of-requires-2 : goal.span_of-requires-2
unfolding entry_at
span_of-requires-2 c = let kind = kind_word c.args.tables.now.terms.now c.args.n c.term_word.result c.term_word.ensures.0 in
    (c.requires.0.stands, (omega arith, c.requires.0.tag_in c.requires.1.0.0 c.requires.1.0.1 (λ e. c.if-term_word-eq-LITERAL.false (kind ∙ e))))

pub put_tag-requires : goal.put_tag-requires
unfolding entry_at
put_tag-requires c = let string = rw c.span_of.ensures at c.put_string-end.ensures in
    let tables = slices_of c.args.tables.now in
    let kind = kind_word c.args.tables.now.terms.now c.args.n c.term_word.result c.term_word.ensures.0 in
    let form = literal_tagged tables c.args.n (λ e. c.if-term_word-eq-LITERAL.false (kind ∙ e)) in
    rw c.span_of-2.ensures (room_after string (rw form at c.requires.1.1))

pub returns : goal.returns
unfolding entry_at
returns c = let tables = slices_of c.args.tables.now in
    let kind = kind_word c.args.tables.now.terms.now c.args.n c.term_word.result c.term_word.ensures.0 in
    let form = literal_tagged tables c.args.n (λ e. c.if-term_word-eq-LITERAL.false (kind ∙ e)) in
    let string = rw c.span_of.ensures at c.put_string-end.ensures in
    rw form (both string (rw c.span_of-2.ensures at c.put_tag.ensures))
