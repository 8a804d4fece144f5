use mathlib.Core.Path.{sym, ap₂, ◌∙◌}
use Rattle.table.specs.Usable.{term, graph}
use Rattle.usable.proofs.Words.{graph_word, subject_word, predicate_word, object_word}
use Rattle.comparison.specs.Comparison.{alike, alike_graph, statement as row_statement}
use Rattle.comparison.specs.Code.{nodes, tables_of}
use Rattle.comparison.proofs.ByKind.{other_object, other_subject, other_predicate, same_triple}
use Rattle.comparison.proofs.values.same_statement.Goals as goal

pub same_value-requires : goal.same_value-requires
same_value-requires c = (c.requires.0, (rw (object_word c.args.mine.now.tables.rows.now c.args.i c.row_word.result c.row_word.ensures.0) c.requires.1.0.object, rw (object_word c.args.other.now.tables.rows.now c.args.j c.row_word-2.result c.row_word-2.ensures.0) c.requires.1.1.object))

pub returns-then-not-same_value : goal.returns-then-not-same_value
returns-then-not-same_value c = other_object (nodes c.args.mine.now.edition c.args.other.now.edition c.args.pairing.now.words.now) (row_statement (tables_of c.args.mine.now) c.args.i) (row_statement (tables_of c.args.other.now) c.args.j) ((sym (c.same_value.ensures ∙ ap₂ (λ x y. alike (nodes c.args.mine.now.edition c.args.other.now.edition c.args.pairing.now.words.now) (term (tables_of c.args.mine.now) x) (term (tables_of c.args.other.now) y)) (object_word c.args.mine.now.tables.rows.now c.args.i c.row_word.result c.row_word.ensures.0) (object_word c.args.other.now.tables.rows.now c.args.j c.row_word-2.result c.row_word-2.ensures.0))) ∙ c.if-not-same_value.true)

pub same_value-requires-2 : goal.same_value-requires-2
same_value-requires-2 c = (c.requires.0, (rw (subject_word c.args.mine.now.tables.rows.now c.args.i c.row_word-3.result c.row_word-3.ensures.0) c.requires.1.0.subject, rw (subject_word c.args.other.now.tables.rows.now c.args.j c.row_word-4.result c.row_word-4.ensures.0) c.requires.1.1.subject))

pub returns-then-not-same_value-2 : goal.returns-then-not-same_value-2
returns-then-not-same_value-2 c = other_subject (nodes c.args.mine.now.edition c.args.other.now.edition c.args.pairing.now.words.now) (row_statement (tables_of c.args.mine.now) c.args.i) (row_statement (tables_of c.args.other.now) c.args.j) ((sym (c.same_value.ensures ∙ ap₂ (λ x y. alike (nodes c.args.mine.now.edition c.args.other.now.edition c.args.pairing.now.words.now) (term (tables_of c.args.mine.now) x) (term (tables_of c.args.other.now) y)) (object_word c.args.mine.now.tables.rows.now c.args.i c.row_word.result c.row_word.ensures.0) (object_word c.args.other.now.tables.rows.now c.args.j c.row_word-2.result c.row_word-2.ensures.0))) ∙ c.if-not-same_value.false) ((sym (c.same_value-2.ensures ∙ ap₂ (λ x y. alike (nodes c.args.mine.now.edition c.args.other.now.edition c.args.pairing.now.words.now) (term (tables_of c.args.mine.now) x) (term (tables_of c.args.other.now) y)) (subject_word c.args.mine.now.tables.rows.now c.args.i c.row_word-3.result c.row_word-3.ensures.0) (subject_word c.args.other.now.tables.rows.now c.args.j c.row_word-4.result c.row_word-4.ensures.0))) ∙ c.if-not-same_value-2.true)

pub same_value-requires-3 : goal.same_value-requires-3
same_value-requires-3 c = (c.requires.0, (rw (predicate_word c.args.mine.now.tables.rows.now c.args.i c.row_word-5.result c.row_word-5.ensures.0) c.requires.1.0.predicate, rw (predicate_word c.args.other.now.tables.rows.now c.args.j c.row_word-6.result c.row_word-6.ensures.0) c.requires.1.1.predicate))

pub returns-then-not-same_value-3 : goal.returns-then-not-same_value-3
returns-then-not-same_value-3 c = other_predicate (nodes c.args.mine.now.edition c.args.other.now.edition c.args.pairing.now.words.now) (row_statement (tables_of c.args.mine.now) c.args.i) (row_statement (tables_of c.args.other.now) c.args.j) ((sym (c.same_value.ensures ∙ ap₂ (λ x y. alike (nodes c.args.mine.now.edition c.args.other.now.edition c.args.pairing.now.words.now) (term (tables_of c.args.mine.now) x) (term (tables_of c.args.other.now) y)) (object_word c.args.mine.now.tables.rows.now c.args.i c.row_word.result c.row_word.ensures.0) (object_word c.args.other.now.tables.rows.now c.args.j c.row_word-2.result c.row_word-2.ensures.0))) ∙ c.if-not-same_value.false) ((sym (c.same_value-2.ensures ∙ ap₂ (λ x y. alike (nodes c.args.mine.now.edition c.args.other.now.edition c.args.pairing.now.words.now) (term (tables_of c.args.mine.now) x) (term (tables_of c.args.other.now) y)) (subject_word c.args.mine.now.tables.rows.now c.args.i c.row_word-3.result c.row_word-3.ensures.0) (subject_word c.args.other.now.tables.rows.now c.args.j c.row_word-4.result c.row_word-4.ensures.0))) ∙ c.if-not-same_value-2.false) ((sym (c.same_value-3.ensures ∙ ap₂ (λ x y. alike (nodes c.args.mine.now.edition c.args.other.now.edition c.args.pairing.now.words.now) (term (tables_of c.args.mine.now) x) (term (tables_of c.args.other.now) y)) (predicate_word c.args.mine.now.tables.rows.now c.args.i c.row_word-5.result c.row_word-5.ensures.0) (predicate_word c.args.other.now.tables.rows.now c.args.j c.row_word-6.result c.row_word-6.ensures.0))) ∙ c.if-not-same_value-3.true)

pub same_graph-requires : goal.same_graph-requires
same_graph-requires c = (c.requires.0, (rw (graph_word c.args.mine.now.tables.rows.now c.args.i c.row_word-7.result c.row_word-7.ensures.0) c.requires.1.0.graph, rw (graph_word c.args.other.now.tables.rows.now c.args.j c.row_word-8.result c.row_word-8.ensures.0) c.requires.1.1.graph))

pub returns : goal.returns
returns c = c.same_graph.ensures ∙ (ap₂ (λ x y. alike_graph (nodes c.args.mine.now.edition c.args.other.now.edition c.args.pairing.now.words.now) (graph (tables_of c.args.mine.now) x) (graph (tables_of c.args.other.now) y)) (graph_word c.args.mine.now.tables.rows.now c.args.i c.row_word-7.result c.row_word-7.ensures.0) (graph_word c.args.other.now.tables.rows.now c.args.j c.row_word-8.result c.row_word-8.ensures.0) ∙ same_triple (nodes c.args.mine.now.edition c.args.other.now.edition c.args.pairing.now.words.now) (row_statement (tables_of c.args.mine.now) c.args.i) (row_statement (tables_of c.args.other.now) c.args.j) ((sym (c.same_value.ensures ∙ ap₂ (λ x y. alike (nodes c.args.mine.now.edition c.args.other.now.edition c.args.pairing.now.words.now) (term (tables_of c.args.mine.now) x) (term (tables_of c.args.other.now) y)) (object_word c.args.mine.now.tables.rows.now c.args.i c.row_word.result c.row_word.ensures.0) (object_word c.args.other.now.tables.rows.now c.args.j c.row_word-2.result c.row_word-2.ensures.0))) ∙ c.if-not-same_value.false) ((sym (c.same_value-2.ensures ∙ ap₂ (λ x y. alike (nodes c.args.mine.now.edition c.args.other.now.edition c.args.pairing.now.words.now) (term (tables_of c.args.mine.now) x) (term (tables_of c.args.other.now) y)) (subject_word c.args.mine.now.tables.rows.now c.args.i c.row_word-3.result c.row_word-3.ensures.0) (subject_word c.args.other.now.tables.rows.now c.args.j c.row_word-4.result c.row_word-4.ensures.0))) ∙ c.if-not-same_value-2.false) ((sym (c.same_value-3.ensures ∙ ap₂ (λ x y. alike (nodes c.args.mine.now.edition c.args.other.now.edition c.args.pairing.now.words.now) (term (tables_of c.args.mine.now) x) (term (tables_of c.args.other.now) y)) (predicate_word c.args.mine.now.tables.rows.now c.args.i c.row_word-5.result c.row_word-5.ensures.0) (predicate_word c.args.other.now.tables.rows.now c.args.j c.row_word-6.result c.row_word-6.ensures.0))) ∙ c.if-not-same_value-3.false))
