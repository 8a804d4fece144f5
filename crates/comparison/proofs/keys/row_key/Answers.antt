use mathlib.Core.Path.{ap, ◌∙◌}
use Rattle.table.specs.Usable.{term, graph}
use Rattle.usable.specs.Lent.{bare, slices_of}
use Rattle.usable.proofs.Words.{graph_word, subject_word, predicate_word, object_word}
use Rattle.comparison.specs.Comparison.{statement as row_statement}
use Rattle.comparison.specs.Code.{number_key, term_key, graph_key}
use Rattle.comparison.proofs.RowKeys.{stirred}
use Rattle.comparison.proofs.keys.row_key.Goals as goal

pub graph_key-g-requires : goal.graph_key-g-requires
graph_key-g-requires c = rw (graph_word c.args.tables.now.rows.now c.args.i c.row_word.result c.row_word.ensures.0) c.requires.graph

pub term_key-s-requires : goal.term_key-s-requires
term_key-s-requires c = rw (subject_word c.args.tables.now.rows.now c.args.i c.row_word-2.result c.row_word-2.ensures.0) c.requires.subject

pub term_key-p-requires : goal.term_key-p-requires
term_key-p-requires c = rw (predicate_word c.args.tables.now.rows.now c.args.i c.row_word-3.result c.row_word-3.ensures.0) c.requires.predicate

pub term_key-o-requires : goal.term_key-o-requires
term_key-o-requires c = rw (object_word c.args.tables.now.rows.now c.args.i c.row_word-4.result c.row_word-4.ensures.0) c.requires.object

pub returns : goal.returns
returns c = (stirred (number_key c.args.edition c.args.pairing.now.words.now) (row_statement (slices_of c.args.tables.now) c.args.i) c.graph_key-g.result c.term_key-s.result c.term_key-p.result c.term_key-o.result c.stir.result c.stir-2.result c.stir-3.result (c.graph_key-g.ensures.0 ∙ ap (λ x. graph_key (number_key c.args.edition c.args.pairing.now.words.now) (graph (bare (slices_of c.args.tables.now)) x)) (graph_word c.args.tables.now.rows.now c.args.i c.row_word.result c.row_word.ensures.0)) (c.term_key-s.ensures.0 ∙ ap (λ x. term_key (number_key c.args.edition c.args.pairing.now.words.now) (term (bare (slices_of c.args.tables.now)) x)) (subject_word c.args.tables.now.rows.now c.args.i c.row_word-2.result c.row_word-2.ensures.0)) (c.term_key-p.ensures.0 ∙ ap (λ x. term_key (number_key c.args.edition c.args.pairing.now.words.now) (term (bare (slices_of c.args.tables.now)) x)) (predicate_word c.args.tables.now.rows.now c.args.i c.row_word-3.result c.row_word-3.ensures.0)) (c.term_key-o.ensures.0 ∙ ap (λ x. term_key (number_key c.args.edition c.args.pairing.now.words.now) (term (bare (slices_of c.args.tables.now)) x)) (object_word c.args.tables.now.rows.now c.args.i c.row_word-4.result c.row_word-4.ensures.0)) c.stir.ensures.0 c.stir-2.ensures.0 c.stir-3.ensures.0, c.stir-3.ensures.1)
