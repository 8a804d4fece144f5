use Rattle.table.specs.Layout.{row_at}
use Rattle.usable.proofs.Words.{graph_word}
use Rattle.usable.specs.Lent.{slices_of}
use Rattle.writer.proofs.Chains.{both, room_before, room_after}
use Rattle.writer.proofs.RowForms.{line_default, line_graph}
use mathlib.Core.Path.{sym, ◌∙◌}
use Rattle.writer.proofs.lines.put_line.Goals as goal

pub put_triple-end-requires : goal.put_triple-end-requires
put_triple-end-requires c = let tables = slices_of c.args.tables.now in
    let row = row_at c.args.tables.now.rows.now c.args.i in
    let graph-read = graph_word c.args.tables.now.rows.now c.args.i c.row_word-graph.result c.row_word-graph.ensures.0 in
    let form = line_default tables row (sym graph-read ∙ c.if-graph-eq0.true) in
    (c.requires.0, room_before _ _ (rw form at c.requires.1))

pub put-requires : goal.put-requires
put-requires c = let tables = slices_of c.args.tables.now in
    let row = row_at c.args.tables.now.rows.now c.args.i in
    let graph-read = graph_word c.args.tables.now.rows.now c.args.i c.row_word-graph.result c.row_word-graph.ensures.0 in
    let form = line_default tables row (sym graph-read ∙ c.if-graph-eq0.true) in
    room_after c.put_triple-end.ensures (rw form at c.requires.1)

pub returns-then-graph-eq0 : goal.returns-then-graph-eq0
returns-then-graph-eq0 c = let tables = slices_of c.args.tables.now in
    let row = row_at c.args.tables.now.rows.now c.args.i in
    let graph-read = graph_word c.args.tables.now.rows.now c.args.i c.row_word-graph.result c.row_word-graph.ensures.0 in
    let form = line_default tables row (sym graph-read ∙ c.if-graph-eq0.true) in
    rw form (both c.put_triple-end.ensures c.put.ensures)

pub put_part-brace-requires : goal.put_part-brace-requires
put_part-brace-requires c = let graph-read = graph_word c.args.tables.now.rows.now c.args.i c.row_word-graph.result c.row_word-graph.ensures.0 in
    let tables = slices_of c.args.tables.now in
    let row = row_at c.args.tables.now.rows.now c.args.i in
    let form = line_graph tables row (λ e. c.if-graph-eq0.false (graph-read ∙ e)) in
    let all = rw form at c.requires.1 in
    (rw graph-read (c.requires.0.graph (λ e. c.if-graph-eq0.false (graph-read ∙ e))), rw graph-read (room_before _ _ all))

pub put_all-open-requires : goal.put_all-open-requires
put_all-open-requires c = let graph-read = graph_word c.args.tables.now.rows.now c.args.i c.row_word-graph.result c.row_word-graph.ensures.0 in
    let label = rw graph-read at c.put_part-brace.ensures in
    let tables = slices_of c.args.tables.now in
    let row = row_at c.args.tables.now.rows.now c.args.i in
    let form = line_graph tables row (λ e. c.if-graph-eq0.false (graph-read ∙ e)) in
    let all = rw form at c.requires.1 in
    room_before _ _ (room_after label all)

pub put_triple-close-requires : goal.put_triple-close-requires
put_triple-close-requires c = let graph-read = graph_word c.args.tables.now.rows.now c.args.i c.row_word-graph.result c.row_word-graph.ensures.0 in
    let label = rw graph-read at c.put_part-brace.ensures in
    let tables = slices_of c.args.tables.now in
    let row = row_at c.args.tables.now.rows.now c.args.i in
    let form = line_graph tables row (λ e. c.if-graph-eq0.false (graph-read ∙ e)) in
    let all = rw form at c.requires.1 in
    (c.requires.0, room_before _ _ (room_after c.put_all-open.ensures (room_after label all)))

pub put_all-requires : goal.put_all-requires
put_all-requires c = let graph-read = graph_word c.args.tables.now.rows.now c.args.i c.row_word-graph.result c.row_word-graph.ensures.0 in
    let label = rw graph-read at c.put_part-brace.ensures in
    let tables = slices_of c.args.tables.now in
    let row = row_at c.args.tables.now.rows.now c.args.i in
    let form = line_graph tables row (λ e. c.if-graph-eq0.false (graph-read ∙ e)) in
    let all = rw form at c.requires.1 in
    room_after c.put_triple-close.ensures (room_after c.put_all-open.ensures (room_after label all))

pub returns : goal.returns
returns c = let tables = slices_of c.args.tables.now in
    let row = row_at c.args.tables.now.rows.now c.args.i in
    let graph-read = graph_word c.args.tables.now.rows.now c.args.i c.row_word-graph.result c.row_word-graph.ensures.0 in
    let form = line_graph tables row (λ e. c.if-graph-eq0.false (graph-read ∙ e)) in
    let label = rw graph-read at c.put_part-brace.ensures in
    rw form (both label (both c.put_all-open.ensures (both c.put_triple-close.ensures c.put_all.ensures)))
