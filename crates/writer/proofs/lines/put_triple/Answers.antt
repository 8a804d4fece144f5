use Rattle.table.specs.Layout.{row_at}
use Rattle.usable.proofs.Words.{subject_word, predicate_word, object_word}
use Rattle.usable.specs.Lent.{slices_of}
use Rattle.writer.proofs.Chains.{both, room_before, room_after}
use Rattle.writer.proofs.RowForms.{triple_parts}
use Rattle.writer.proofs.lines.put_triple.Goals as goal

pub put_part-predicate-requires : goal.put_part-predicate-requires
put_part-predicate-requires c = let subject = subject_word c.args.tables.now.rows.now c.args.i c.row_word.result c.row_word.ensures.0 in
    let tables = slices_of c.args.tables.now in
    let row = row_at c.args.tables.now.rows.now c.args.i in
    let all = rw (triple_parts tables row) at c.requires.1 in
    (rw subject c.requires.0.subject, rw subject (room_before _ _ all))

pub put_part-object-requires : goal.put_part-object-requires
put_part-object-requires c = let predicate = predicate_word c.args.tables.now.rows.now c.args.i c.row_word-2.result c.row_word-2.ensures.0 in
    let subject = subject_word c.args.tables.now.rows.now c.args.i c.row_word.result c.row_word.ensures.0 in
    let one = rw subject at c.put_part-predicate.ensures in
    let tables = slices_of c.args.tables.now in
    let row = row_at c.args.tables.now.rows.now c.args.i in
    let all = rw (triple_parts tables row) at c.requires.1 in
    (rw predicate c.requires.0.predicate, rw predicate (room_before _ _ (room_after one all)))

pub put_term-dot-requires : goal.put_term-dot-requires
put_term-dot-requires c = let object = object_word c.args.tables.now.rows.now c.args.i c.row_word-3.result c.row_word-3.ensures.0 in
    let predicate = predicate_word c.args.tables.now.rows.now c.args.i c.row_word-2.result c.row_word-2.ensures.0 in
    let two = rw predicate at c.put_part-object.ensures in
    let subject = subject_word c.args.tables.now.rows.now c.args.i c.row_word.result c.row_word.ensures.0 in
    let one = rw subject at c.put_part-predicate.ensures in
    let tables = slices_of c.args.tables.now in
    let row = row_at c.args.tables.now.rows.now c.args.i in
    let all = rw (triple_parts tables row) at c.requires.1 in
    (rw object c.requires.0.object, rw object (room_before _ _ (room_after two (room_after one all))))

pub put_all-requires : goal.put_all-requires
put_all-requires c = let object = object_word c.args.tables.now.rows.now c.args.i c.row_word-3.result c.row_word-3.ensures.0 in
    let three = rw object at c.put_term-dot.ensures in
    let predicate = predicate_word c.args.tables.now.rows.now c.args.i c.row_word-2.result c.row_word-2.ensures.0 in
    let two = rw predicate at c.put_part-object.ensures in
    let subject = subject_word c.args.tables.now.rows.now c.args.i c.row_word.result c.row_word.ensures.0 in
    let one = rw subject at c.put_part-predicate.ensures in
    let tables = slices_of c.args.tables.now in
    let row = row_at c.args.tables.now.rows.now c.args.i in
    let all = rw (triple_parts tables row) at c.requires.1 in
    room_after three (room_after two (room_after one all))

pub returns : goal.returns
returns c = let tables = slices_of c.args.tables.now in
    let row = row_at c.args.tables.now.rows.now c.args.i in
    let subject = subject_word c.args.tables.now.rows.now c.args.i c.row_word.result c.row_word.ensures.0 in
    let one = rw subject at c.put_part-predicate.ensures in
    let predicate = predicate_word c.args.tables.now.rows.now c.args.i c.row_word-2.result c.row_word-2.ensures.0 in
    let two = rw predicate at c.put_part-object.ensures in
    let object = object_word c.args.tables.now.rows.now c.args.i c.row_word-3.result c.row_word-3.ensures.0 in
    let three = rw object at c.put_term-dot.ensures in
    rw (triple_parts tables row) (both one (both two (both three c.put_all.ensures)))
