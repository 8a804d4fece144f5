use Rattle.terms.proofs.Growth.{row_added}
use Rattle.terms.proofs.add_row.Goals as goal

pub returns : goal.returns
returns c = row_added c.args.rows.now _ c.args.count c.args.row.now c.requires.0 c.put_words.ensures
