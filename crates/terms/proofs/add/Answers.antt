use Rattle.terms.proofs.Growth.{added}
use Rattle.terms.specs.Sorts.{text_in}
use Rattle.terms.proofs.add.Goals as goal

pub returns : goal.returns
returns c = added c.args.terms.now _ c.args.store.now _ c.args.counts _ c.args.sought.now.sort (text_in c.args.sought.now) c.args.sought.now.tag.now c.write_bytes-size.result c.requires.0 c.write_bytes-size.ensures.0 c.put_entry.ensures c.write_bytes-size.ensures.1 c.with.ensures
