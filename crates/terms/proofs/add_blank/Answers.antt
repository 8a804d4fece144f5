use Rattle.terms.proofs.Growth.{blank_added}
use Rattle.terms.proofs.add_blank.Goals as goal

pub returns : goal.returns
returns c = blank_added c.args.terms.now _ c.args.counts _ c.requires.0 c.requires.1 c.put_entry.ensures c.with.ensures
