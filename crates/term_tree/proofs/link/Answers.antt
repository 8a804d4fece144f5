use Rattle.term_tree.proofs.Indexes.{links_full, links_new}
use Rattle.term_tree.proofs.link.Goals as goal

pub returns-then-count-m : goal.returns-then-count-m
returns-then-count-m c = links_new c.args.index.now _ c.args.count c.args.place c.if-count-m.true c.requires.0 c.requires.1 c.set_slot.ensures

pub returns-else-count-m : goal.returns-else-count-m
returns-else-count-m c = links_full c.args.index.now c.args.count c.args.place c.if-count-m.false
