use Rattle.terms.specs.Sorts.{type_of, text_in}
use Rattle.term_tree.proofs.Indexes.{served_same}
use Rattle.term_tree.proofs.next_key.Goals as goal

pub returns-then-level-eq0 : goal.returns-then-level-eq0
returns-then-level-eq0 c = c.key_at.ensures.0

pub returns : goal.returns
returns c = served_same (text_in c.args.sought.now) c.args.sought.now.tag.now (type_of c.args.sought.now.sort) c.args.key c.args.level c.requires.0 c.requires.1 c.if-level-eq0.false
