-- `tag` meets its contract.
use Rattle.lexer_words.proofs.Tagging.{tag_same, tag_more}
use Rattle.lexer_words.proofs.tags.tag.Goals as goal

pub run-i-requires : goal.run-i-requires
run-i-requires c = c.requires.within

pub subtags-requires : goal.subtags-requires
subtags-requires c = tag_same c.args.s.now c.args.at c.args.kind c.run-i.result c.requires c.run-i.ensures c.if-i-at.true

pub returns-then-i-at : goal.returns-then-i-at
returns-then-i-at c = c.subtags.ensures

pub subtags-requires-2 : goal.subtags-requires-2
subtags-requires-2 c = tag_more c.args.s.now c.args.at c.args.kind c.run-i.result c.requires c.run-i.ensures c.if-i-at.false

pub returns : goal.returns
returns c = c.subtags-2.ensures
