-- `directive` meets its contract.
use native.Mathlib.Omega.{arith}
use mathlib.Core.Path.{refl}
use Rattle.lexer_words.proofs.tags.directive.Goals as goal

pub agree-m-requires : goal.agree-m-requires
agree-m-requires c = (c.requires.from, refl)

pub overflow_add-m : goal.overflow_add-m
overflow_add-m c = omega (arith, ((c.requires.read c.agree-m.result c.agree-m.ensures).whole c.if-m-word.true).within)

pub tag-requires : goal.tag-requires
tag-requires c = (c.requires.read c.agree-m.result c.agree-m.ensures).whole c.if-m-word.true

pub returns-then-m-word : goal.returns-then-m-word
returns-then-m-word c = c.tag.ensures

pub overflow_add-m-2 : goal.overflow_add-m-2
overflow_add-m-2 c = omega (arith, ((c.requires.read c.agree-m.result c.agree-m.ensures).part c.if-m-word.false).within)

pub tag-requires-2 : goal.tag-requires-2
tag-requires-2 c = (c.requires.read c.agree-m.result c.agree-m.ensures).part c.if-m-word.false

pub returns : goal.returns
returns c = c.tag-2.ensures
