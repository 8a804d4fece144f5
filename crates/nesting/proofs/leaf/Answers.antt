use mathlib.Core.Path.{sym, ◌∙◌}
use Rattle.nesting.proofs.OfLeaves.{leaf_string, leaf_term}
use Rattle.nesting.proofs.leaf.Goals as goal

pub put_string-requires : goal.put_string-requires
put_string-requires c = (c.requires.0, sym c.is_string.ensures ∙ c.if-is_string.true)

pub returns-then-is_string : goal.returns-then-is_string
returns-then-is_string c = leaf_string _ _ c.requires.0.0 _ _ (sym c.is_string.ensures ∙ c.if-is_string.true) c.put_string.ensures

pub put_term-requires : goal.put_term-requires
put_term-requires c = (c.requires.0, c.requires.1 (sym c.is_string.ensures ∙ c.if-is_string.false))

pub returns : goal.returns
returns c = leaf_term _ _ _ _ (sym c.is_string.ensures ∙ c.if-is_string.false) c.put_term.ensures
