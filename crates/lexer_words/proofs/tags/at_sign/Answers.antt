-- `at_sign` meets its contract.
use mathlib.Core.Path.{sym, ◌∙◌}
use Rattle.lexer_words.proofs.Tagging.{sign_end, sign_prefix, sign_base, sign_none, sign_letter}
use Rattle.lexer_words.proofs.tags.at_sign.Goals as goal

pub returns-then-s-lt2 : goal.returns-then-s-lt2
returns-then-s-lt2 c = sign_end c.args.s.now c.requires c.if-s-lt2.true

pub directive-requires : goal.directive-requires
directive-requires c = sign_prefix c.args.s.now c.requires c.if-s-lt2.false c.if-b-eq112.true

pub returns-then-b-eq112 : goal.returns-then-b-eq112
returns-then-b-eq112 c = c.directive.ensures

pub directive-requires-then-b-eq98 : goal.directive-requires-then-b-eq98
directive-requires-then-b-eq98 c = sign_base c.args.s.now c.requires c.if-s-lt2.false c.if-b-eq98.true

pub returns-then-b-eq98 : goal.returns-then-b-eq98
returns-then-b-eq98 c = c.directive-then-b-eq98.ensures

pub tag-requires : goal.tag-requires
tag-requires c = sign_letter c.args.s.now c.requires c.if-s-lt2.false c.if-b-eq112.false c.if-b-eq98.false (sym c.is_letter.ensures ∙ c.if-is_letter.true)

pub returns-then-is_letter : goal.returns-then-is_letter
returns-then-is_letter c = c.tag.ensures

pub returns : goal.returns
returns c = sign_none c.args.s.now c.requires c.if-s-lt2.false (sym c.is_letter.ensures ∙ c.if-is_letter.false)
