-- `label` meets its contract.
use native.Mathlib.Omega.{arith}
use Rattle.lexer_words.proofs.Parts.{under_end, under_other, colon_end, colon_none, colon_more}
use Rattle.lexer_words.proofs.labels.label.Goals as goal

pub returns-then-s-lt2 : goal.returns-then-s-lt2
returns-then-s-lt2 c = under_end c.args.s.now c.requires c.if-s-lt2.true

pub returns-then-s-ne58 : goal.returns-then-s-ne58
returns-then-s-ne58 c = under_other c.args.s.now c.requires c.if-s-lt2.false c.if-s-ne58.true

pub returns-then-s-lt3 : goal.returns-then-s-lt3
returns-then-s-lt3 c = colon_end c.args.s.now c.requires c.if-s-lt2.false c.if-s-ne58.false c.if-s-lt3.true

pub returns-in_err-n : goal.returns-in_err-n
returns-in_err-n c = rw c.from_residual.ensures (colon_none c.args.s.now c.requires c.if-s-lt2.false c.if-s-ne58.false _ c.char_at.ensures c.in_err-n.was)

pub overflow_add-n : goal.overflow_add-n
overflow_add-n c = omega (arith, c.char_at.ensures.within _ c.in_ok-n.was)

pub label_rest-requires : goal.label_rest-requires
label_rest-requires c = colon_more c.args.s.now c.requires c.if-s-lt2.false c.if-s-ne58.false _ c.char_at.ensures _ c.in_ok-n.was

pub returns : goal.returns
returns c = c.label_rest.ensures
