-- `local_part` meets its contract.
use native.Mathlib.Omega.{arith}
use Rattle.lexer_words.proofs.Parts.{local_end, local_none, local_more}
use Rattle.lexer_words.proofs.locals.local_part.Goals as goal

pub overflow_add-at : goal.overflow_add-at
overflow_add-at c = omega (arith, c.local_first.ensures.within _ c.in-Some.is)

pub local_rest-requires : goal.local_rest-requires
local_rest-requires c = local_more c.args.s.now c.args.at c.requires c.if-at-s.true _ c.local_first.ensures _ c.in-Some.is

pub returns-in-Some : goal.returns-in-Some
returns-in-Some c = c.local_rest.ensures

pub returns-in_default : goal.returns-in_default
returns-in_default c = local_none c.args.s.now c.args.at c.requires c.if-at-s.true _ c.local_first.ensures c.in_default.is

pub returns-else-at-s : goal.returns-else-at-s
returns-else-at-s c = local_end c.args.s.now c.args.at c.requires c.if-at-s.false
