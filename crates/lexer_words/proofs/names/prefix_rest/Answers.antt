-- `prefix_rest` meets its contract.
use Rattle.lexer_words.proofs.Clearing.{next_settled, next_token, prefix_colon, no_colon_end, no_colon_other, no_colon_dot, dot_none, dot_other}
use Rattle.lexer_words.proofs.names.prefix_rest.Goals as goal
use Rattle.lexer_words.proofs.names.prefix_rest.Goals.{then-stem-i+else-s-i-eq46, else-stem-i}

pub name_run-i-requires : goal.name_run-i-requires
name_run-i-requires c = c.requires.within

pub settle-requires : goal.settle-requires
settle-requires c = c.name_run-i.ensures.scanned.from

pub returns-then-s-i : goal.returns-then-s-i
returns-then-s-i c = next_settled c.args.s.now c.args.stem.len c.name_run-i.result c.args.stem.kind c.name_run-i.ensures c.requires (no_colon_end _ _ _ c.name_run-i.ensures c.if-s-i.true) _ c.settle.ensures

pub settle-requires-then-s-i-ne58 : goal.settle-requires-then-s-i-ne58
settle-requires-then-s-i-ne58 c = c.name_run-i.ensures.scanned.from

pub returns-then-s-i-ne58 : goal.returns-then-s-i-ne58
returns-then-s-i-ne58 c = next_settled c.args.s.now c.args.stem.len c.name_run-i.result c.args.stem.kind c.name_run-i.ensures c.requires (no_colon_other _ _ _ c.name_run-i.ensures c.if-s-i-ne58.true) _ c.settle-then-s-i-ne58.ensures

pub settle-requires-then-s-i-eq46 : goal.settle-requires-then-s-i-eq46
settle-requires-then-s-i-eq46 c = c.name_run-i.ensures.scanned.from

pub returns-then-s-i-eq46 : goal.returns-then-s-i-eq46
returns-then-s-i-eq46 c = next_settled c.args.s.now c.args.stem.len c.name_run-i.result c.args.stem.kind c.name_run-i.ensures c.requires (no_colon_dot _ _ _ c.name_run-i.ensures c.if-stem-i.true c.if-s-i-eq46.true) _ c.settle-then-s-i-eq46.ensures

pub local_part-requires : goal.local_part-requires
local_part-requires c = prefix_colon c.args.s.now c.args.stem.len c.name_run-i.result c.name_run-i.ensures c.requires c.if-s-i.false c.if-s-i-ne58.false (elim c.if-stem-i.branch [ then-stem-i+else-s-i-eq46 w ↦ dot_other c.args.s.now c.args.stem.len c.name_run-i.result w.if-stem-i.true w.if-s-i-eq46.false | else-stem-i w ↦ dot_none c.args.s.now c.args.stem.len c.name_run-i.result w.if-stem-i.false ])

pub returns : goal.returns
returns c = next_token c.args.s.now c.local_part.result c.local_part.ensures
