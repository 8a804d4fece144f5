use mathlib.Core.Path.{sym, ◌∙◌}
use Rattle.room.specs.Supply.{number_of}
use Rattle.room.proofs.Tests.{none_number, some_supplied, first_number, not_first, behind_nothing, behind_first, behind_named, behind_supply}
use Rattle.room.proofs.tally_behind.Goals as goal

pub returns-then-is_none : goal.returns-then-is_none
returns-then-is_none c = λ ts H. behind_nothing ts (number_of c.args.p) (number_of c.args.q) c.args.node c.args.work.now c.args.back.now c.args.t (none_number c.args.q c.if-is_none.ensures)

pub returns-then-eq : goal.returns-then-eq
returns-then-eq c = λ ts H. behind_first ts (number_of c.args.p) (number_of c.args.q) c.args.node c.args.work.now c.args.back.now c.args.t (some_supplied c.args.q c.if-is_none.ensures) (first_number c.args.p (sym c.eq.ensures ∙ c.if-eq.true))

pub returns-then-asks_first : goal.returns-then-asks_first
returns-then-asks_first c = λ ts H. behind_named ts (number_of c.args.p) (number_of c.args.q) c.args.node c.args.work.now c.args.back.now c.args.t c.asks_first.result (some_supplied c.args.q c.if-is_none.ensures) (not_first c.args.p (sym c.eq.ensures ∙ c.if-eq.false)) c.asks_first.ensures c.if-asks_first.true

pub returns : goal.returns
returns c = λ ts H. behind_supply ts (number_of c.args.p) (number_of c.args.q) c.args.node c.args.work.now c.args.back.now c.args.t c.asks_first.result c.tally_supply.result (some_supplied c.args.q c.if-is_none.ensures) (not_first c.args.p (sym c.eq.ensures ∙ c.if-eq.false)) c.asks_first.ensures c.if-asks_first.false (c.tally_supply.ensures ts H)
