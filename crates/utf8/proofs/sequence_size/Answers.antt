-- `sequence_size` meets its contract.
use native.Mathlib.Omega.{arith}
use Rattle.utf8.proofs.Size.{size_empty, size_small, size_short, size_second, size_two, size_third, size_three, size_fourth}
use mathlib.Core.Path.{sym, ◌∙◌}
use mathlib.Core.Bool.{true, false}
use Rattle.utf8.proofs.sequence_size.Goals as goal

pub returns-then-s-eq0 : goal.returns-then-s-eq0
returns-then-s-eq0 c = size_empty _ c.if-s-eq0.true

pub returns-then-n-lt2 : goal.returns-then-n-lt2
returns-then-n-lt2 c = size_small c.args.s.now (omega arith) (c.type_inv.s 0).fits _ c.lead_size-n.ensures c.if-n-lt2.true

pub returns-then-s-n : goal.returns-then-s-n
returns-then-s-n c = size_short c.args.s.now (omega arith) (c.type_inv.s 0).fits _ c.lead_size-n.ensures c.if-n-lt2.false c.if-s-n.true

pub returns-then-not-is_between : goal.returns-then-not-is_between
returns-then-not-is_between c = size_second c.args.s.now (omega arith) (c.type_inv.s 0).fits _ c.lead_size-n.ensures c.if-n-lt2.false c.if-s-n.false _ _ c.second_low.ensures c.second_high.ensures _ c.is_between.ensures c.if-not-is_between.true

pub returns-then-n-eq2 : goal.returns-then-n-eq2
returns-then-n-eq2 c = size_two c.args.s.now (omega arith) (c.type_inv.s 0).fits _ c.lead_size-n.ensures c.if-n-lt2.false c.if-s-n.false _ _ c.second_low.ensures c.second_high.ensures _ c.is_between.ensures c.if-not-is_between.false c.if-n-eq2.true

pub returns-then-not-is_between-2 : goal.returns-then-not-is_between-2
returns-then-not-is_between-2 c = size_third c.args.s.now (omega arith) (c.type_inv.s 0).fits _ c.lead_size-n.ensures c.if-n-lt2.false c.if-s-n.false _ _ c.second_low.ensures c.second_high.ensures _ c.is_between.ensures c.if-not-is_between.false c.if-n-eq2.false _ c.is_between-2.ensures c.if-not-is_between-2.true

pub returns-then-n-eq3 : goal.returns-then-n-eq3
returns-then-n-eq3 c = size_three c.args.s.now (omega arith) (c.type_inv.s 0).fits _ c.lead_size-n.ensures c.if-n-lt2.false c.if-s-n.false _ _ c.second_low.ensures c.second_high.ensures _ c.is_between.ensures c.if-not-is_between.false c.if-n-eq2.false _ c.is_between-2.ensures c.if-not-is_between-2.false c.if-n-eq3.true

pub returns-then-not-is_between-3 : goal.returns-then-not-is_between-3
returns-then-not-is_between-3 c = size_fourth c.args.s.now (omega arith) (c.type_inv.s 0).fits _ c.lead_size-n.ensures c.if-n-lt2.false c.if-s-n.false _ _ c.second_low.ensures c.second_high.ensures _ c.is_between.ensures c.if-not-is_between.false c.if-n-eq2.false _ c.is_between-2.ensures c.if-not-is_between-2.false c.if-n-eq3.false false (sym c.if-not-is_between-3.true ∙ c.is_between-3.ensures)

pub returns : goal.returns
returns c = size_fourth c.args.s.now (omega arith) (c.type_inv.s 0).fits _ c.lead_size-n.ensures c.if-n-lt2.false c.if-s-n.false _ _ c.second_low.ensures c.second_high.ensures _ c.is_between.ensures c.if-not-is_between.false c.if-n-eq2.false _ c.is_between-2.ensures c.if-not-is_between-2.false c.if-n-eq3.false true (sym c.if-not-is_between-3.false ∙ c.is_between-3.ensures)
