-- `read_code_point` meets its contract.
use native.Mathlib.Omega.{arith}
use mathlib.Core.Path.{sym, ◌∙◌}
use Rattle.utf8.proofs.Decoding.{size_within, point_one, point_two, point_three, point_four}
use Rattle.utf8.proofs.read_code_point.Goals as goal

pub returns-then-n-eq0 : goal.returns-then-n-eq0
returns-then-n-eq0 c = sym c.sequence_size-n.ensures ∙ c.if-n-eq0.true

pub bounds-s-0 : goal.bounds-s-0
bounds-s-0 c = omega (arith, (size_within c.args.s.now).0, c.sequence_size-n.ensures)

pub returns-then-n-eq1 : goal.returns-then-n-eq1
returns-then-n-eq1 c = let p = point_one _ _ c.sequence_size-n.ensures c.if-n-eq1.true _ c.wide-b.ensures in (omega arith, p.0, p.1)

pub bounds-s-1 : goal.bounds-s-1
bounds-s-1 c = omega (arith, (size_within c.args.s.now).0, c.sequence_size-n.ensures)

pub returns-then-n-eq2 : goal.returns-then-n-eq2
returns-then-n-eq2 c = let p = point_two _ _ c.sequence_size-n.ensures c.if-n-eq2.true _ c.wide-b.ensures _ c.wide.ensures in (omega arith, p.0, p.1)

pub bounds-s-1-then-n-eq3 : goal.bounds-s-1-then-n-eq3
bounds-s-1-then-n-eq3 c = omega (arith, (size_within c.args.s.now).0, c.sequence_size-n.ensures)

pub bounds-s-2 : goal.bounds-s-2
bounds-s-2 c = omega (arith, (size_within c.args.s.now).0, c.sequence_size-n.ensures)

pub returns-then-n-eq3 : goal.returns-then-n-eq3
returns-then-n-eq3 c = let p = point_three _ _ c.sequence_size-n.ensures c.if-n-eq3.true _ c.wide-b.ensures _ c.wide-then-n-eq3.ensures _ c.wide-then-n-eq3-2.ensures in (omega arith, p.0, p.1)

pub bounds-s-1-2 : goal.bounds-s-1-2
bounds-s-1-2 c = omega (arith, (size_within c.args.s.now).0, c.sequence_size-n.ensures)

pub bounds-s-2-2 : goal.bounds-s-2-2
bounds-s-2-2 c = omega (arith, (size_within c.args.s.now).0, c.sequence_size-n.ensures)

pub bounds-s-3 : goal.bounds-s-3
bounds-s-3 c = omega (arith, (size_within c.args.s.now).0, c.sequence_size-n.ensures)

pub returns : goal.returns
returns c = let p = point_four _ _ c.sequence_size-n.ensures (omega (arith, (size_within c.args.s.now).1, c.sequence_size-n.ensures)) _ c.wide-b.ensures _ c.wide-2.ensures _ c.wide-3.ensures _ c.wide-4.ensures in (omega arith, p.0, p.1)
