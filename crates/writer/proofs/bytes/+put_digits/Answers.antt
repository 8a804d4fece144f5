use native.Mathlib.Omega.{arith}
use Rattle.writer.proofs.Numerals.{digits_none, digits_one, digits_last}
use Rattle.writer.proofs.Chains.{both, room_before, room_after, wrote_nothing}
use Rattle.writer.proofs.bytes.+put_digits.Goals as goal

pub returns-then-most-eq0 : goal.returns-then-most-eq0
returns-then-most-eq0 t c = rw (← digits_none c.args.most c.args.n c.if-most-eq0.true) (wrote_nothing c.args.at c.args.out.now)

pub put-requires : goal.put-requires
put-requires t c = rw (← digits_one c.args.most c.args.n c.if-most-eq0.false c.if-n-lt10.true, ← c.digit.ensures) at c.requires

pub returns-then-n-lt10 : goal.returns-then-n-lt10
returns-then-n-lt10 t c = rw (← digits_one c.args.most c.args.n c.if-most-eq0.false c.if-n-lt10.true, ← c.digit.ensures) c.put.ensures

pub put_digits-last-requires : goal.put_digits-last-requires
put_digits-last-requires t c = (omega arith, room_before _ _ (rw (← digits_last c.args.most c.args.n c.if-most-eq0.false c.if-n-lt10.false) at c.requires))

pub put-requires-2 : goal.put-requires-2
put-requires-2 t c = rw c.digit-2.ensures (room_after c.put_digits-last.ensures (rw (← digits_last c.args.most c.args.n c.if-most-eq0.false c.if-n-lt10.false) at c.requires))

pub returns : goal.returns
returns t c = rw (← digits_last c.args.most c.args.n c.if-most-eq0.false c.if-n-lt10.false) (both c.put_digits-last.ensures (rw c.digit-2.ensures at c.put-2.ensures))
