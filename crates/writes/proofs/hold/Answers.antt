use native.Mathlib.Omega.{arith}
use Rattle.writes.proofs.Places.{held_nowhere, first_ready, element_ready, element_held, object_ready, object_held}
use Rattle.writes.proofs.hold.Goals as goal

pub returns-then-x-eq0 : goal.returns-then-x-eq0
returns-then-x-eq0 c = held_nowhere c.args.x c.args.y c.args.n c.args.at c.args.work.now c.args.rows.now c.args.terms.now c.args.store.now c.args.st.now c.if-x-eq0.true

pub share_supplied-first-requires : goal.share_supplied-first-requires
share_supplied-first-requires c = first_ready c.args.x c.args.y c.args.n c.args.at c.args.work.now c.args.rows.now c.args.terms.now c.args.store.now c.args.st.now c.requires (omega (arith, c.if-x-eq0.false)) c.if-y-eq0.true

pub put_row-requires : goal.put_row-requires
put_row-requires c = element_ready c.args.x c.args.y c.args.n c.args.at c.args.work.now c.args.rows.now c.args.terms.now c.args.store.now c.args.st.now c.requires (omega (arith, c.if-x-eq0.false)) c.if-y-eq0.true c.share_supplied-first.result c.share_supplied-first.new.work c.share_supplied-first.new.terms c.share_supplied-first.new.store c.share_supplied-first.new.st c.share_supplied-first.ensures

pub returns-then-y-eq0 : goal.returns-then-y-eq0
returns-then-y-eq0 c = element_held c.args.x c.args.y c.args.n c.args.at c.args.work.now c.args.rows.now c.args.terms.now c.args.store.now c.args.st.now c.requires (omega (arith, c.if-x-eq0.false)) c.if-y-eq0.true c.share_supplied-first.result c.share_supplied-first.new.work c.share_supplied-first.new.terms c.share_supplied-first.new.store c.share_supplied-first.new.st c.share_supplied-first.ensures _ _ c.put_row.ensures

pub put_row-requires-2 : goal.put_row-requires-2
put_row-requires-2 c = object_ready c.args.x c.args.y c.args.n c.args.at c.args.work.now c.args.rows.now c.args.terms.now c.args.store.now c.args.st.now c.requires (omega (arith, c.if-x-eq0.false)) (omega (arith, c.if-y-eq0.false))

pub returns : goal.returns
returns c = object_held c.args.x c.args.y c.args.n c.args.at c.args.work.now c.args.rows.now c.args.terms.now c.args.store.now c.args.st.now c.requires (omega (arith, c.if-x-eq0.false)) (omega (arith, c.if-y-eq0.false)) _ _ c.put_row-2.ensures
