use Prim.Native.Nat.{◌+◌}
use mathlib.Core.Path.{sym, ◌∙◌}
use Rattle.room.proofs.Tests.{few_rows}
use Rattle.limits.specs.Refusal.{code}
use native.Mathlib.Omega.{arith}
use Rattle.state.specs.Represents.{lent_tables}
use Rattle.room.proofs.Refusing.{ok_code, held, rows_small, tally_small, place_surely, place_exactly}
use Rattle.room.proofs.room_to_place.Goals as goal

pub overflow_add-count : goal.overflow_add-count
overflow_add-count c = omega (arith, c.before_rows.ensures, c.behind_rows.ensures, (few_rows c.args.spot).0, (few_rows c.args.spot).1)

pub overflow_add-count-2 : goal.overflow_add-count-2
overflow_add-count-2 c = omega (arith, c.before_rows.ensures, c.behind_rows.ensures, (few_rows c.args.spot).0, (few_rows c.args.spot).1, c.rows_in.ensures, rows_small c.args.work.now (lent_tables c.args.rows.now c.args.terms.now c.args.store.now) c.args.st.now c.requires.0)

pub raised-most-requires : goal.raised-most-requires
raised-most-requires c = (tally_small c.args.work.now (lent_tables c.args.rows.now c.args.terms.now c.args.store.now) c.args.st.now c.tally_in-t.result c.tally_in-t.ensures c.requires.0, (omega arith, omega (arith, c.requires.1.text_slice, c.requires.1.tag_short)))

pub returns-then-is_ok : goal.returns-then-is_ok
returns-then-is_ok c = place_surely c.args.work.now (lent_tables c.args.rows.now c.args.terms.now c.args.store.now) c.args.st.now c.args.spot c.args.node c.args.back.now c.args.text.now c.args.tag.now c.requires.1.short (c.rows_in.result + (c.before_rows.result + c.behind_rows.result)) c.tally_in-t.result c.raised-most.result (omega (arith, c.rows_in.ensures, c.before_rows.ensures, c.behind_rows.ensures)) c.tally_in-t.ensures c.raised-most.ensures (sym c.room_for.ensures ∙ ok_code c.room_for.result (sym c.is_ok.ensures.value ∙ c.if-is_ok.true))

pub tally_place-exact-requires : goal.tally_place-exact-requires
tally_place-exact-requires c = (held c.args.work.now (lent_tables c.args.rows.now c.args.terms.now c.args.store.now) c.args.st.now c.counts.result c.counts.ensures c.requires.0, (c.requires.1, tally_small c.args.work.now (lent_tables c.args.rows.now c.args.terms.now c.args.store.now) c.args.st.now c.tally_in-t.result c.tally_in-t.ensures c.requires.0))

pub returns : goal.returns
returns c = place_exactly c.args.work.now (lent_tables c.args.rows.now c.args.terms.now c.args.store.now) c.args.st.now c.args.spot c.args.node c.args.back.now c.args.text.now c.args.tag.now (c.rows_in.result + (c.before_rows.result + c.behind_rows.result)) c.tally_in-t.result c.tally_place-exact.result c.counts.result (code c.room_for-2.result) (omega (arith, c.rows_in.ensures, c.before_rows.ensures, c.behind_rows.ensures)) c.tally_in-t.ensures c.counts.ensures c.tally_place-exact.ensures c.room_for-2.ensures
