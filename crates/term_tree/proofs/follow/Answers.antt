use Prim.Native.Nat.{suc, ◌-◌, ◌%◌}
use mathlib.Core.Path.{◌≡◌, sym, ◌∙◌}
use native.Mathlib.Nat.{mod-lt}
use native.Mathlib.Omega.{arith}
use Rattle.table.specs.Layout.{entry_at}
use Rattle.terms.specs.Code.{matches}
use Rattle.term_tree.specs.Slots.{slot_at}
use Rattle.term_tree.specs.Keys.{turn_at}
use Rattle.terms.specs.Sorts.{type_of, text_in}
use Rattle.term_tree.specs.Tree.{buckets, least}
use Rattle.term_tree.proofs.Trees.{some_bucket, nothing_followed, start, step, missed, hit, came_start, came_step, still_fewer, least_left, least_right}
use Rattle.term_tree.proofs.Indexes.{served_before, turned}
use Rattle.term_tree.proofs.follow.Goals as goal

pub returns-then-m-eq0 : goal.returns-then-m-eq0
returns-then-m-eq0 c = (λ of turns I h. nothing_followed _ (least c.args.count (buckets c.args.index.now)) (omega (arith, c.if-m-eq0.true, least_right c.args.count (buckets c.args.index.now))), (λ q. absurd (omega arith), λ q. absurd (omega arith)))

pub slot-k-requires : goal.slot-k-requires
slot-k-requires c = omega (arith, mod-lt c.key_at-first.result (some_bucket (buckets c.args.index.now) c.if-m-eq0.false))

pub loop-k-init : goal.loop-k-init
loop-k-init c = ((came_start c.args.index.now c.args.count (turn_at (text_in c.args.sought.now) c.args.sought.now.tag.now (type_of c.args.sought.now.sort)) c.requires.0 (c.key_at-first.result % (buckets c.args.index.now)) c.slot-k.result (mod-lt c.key_at-first.result (some_bucket (buckets c.args.index.now) c.if-m-eq0.false)) c.slot-k.ensures, c.key_at-first.ensures.0), λ of turns I h. start I (c.key_at-first.result % (buckets c.args.index.now)) (mod-lt c.key_at-first.result (some_bucket (buckets c.args.index.now) c.if-m-eq0.false)) (turn_at (text_in c.args.sought.now) c.args.sought.now.tag.now (type_of c.args.sought.now.sort)) (λ i. matches c.args.store.now (entry_at c.args.terms.now (suc i)) c.args.sought.now.sort (text_in c.args.sought.now) c.args.sought.now.tag.now) h)

pub is_term-requires : goal.is_term-requires
is_term-requires c = c.requires.1 (c.loop-k.k - 1) (omega (arith, c.loop-k.invariant.0.0.small, least_left c.args.count (buckets c.args.index.now)))

pub returns-then-is_term : goal.returns-then-is_term
returns-then-is_term c = (λ of turns I h. hit (λ i. matches c.args.store.now (entry_at c.args.terms.now (suc i)) c.args.sought.now.sort (text_in c.args.sought.now) c.args.sought.now.tag.now) (least c.args.count (buckets c.args.index.now)) c.loop-k.k c.loop-k.invariant.0.0.small c.loop-k-test.true (sym c.is_term.ensures ∙ c.if-is_term.true), omega arith)

pub overflow_mul-place : goal.overflow_mul-place
overflow_mul-place c = omega (arith, c.loop-k.invariant.0.0.small, least_right c.args.count (buckets c.args.index.now))

pub overflow_add-place : goal.overflow_add-place
overflow_add-place c = omega (arith, c.loop-k.invariant.0.0.small, least_right c.args.count (buckets c.args.index.now), c.turn.ensures.1)

pub overflow_add-place-in-loop-k : goal.overflow_add-place-in-loop-k
overflow_add-place-in-loop-k c = omega (arith, c.loop-k.invariant.0.0.small, least_right c.args.count (buckets c.args.index.now), c.turn.ensures.1)

pub overflow_add-level : goal.overflow_add-level
overflow_add-level c = omega (arith, c.loop-k.invariant.0.0.small, c.loop-k.invariant.0.0.rising c.loop-k-test.true, least_right c.args.count (buckets c.args.index.now))

pub next_key-key-requires : goal.next_key-key-requires
next_key-key-requires c = (served_before (text_in c.args.sought.now) c.args.sought.now.tag.now (type_of c.args.sought.now.sort) c.loop-k.key c.loop-k.level c.loop-k.invariant.0.1, omega arith)

pub slot-k-requires-in-loop-k : goal.slot-k-requires-in-loop-k
slot-k-requires-in-loop-k c = omega (arith, c.loop-k.invariant.0.0.small, least_right c.args.count (buckets c.args.index.now), c.turn.ensures.1)

pub loop-k-smaller : goal.loop-k-smaller
loop-k-smaller c = still_fewer c.args.index.now c.args.count (turn_at (text_in c.args.sought.now) c.args.sought.now.tag.now (type_of c.args.sought.now.sort)) c.requires.0 (c.key_at-first.result % (buckets c.args.index.now)) c.loop-k.place c.loop-k.level c.loop-k.k c.turn.result c.slot-k-in-loop-k.result c.loop-k.invariant.0.0 c.loop-k-test.true (turned (text_in c.args.sought.now) c.args.sought.now.tag.now (type_of c.args.sought.now.sort) c.loop-k.key c.loop-k.level c.turn.result c.loop-k.invariant.0.1 c.turn.ensures.0) c.turn.ensures.1 c.slot-k-in-loop-k.ensures

pub loop-k-preserved : goal.loop-k-preserved
loop-k-preserved c = ((came_step c.args.index.now c.args.count (turn_at (text_in c.args.sought.now) c.args.sought.now.tag.now (type_of c.args.sought.now.sort)) c.requires.0 (c.key_at-first.result % (buckets c.args.index.now)) c.loop-k.place c.loop-k.level c.loop-k.k c.turn.result c.slot-k-in-loop-k.result c.loop-k.invariant.0.0 c.loop-k-test.true (turned (text_in c.args.sought.now) c.args.sought.now.tag.now (type_of c.args.sought.now.sort) c.loop-k.key c.loop-k.level c.turn.result c.loop-k.invariant.0.1 c.turn.ensures.0) c.turn.ensures.1 c.slot-k-in-loop-k.ensures, c.next_key-key.ensures), λ of turns I h. step (buckets c.args.index.now) (slot_at c.args.index.now) (turn_at (text_in c.args.sought.now) c.args.sought.now.tag.now (type_of c.args.sought.now.sort)) (λ i. matches c.args.store.now (entry_at c.args.terms.now (suc i)) c.args.sought.now.sort (text_in c.args.sought.now) c.args.sought.now.tag.now) (least c.args.count (buckets c.args.index.now)) c.loop-k.place c.loop-k.level (c.loop-k.invariant.1 of turns I h) c.loop-k.k c.turn.result c.loop-k.invariant.0.0.held c.loop-k-test.true (sym c.is_term.ensures ∙ c.if-is_term.false) (turned (text_in c.args.sought.now) c.args.sought.now.tag.now (type_of c.args.sought.now.sort) c.loop-k.key c.loop-k.level c.turn.result c.loop-k.invariant.0.1 c.turn.ensures.0))

pub returns : goal.returns
returns c = (λ of turns I h. missed (buckets c.args.index.now) (slot_at c.args.index.now) (turn_at (text_in c.args.sought.now) c.args.sought.now.tag.now (type_of c.args.sought.now.sort)) (λ i. matches c.args.store.now (entry_at c.args.terms.now (suc i)) c.args.sought.now.sort (text_in c.args.sought.now) c.args.sought.now.tag.now) (least c.args.count (buckets c.args.index.now)) c.loop-k.place c.loop-k.level (c.loop-k.invariant.1 of turns I (rw c.key_at-first.ensures.0 h)) (let z : slot_at c.args.index.now c.loop-k.place ≡ 0 = omega (arith, c.loop-k.invariant.0.0.held) in z), (λ _. (c.loop-k.level, (rw (sym c.key_at-first.ensures.0) c.loop-k.invariant.0.0.led, omega (arith, c.loop-k.invariant.0.0.held))), λ _. c.loop-k.invariant.0.0.inside))
