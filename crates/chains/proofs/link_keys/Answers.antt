use mathlib.Core.Path.{refl, sym, ◌∙◌}
use native.Mathlib.Omega.{arith}
use lib.Seq.{length-take-le}
use Rattle.chains.specs.Chains.{key_at}
use Rattle.chains.proofs.Chains.{within, filled, linked_none, linked_start, linked_step, linked_all}
use Rattle.chains.proofs.link_keys.Goals as goal

pub returns-then-count-eq0 : goal.returns-then-count-eq0
returns-then-count-eq0 c = linked_none c.args.chain.now c.args.n c.head_count-count.result (key_at c.args.chain.now c.args.n) c.head_count-count.ensures c.if-count-eq0.true

pub slice_bounds-fill-end : goal.slice_bounds-fill-end
slice_bounds-fill-end c = omega (arith, (within c.args.chain.now c.args.n c.head_count-count.result c.head_count-count.ensures c.if-count-eq0.false).0)

pub slice_bounds-fill-end-2 : goal.slice_bounds-fill-end-2
slice_bounds-fill-end-2 c = sym (length-take-le _ _ (omega (arith, (within c.args.chain.now c.args.n c.head_count-count.result c.head_count-count.ensures c.if-count-eq0.false).0)))

pub loop-j-init : goal.loop-j-init
loop-j-init c = (refl, linked_start c.args.chain.now _ c.head_count-count.result c.args.n c.if-count-eq0.false (filled c.args.chain.now _ c.head_count-count.result (omega (arith, (within c.args.chain.now c.args.n c.head_count-count.result c.head_count-count.ensures c.if-count-eq0.false).0)) (c.fill.ensures.after (λ y e. e))))

pub link_one-requires : goal.link_one-requires
link_one-requires c =
    let f = filled c.args.chain.now _ c.head_count-count.result (omega (arith, (within c.args.chain.now c.args.n c.head_count-count.result c.head_count-count.ensures c.if-count-eq0.false).0)) (c.fill.ensures.after (λ y e. e)) in
    (omega arith, (omega (arith, c.loop-j.invariant.0, f.size, (within c.args.chain.now c.args.n c.head_count-count.result c.head_count-count.ensures c.if-count-eq0.false).0), (c.loop-j-test.true, (within c.args.chain.now c.args.n c.head_count-count.result c.head_count-count.ensures c.if-count-eq0.false).1)))

pub loop-j-preserved : goal.loop-j-preserved
loop-j-preserved c =
    let f = filled c.args.chain.now _ c.head_count-count.result (omega (arith, (within c.args.chain.now c.args.n c.head_count-count.result c.head_count-count.ensures c.if-count-eq0.false).0)) (c.fill.ensures.after (λ y e. e)) in
    let s = linked_step c.loop-j.chain _ c.head_count-count.result c.args.n _ c.loop-j.j c.if-count-eq0.false (omega (arith, c.loop-j.invariant.0, f.size, (within c.args.chain.now c.args.n c.head_count-count.result c.head_count-count.ensures c.if-count-eq0.false).0)) c.loop-j-test.true c.loop-j.invariant.1 c.link_one.ensures in
    (s.0 ∙ c.loop-j.invariant.0, s.1)

pub returns : goal.returns
returns c =
    let f = filled c.args.chain.now _ c.head_count-count.result (omega (arith, (within c.args.chain.now c.args.n c.head_count-count.result c.head_count-count.ensures c.if-count-eq0.false).0)) (c.fill.ensures.after (λ y e. e)) in
    linked_all c.args.chain.now _ c.loop-j.chain c.args.n c.head_count-count.result c.loop-j.j c.head_count-count.ensures c.if-count-eq0.false f c.loop-j.invariant.0 c.loop-j.invariant.1 (omega arith)
