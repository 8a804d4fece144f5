use mathlib.Core.Path.{refl}
use native.Mathlib.Omega.{arith}
use Rattle.chains.proofs.Chains.{within, linked_none, keyed_start, keyed_next, keyed_all}
use Rattle.chains.proofs.link.Goals as goal

pub returns-then-count-eq0 : goal.returns-then-count-eq0
returns-then-count-eq0 g c = (refl, λ f h. (linked_none c.args.chain.now c.args.n c.head_count-count.result f c.head_count-count.ensures c.if-count-eq0.true).1)

pub loop-j-init : goal.loop-j-init
loop-j-init g c = keyed_start c.args.chain.now _ _

pub overflow_cast-chain : goal.overflow_cast-chain
overflow_cast-chain g c = omega (arith, (c.requires c.loop-j.j c.loop-j-test.true).1 _ c.key_of.ensures)

pub overflow_add-chain : goal.overflow_add-chain
overflow_add-chain g c = omega (arith, (within c.args.chain.now c.args.n c.head_count-count.result c.head_count-count.ensures c.if-count-eq0.false).0)

pub overflow_add-chain-in-loop-j : goal.overflow_add-chain-in-loop-j
overflow_add-chain-in-loop-j g c = omega (arith, (within c.args.chain.now c.args.n c.head_count-count.result c.head_count-count.ensures c.if-count-eq0.false).0)

pub offset_bounds-chain-count : goal.offset_bounds-chain-count
offset_bounds-chain-count g c = omega (arith, (within c.args.chain.now c.args.n c.head_count-count.result c.head_count-count.ensures c.if-count-eq0.false).0)

pub bounds-chain-count : goal.bounds-chain-count
bounds-chain-count g c = omega (arith, c.loop-j.invariant.size, (within c.args.chain.now c.args.n c.head_count-count.result c.head_count-count.ensures c.if-count-eq0.false).0)

pub loop-j-preserved : goal.loop-j-preserved
loop-j-preserved g c = keyed_next c.args.chain.now c.loop-j.chain _ _ c.loop-j.j _ (omega (arith, c.loop-j.invariant.size, (within c.args.chain.now c.args.n c.head_count-count.result c.head_count-count.ensures c.if-count-eq0.false).0)) c.key_of.ensures c.loop-j.invariant

pub returns : goal.returns
returns g c = keyed_all c.args.chain.now c.loop-j.chain _ c.args.n c.head_count-count.result c.loop-j.j _ c.head_count-count.ensures (omega arith) c.loop-j.invariant c.link_keys.ensures
