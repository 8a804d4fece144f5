use mathlib.Core.Path.{refl}
use native.Mathlib.Omega.{arith}
use Rattle.chains.proofs.Chains.{within, key_none, key_some}
use Rattle.chains.proofs.Links.key_of.Goals as goal

pub returns-then-self-eq0 : goal.returns-then-self-eq0
returns-then-self-eq0 c = let s = c.args.self.now in key_none s.words.now s.count s.head_count s.headed c.args.j c.if-self-eq0.true

pub overflow_add-result : goal.overflow_add-result
overflow_add-result c = let s = c.args.self.now in omega (arith, (within s.words.now s.count s.head_count s.headed c.if-self-eq0.false).0)

pub overflow_add-result-2 : goal.overflow_add-result-2
overflow_add-result-2 c = let s = c.args.self.now in omega (arith, (within s.words.now s.count s.head_count s.headed c.if-self-eq0.false).0)

pub offset_bounds-self-self : goal.offset_bounds-self-self
offset_bounds-self-self c = let s = c.args.self.now in omega (arith, (within s.words.now s.count s.head_count s.headed c.if-self-eq0.false).0)

pub bounds-self-self : goal.bounds-self-self
bounds-self-self c = let s = c.args.self.now in omega (arith, (within s.words.now s.count s.head_count s.headed c.if-self-eq0.false).0)

pub returns : goal.returns
returns c = let s = c.args.self.now in key_some s.words.now s.count s.head_count s.headed c.args.j _ c.requires c.if-self-eq0.false refl
