use native.Mathlib.Nat.{mod-lt}
use native.Mathlib.Omega.{arith}
use Rattle.std.proofs.Common.{rules}
use Rattle.chains.proofs.Chains.{within, first_none, first_some}
use Rattle.chains.proofs.Links.first.Goals as goal

pub returns-then-self-eq0 : goal.returns-then-self-eq0
returns-then-self-eq0 c = let s = c.args.self.now in first_none s.words.now s.count s.head_count s.headed c.args.key c.checked_sub.result c.if-self-eq0.true (search rules)

pub linked-requires : goal.linked-requires
linked-requires c = let s = c.args.self.now in omega (arith, (within s.words.now s.count s.head_count s.headed c.if-self-eq0.false).0, mod-lt c.args.key {m = s.head_count} (omega arith))

pub returns : goal.returns
returns c = let s = c.args.self.now in first_some s.words.now s.count s.head_count s.headed c.args.key c.linked.result c.if-self-eq0.false c.linked.ensures
