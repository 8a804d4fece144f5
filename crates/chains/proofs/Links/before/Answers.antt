use mathlib.Core.Path.{◌≡◌}
use native.Mathlib.Omega.{arith}
use Rattle.std.proofs.Common.{rules}
use Rattle.chains.specs.Chains.{behind}
use Rattle.chains.proofs.Chains.{within, before_none, before_some, before_falls}
use Rattle.chains.proofs.Links.before.Goals as goal

pub returns-then-self-eq0 : goal.returns-then-self-eq0
returns-then-self-eq0 c =
    let s = c.args.self.now in
    let e : behind c.checked_sub.result ≡ c.args.j = search rules in
    record { next = before_none s.words.now s.count s.head_count s.headed c.args.j c.checked_sub.result c.if-self-eq0.true e; falls = λ h. omega (arith, e) }

pub overflow_add-self : goal.overflow_add-self
overflow_add-self c = let s = c.args.self.now in omega (arith, (within s.words.now s.count s.head_count s.headed c.if-self-eq0.false).0)

pub linked-requires : goal.linked-requires
linked-requires c = let s = c.args.self.now in omega (arith, (within s.words.now s.count s.head_count s.headed c.if-self-eq0.false).0)

pub returns : goal.returns
returns c =
    let s = c.args.self.now in
    record { next = before_some s.words.now s.count s.head_count s.headed c.args.j c.linked.result c.requires c.if-self-eq0.false c.linked.ensures; falls = before_falls s.words.now s.count s.head_count s.headed c.args.j c.linked.result c.requires c.if-self-eq0.false c.linked.ensures }
