use Prim.Native.Nat.{ℕ}
use mathlib.Core.Path.{◌≡◌, refl, sym, ◌∙◌}
use native.Mathlib.Omega.{arith}
use Rattle.environment.specs.Code.{binding, count, listed, place}
use Rattle.environment.proofs.Bindings.{listed_length}
use Rattle.environment.proofs.Directives.{prefix_too_long, namespace_too_long, too_many, declared_again, declared_first}
use Rattle.environment.proofs.declare.Goals as goal

pub returns-then-work-lt-WORK : goal.returns-then-work-lt-WORK
returns-then-work-lt-WORK c = λ u. absurd (omega (arith, u.room))

pub returns-then-prefix-gt-PREFIX : goal.returns-then-prefix-gt-PREFIX
returns-then-prefix-gt-PREFIX c = λ u. prefix_too_long c.args.work.now c.args.lens.now c.args.prefix.now c.args.namespace.now u c.if-prefix-gt-PREFIX.true

pub returns-then-namespace-gt-IRI : goal.returns-then-namespace-gt-IRI
returns-then-namespace-gt-IRI c = λ u. namespace_too_long c.args.work.now c.args.lens.now c.args.prefix.now c.args.namespace.now u (omega arith) c.if-namespace-gt-IRI.true

pub returns-in-Some : goal.returns-in-Some
returns-in-Some c = λ u. declared_again c.args.work.now c.args.lens.now c.args.prefix.now c.args.namespace.now u (omega arith) (omega arith) (count c.args.lens.now) c.in-Some.i refl (sym c.in-Some.ensures.place) (omega (arith, c.in-Some.ensures.within)) _ _ c.write_binding.ensures (omega (arith, c.in-Some.ensures.within)) c.in-Some.ensures.within (omega arith)

pub returns-then-n-ge-PREFIXES : goal.returns-then-n-ge-PREFIXES
returns-then-n-ge-PREFIXES c = λ u.
    let n : ℕ = count c.args.lens.now in
    let f = binding c.args.work.now c.args.lens.now in
    let e : n ≡ place c.args.prefix.now (listed f 0 n) = sym (c.in_default.ensures.place ∙ listed_length c.args.prefix.now f 0 n) in
    too_many c.args.work.now c.args.lens.now c.args.prefix.now c.args.namespace.now u (omega arith) (omega arith) n n refl e (omega arith) (omega (arith, c.prefix_count-n.ensures.0)) (omega arith)

pub returns : goal.returns
returns c = λ u.
    let f = binding c.args.work.now c.args.lens.now in
    let n : ℕ = c.prefix_count-n.result in
    let e : n ≡ place c.args.prefix.now (listed f 0 n) = rw c.prefix_count-n.ensures.0 (sym (c.in_default.ensures.place ∙ listed_length c.args.prefix.now f 0 (count c.args.lens.now))) in
    declared_first c.args.work.now c.args.lens.now c.args.prefix.now c.args.namespace.now u (omega arith) (omega arith) n n c.prefix_count-n.ensures.0 e (omega arith) _ _ c.write_binding-2.ensures c.if-n-ge-PREFIXES.false _ (omega arith) refl
