use native.Mathlib.Nat.{mod-lt}
use native.Mathlib.Omega.{arith}
use mathlib.Core.Path.{refl}
use borrow.Author.Tests.{eq-eqb, ne_eqb}
use Rattle.spelling.specs.Hash.{first_multiplier, stir}
use Rattle.spelling.proofs.Hashes.{product}
use Rattle.spelling.proofs.stir.Goals as goal

pub overflow_mul-result : goal.overflow_mul-result
overflow_mul-result c = omega (arith, product c.args.m c.args.h c.requires.0 c.requires.1.0)

pub overflow_add-result : goal.overflow_add-result
overflow_add-result c = omega (arith, product c.args.m c.args.h c.requires.0 c.requires.1.0)

pub returns-then-m-eq-FIRST : goal.returns-then-m-eq-FIRST
unfolding stir
returns-then-m-eq-FIRST c = (rw (eq-eqb c.args.m first_multiplier c.if-m-eq-FIRST.true) refl, mod-lt _ (omega arith))

pub overflow_mul-result-2 : goal.overflow_mul-result-2
overflow_mul-result-2 c = omega (arith, product c.args.m c.args.h c.requires.0 c.requires.1.0)

pub overflow_add-result-2 : goal.overflow_add-result-2
overflow_add-result-2 c = omega (arith, product c.args.m c.args.h c.requires.0 c.requires.1.0)

pub overflow_add-result-3 : goal.overflow_add-result-3
overflow_add-result-3 c = omega (arith, product c.args.m c.args.h c.requires.0 c.requires.1.0)

pub returns : goal.returns
unfolding stir
returns c = (rw (ne_eqb c.args.m first_multiplier c.if-m-eq-FIRST.false) refl, mod-lt _ (omega arith))
