use borrow.Author.Tests.{ne_eqb}
use native.Mathlib.Omega.{arith}
use Rattle.iri.specs.Code.{rule_by}
use Rattle.iri.proofs.which.Goals as goal

pub returns-then-c1-eq47 : goal.returns-then-c1-eq47
unfolding rule_by
returns-then-c1-eq47 c = simp (c.if-c1-eq47.true, c.if-c0-eq46.true)

pub returns-then-n-eq1 : goal.returns-then-n-eq1
unfolding rule_by
returns-then-n-eq1 c = simp (c.if-n-eq1.true, ne_eqb _ _ c.if-c1-ne46.true, ne_eqb _ _ c.if-c1-eq47.false, c.if-c0-eq46.true)

pub returns-then-c1-ne46 : goal.returns-then-c1-ne46
unfolding rule_by
returns-then-c1-ne46 c = simp (ne_eqb _ _ c.if-n-eq1.false, ne_eqb _ _ c.if-c1-ne46.true, ne_eqb _ _ c.if-c1-eq47.false, c.if-c0-eq46.true)

pub returns-then-c2-eq47 : goal.returns-then-c2-eq47
unfolding rule_by
returns-then-c2-eq47 c = simp (c.if-c2-eq47.true, c.if-c1-ne46.false, ne_eqb _ _ c.if-c1-eq47.false, c.if-c0-eq46.true)

pub returns-then-n-eq2 : goal.returns-then-n-eq2
unfolding rule_by
returns-then-n-eq2 c = simp (c.if-n-eq2.true, ne_eqb _ _ c.if-c2-eq47.false, c.if-c1-ne46.false, ne_eqb _ _ c.if-c1-eq47.false, c.if-c0-eq46.true)

pub returns-then-c0-eq46 : goal.returns-then-c0-eq46
unfolding rule_by
returns-then-c0-eq46 c = simp (ne_eqb _ _ c.if-n-eq2.false, ne_eqb _ _ c.if-c2-eq47.false, c.if-c1-ne46.false, ne_eqb _ _ c.if-c1-eq47.false, c.if-c0-eq46.true, ne_eqb _ _ (λ e. let z = c.requires e in omega arith))

pub returns-then-c0-ne47 : goal.returns-then-c0-ne47
unfolding rule_by
returns-then-c0-ne47 c = simp (ne_eqb _ _ c.if-c0-ne47.true, ne_eqb _ _ c.if-c0-eq46.false)

pub returns-then-c1-ne46-2 : goal.returns-then-c1-ne46-2
unfolding rule_by
returns-then-c1-ne46-2 c = simp (ne_eqb _ _ c.if-c1-ne46-2.true, c.if-c0-ne47.false, ne_eqb _ _ c.if-c0-eq46.false)

pub returns-then-c2-eq47-2 : goal.returns-then-c2-eq47-2
unfolding rule_by
returns-then-c2-eq47-2 c = simp (c.if-c2-eq47-2.true, c.if-c1-ne46-2.false, c.if-c0-ne47.false, ne_eqb _ _ c.if-c0-eq46.false)

pub returns-then-n-eq2-2 : goal.returns-then-n-eq2-2
unfolding rule_by
returns-then-n-eq2-2 c = simp (c.if-n-eq2-2.true, ne_eqb _ _ c.if-c2-eq47-2.false, c.if-c1-ne46-2.false, c.if-c0-ne47.false, ne_eqb _ _ c.if-c0-eq46.false)

pub returns-then-c2-ne46 : goal.returns-then-c2-ne46
unfolding rule_by
returns-then-c2-ne46 c = simp (ne_eqb _ _ c.if-c2-ne46.true, ne_eqb _ _ c.if-n-eq2-2.false, ne_eqb _ _ c.if-c2-eq47-2.false, c.if-c1-ne46-2.false, c.if-c0-ne47.false, ne_eqb _ _ c.if-c0-eq46.false)

pub returns-then-c3-eq47 : goal.returns-then-c3-eq47
unfolding rule_by
returns-then-c3-eq47 c = simp (c.if-c3-eq47.true, c.if-c2-ne46.false, ne_eqb _ _ c.if-n-eq2-2.false, ne_eqb _ _ c.if-c2-eq47-2.false, c.if-c1-ne46-2.false, c.if-c0-ne47.false, ne_eqb _ _ c.if-c0-eq46.false)

pub returns-then-n-eq3 : goal.returns-then-n-eq3
unfolding rule_by
returns-then-n-eq3 c = simp (c.if-n-eq3.true, ne_eqb _ _ c.if-c3-eq47.false, c.if-c2-ne46.false, ne_eqb _ _ c.if-n-eq2-2.false, ne_eqb _ _ c.if-c2-eq47-2.false, c.if-c1-ne46-2.false, c.if-c0-ne47.false, ne_eqb _ _ c.if-c0-eq46.false)

pub returns : goal.returns
unfolding rule_by
returns c = simp (ne_eqb _ _ c.if-n-eq3.false, ne_eqb _ _ c.if-c3-eq47.false, c.if-c2-ne46.false, ne_eqb _ _ c.if-n-eq2-2.false, ne_eqb _ _ c.if-c2-eq47-2.false, c.if-c1-ne46-2.false, c.if-c0-ne47.false, ne_eqb _ _ c.if-c0-eq46.false)
