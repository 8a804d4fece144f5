use borrow.Author.Tests.{lt-ltb, le-ltb, eq-eqb, ne_eqb}
use Rattle.escape.specs.Code.{four}
use Rattle.escape.proofs.Character.bytes.Goals as goal

pub returns-then-n-lt2 : goal.returns-then-n-lt2
unfolding four
returns-then-n-lt2 c = simp (lt-ltb _ _ c.if-n-lt2.true)

pub returns-then-n-eq2 : goal.returns-then-n-eq2
unfolding four
returns-then-n-eq2 c = simp (eq-eqb _ _ c.if-n-eq2.true, le-ltb _ _ c.if-n-lt2.false)

pub returns-then-n-eq3 : goal.returns-then-n-eq3
unfolding four
returns-then-n-eq3 c = simp (eq-eqb _ _ c.if-n-eq3.true, ne_eqb _ _ c.if-n-eq2.false, le-ltb _ _ c.if-n-lt2.false)

pub returns : goal.returns
unfolding four
returns c = simp (ne_eqb _ _ c.if-n-eq3.false, ne_eqb _ _ c.if-n-eq2.false, le-ltb _ _ c.if-n-lt2.false)
