use borrow.Author.Tests.{lt-ltb, le-ltb, eq-eqb, ne_eqb}
use Rattle.iri.specs.Code.{plan_by}
use Rattle.iri.proofs.Plans.{slash_fits}
use borrow.Author.Rules.{rules}
use Rattle.iri.proofs.choose.Goals as goal

pub returns-then-ra-gt0 : goal.returns-then-ra-gt0
unfolding plan_by
returns-then-ra-gt0 c = simp (lt-ltb _ _ c.if-ra-gt0.true)

pub returns-then-rq-eq0 : goal.returns-then-rq-eq0
unfolding plan_by
returns-then-rq-eq0 c = simp (eq-eqb _ _ c.if-rq-eq0.true, eq-eqb _ _ c.if-rp-eq0.true, le-ltb _ _ c.if-ra-gt0.false)

pub returns-then-rp-eq0 : goal.returns-then-rp-eq0
unfolding plan_by
returns-then-rp-eq0 c = simp (ne_eqb _ _ c.if-rq-eq0.false, eq-eqb _ _ c.if-rp-eq0.true, le-ltb _ _ c.if-ra-gt0.false)

pub returns-then-reference-eq47 : goal.returns-then-reference-eq47
unfolding plan_by
returns-then-reference-eq47 c = simp (eq-eqb _ _ c.if-reference-eq47.true, ne_eqb _ _ c.if-rp-eq0.false, le-ltb _ _ c.if-ra-gt0.false)

pub overflow_add-result-then-ba-bp : goal.overflow_add-result-then-ba-bp
overflow_add-result-then-ba-bp c = let h = slash_fits c.args.base.now c.args.b.authority c.args.b.path c.slash_end-m.result c.slash_end-m.ensures in search rules

pub returns-then-ba-bp : goal.returns-then-ba-bp
unfolding plan_by
returns-then-ba-bp c = simp (c.slash_end-m.ensures, lt-ltb _ _ c.if-ba-bp.true, ne_eqb _ _ c.if-reference-eq47.false, ne_eqb _ _ c.if-rp-eq0.false, le-ltb _ _ c.if-ra-gt0.false)

pub returns-then-k-ba : goal.returns-then-k-ba
unfolding plan_by
returns-then-k-ba c = simp (lt-ltb _ _ c.if-k-ba.true, le-ltb _ _ c.if-ba-bp.false, ne_eqb _ _ c.if-reference-eq47.false, ne_eqb _ _ c.if-rp-eq0.false, le-ltb _ _ c.if-ra-gt0.false)

pub returns : goal.returns
unfolding plan_by
returns c = simp (le-ltb _ _ c.if-k-ba.false, le-ltb _ _ c.if-ba-bp.false, ne_eqb _ _ c.if-reference-eq47.false, ne_eqb _ _ c.if-rp-eq0.false, le-ltb _ _ c.if-ra-gt0.false)
