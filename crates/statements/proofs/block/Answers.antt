use mathlib.Core.Path.{refl}
use Rattle.limits.proofs.Errors.{handed_on, numbered}
use Rattle.token.specs.Kind.{kind_code, dot, close_brace}
use Rattle.nesting.proofs.Aiming.{unexpected_call}
use Rattle.statements.proofs.OfMarks.{mark_call, dot_mark, close_mark}
use Rattle.statements.proofs.OfBlocks.{block_start, block_close, block_stop, block_subject, block_behind_stop, block_behind_ready, block_unexpected, block_end, block_again, block_less}
use Rattle.statements.proofs.block.Goals as goal

pub loop-held-init : goal.loop-held-init
loop-held-init c = search block_start

pub enter-requires : goal.enter-requires
enter-requires c = mark_call _ _ (kind_code close_brace) close_mark c.loop-held.invariant.ready c.if-held-eq-CLOSE_BRACE.true

pub returns-then-held-eq-CLOSE_BRACE : goal.returns-then-held-eq-CLOSE_BRACE
returns-then-held-eq-CLOSE_BRACE c = search block_close

pub returns-in_err-subject : goal.returns-in_err-subject
returns-in_err-subject c = rw (handed_on _ _ c.from_residual.ensures) (block_stop _ _ _ _ _ _ _ c.loop-held.invariant c.if-held-eq-CLOSE_BRACE.false _ _ c.in_err-subject.ensures (numbered _))

pub predicates-requires : goal.predicates-requires
predicates-requires c = block_subject _ _ _ _ _ _ _ c.loop-held.invariant c.if-held-eq-CLOSE_BRACE.false _ _ c.in_ok-subject.ensures refl

pub returns-in_err-predicates : goal.returns-in_err-predicates
returns-in_err-predicates c = rw (handed_on _ _ c.from_residual-in_err-predicates.ensures) (block_behind_stop _ _ _ _ _ _ _ c.loop-held.invariant c.if-held-eq-CLOSE_BRACE.false _ _ _ _ c.in_ok-subject.ensures refl c.in_err-predicates.ensures (numbered _))

pub enter-requires-then-held-eq-CLOSE_BRACE-2 : goal.enter-requires-then-held-eq-CLOSE_BRACE-2
enter-requires-then-held-eq-CLOSE_BRACE-2 c = mark_call _ _ (kind_code close_brace) close_mark (block_behind_ready _ _ _ _ _ _ _ c.loop-held.invariant c.if-held-eq-CLOSE_BRACE.false _ _ _ _ c.in_ok-subject.ensures refl c.in_ok-predicates.ensures refl) c.if-held-eq-CLOSE_BRACE-2.true

pub returns-then-held-eq-CLOSE_BRACE-2 : goal.returns-then-held-eq-CLOSE_BRACE-2
returns-then-held-eq-CLOSE_BRACE-2 c = block_end _ _ _ _ _ _ _ c.loop-held.invariant c.if-held-eq-CLOSE_BRACE.false _ _ _ c.in_ok-subject.ensures refl _ _ _ _ _ _ c.in_ok-predicates.ensures refl c.if-held-eq-CLOSE_BRACE-2.true c.enter-then-held-eq-CLOSE_BRACE-2.ensures

pub unexpected-requires : goal.unexpected-requires
unexpected-requires c = unexpected_call _ _ (block_behind_ready _ _ _ _ _ _ _ c.loop-held.invariant c.if-held-eq-CLOSE_BRACE.false _ _ _ _ c.in_ok-subject.ensures refl c.in_ok-predicates.ensures refl)

pub returns-then-held-ne-DOT : goal.returns-then-held-ne-DOT
returns-then-held-ne-DOT c = block_unexpected _ _ _ _ _ _ _ c.loop-held.invariant c.if-held-eq-CLOSE_BRACE.false _ _ _ _ c.in_ok-subject.ensures refl c.in_ok-predicates.ensures refl c.if-held-eq-CLOSE_BRACE-2.false c.if-held-ne-DOT.true _ c.unexpected.ensures

pub pass-requires : goal.pass-requires
pass-requires c = mark_call _ _ (kind_code dot) dot_mark (block_behind_ready _ _ _ _ _ _ _ c.loop-held.invariant c.if-held-eq-CLOSE_BRACE.false _ _ _ _ c.in_ok-subject.ensures refl c.in_ok-predicates.ensures refl) c.if-held-ne-DOT.false

pub loop-held-smaller : goal.loop-held-smaller
loop-held-smaller c = block_less _ _ _ _ _ _ _ c.loop-held.invariant c.if-held-eq-CLOSE_BRACE.false _ _ _ c.in_ok-subject.ensures refl _ _ _ _ _ _ c.in_ok-predicates.ensures refl c.if-held-ne-DOT.false c.pass.ensures

pub loop-held-preserved : goal.loop-held-preserved
loop-held-preserved c = block_again _ _ _ _ _ _ _ c.loop-held.invariant c.if-held-eq-CLOSE_BRACE.false _ _ _ c.in_ok-subject.ensures refl _ _ _ _ _ _ c.in_ok-predicates.ensures refl c.if-held-ne-DOT.false c.pass.ensures
