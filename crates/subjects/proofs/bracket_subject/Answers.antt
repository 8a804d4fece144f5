use Rattle.limits.proofs.Errors.{handed_on, numbered}
use mathlib.Core.Path.{refl, sym, ◌∙◌}
use native.Mathlib.Omega.{arith}
use Rattle.token.specs.Kind.{kind_code, close_bracket}
use Rattle.nesting.proofs.Aiming.{ready_words, unexpected_call, leave_call}
use Rattle.subjects.proofs.OfBrackets.{bracket_asked, bracket_refused, bracket_opened, bracket_deep, bracket_empty, bracket_unexpected, properties_refused, properties_ready, properties_unexpected, properties_closed}
use Rattle.subjects.proofs.bracket_subject.Goals as goal

pub aim-requires : goal.aim-requires
aim-requires c = ready_words _ c.args.held.now c.requires.0

pub put_bracket-requires : goal.put_bracket-requires
put_bracket-requires c = bracket_asked _ _ _ _ _ _ _ c.requires.0 c.requires.1 c.aim.ensures

pub returns-in_err-put_bracket : goal.returns-in_err-put_bracket
returns-in_err-put_bracket c = rw (handed_on _ _ c.from_residual.ensures) (bracket_refused _ _ _ _ _ _ _ c.requires.0 c.requires.1 c.aim.ensures _ _ _ _ _ _ c.in_err-put_bracket.ensures (numbered _))

pub leave-requires : goal.leave-requires
leave-requires c = leave_call _ _ (kind_code close_bracket) (bracket_opened _ _ _ _ _ _ _ c.requires.0 c.requires.1 c.aim.ensures _ _ _ _ _ _ c.in_ok-put_bracket.ensures refl) c.if-held-eq-CLOSE_BRACKET.true (λ h. omega arith) (λ h. omega arith) (bracket_deep _ _ _ _ _ _ _ c.requires.0 c.requires.1 c.aim.ensures _ _ _ _ _ _ c.in_ok-put_bracket.ensures refl)

pub aim-requires-then-held-eq-CLOSE_BRACKET : goal.aim-requires-then-held-eq-CLOSE_BRACKET
aim-requires-then-held-eq-CLOSE_BRACKET c = c.leave.ensures.words ∙ ready_words _ _ (bracket_opened _ _ _ _ _ _ _ c.requires.0 c.requires.1 c.aim.ensures _ _ _ _ _ _ c.in_ok-put_bracket.ensures refl)

pub returns-then-held-eq-CLOSE_BRACKET : goal.returns-then-held-eq-CLOSE_BRACKET
returns-then-held-eq-CLOSE_BRACKET c = bracket_empty _ _ _ _ _ _ _ c.requires.0 c.requires.1 c.aim.ensures _ _ _ _ _ _ c.in_ok-put_bracket.ensures refl c.if-held-eq-CLOSE_BRACKET.true _ _ _ refl c.leave.ensures c.aim-then-held-eq-CLOSE_BRACKET.ensures

pub unexpected-requires : goal.unexpected-requires
unexpected-requires c = unexpected_call _ _ (bracket_opened _ _ _ _ _ _ _ c.requires.0 c.requires.1 c.aim.ensures _ _ _ _ _ _ c.in_ok-put_bracket.ensures refl)

pub returns-then-not-is_verb : goal.returns-then-not-is_verb
returns-then-not-is_verb c = bracket_unexpected _ _ _ _ _ _ _ c.requires.0 c.requires.1 c.aim.ensures _ _ _ _ _ _ c.in_ok-put_bracket.ensures refl _ c.if-held-eq-CLOSE_BRACKET.false (sym c.is_verb.ensures ∙ c.if-not-is_verb.true) c.unexpected.ensures

pub properties-requires : goal.properties-requires
properties-requires c = ((bracket_opened _ _ _ _ _ _ _ c.requires.0 c.requires.1 c.aim.ensures _ _ _ _ _ _ c.in_ok-put_bracket.ensures refl, c.in_ok-put_bracket.ensures.gives.small refl), (c.in_ok-put_bracket.ensures.positive refl, sym c.is_verb.ensures ∙ c.if-not-is_verb.false))

pub returns-in_err-properties : goal.returns-in_err-properties
returns-in_err-properties c = rw (handed_on _ _ c.from_residual-in_err-properties.ensures) (properties_refused _ _ _ _ _ _ _ c.requires.0 c.requires.1 c.aim.ensures _ _ _ _ _ _ c.in_ok-put_bracket.ensures refl _ _ _ _ _ _ _ refl c.in_err-properties.ensures (numbered _))

pub unexpected-requires-then-held-ne-CLOSE_BRACKET : goal.unexpected-requires-then-held-ne-CLOSE_BRACKET
unexpected-requires-then-held-ne-CLOSE_BRACKET c = unexpected_call _ _ (properties_ready _ _ _ _ _ _ _ c.requires.0 c.requires.1 c.aim.ensures _ _ _ _ _ _ c.in_ok-put_bracket.ensures refl _ _ _ _ _ _ _ refl c.in_ok-properties.ensures refl).0

pub returns-then-held-ne-CLOSE_BRACKET : goal.returns-then-held-ne-CLOSE_BRACKET
returns-then-held-ne-CLOSE_BRACKET c = properties_unexpected _ _ _ _ _ _ _ c.requires.0 c.requires.1 c.aim.ensures _ _ _ _ _ _ c.in_ok-put_bracket.ensures refl _ _ _ _ _ _ _ refl c.in_ok-properties.ensures refl _ c.if-held-ne-CLOSE_BRACKET.true c.unexpected-then-held-ne-CLOSE_BRACKET.ensures

pub leave-requires-2 : goal.leave-requires-2
leave-requires-2 c = leave_call _ _ (kind_code close_bracket) (properties_ready _ _ _ _ _ _ _ c.requires.0 c.requires.1 c.aim.ensures _ _ _ _ _ _ c.in_ok-put_bracket.ensures refl _ _ _ _ _ _ _ refl c.in_ok-properties.ensures refl).0 c.if-held-ne-CLOSE_BRACKET.false (λ h. omega arith) (λ h. omega arith) (properties_ready _ _ _ _ _ _ _ c.requires.0 c.requires.1 c.aim.ensures _ _ _ _ _ _ c.in_ok-put_bracket.ensures refl _ _ _ _ _ _ _ refl c.in_ok-properties.ensures refl).1

pub aim-requires-2 : goal.aim-requires-2
aim-requires-2 c = c.leave-2.ensures.words ∙ ready_words _ _ (properties_ready _ _ _ _ _ _ _ c.requires.0 c.requires.1 c.aim.ensures _ _ _ _ _ _ c.in_ok-put_bracket.ensures refl _ _ _ _ _ _ _ refl c.in_ok-properties.ensures refl).0

pub returns : goal.returns
returns c = properties_closed _ _ _ _ _ _ _ c.requires.0 c.requires.1 c.aim.ensures _ _ _ _ _ _ c.in_ok-put_bracket.ensures refl _ _ _ _ _ _ _ refl c.in_ok-properties.ensures refl c.if-held-ne-CLOSE_BRACKET.false _ _ c.leave-2.ensures c.aim-2.ensures
