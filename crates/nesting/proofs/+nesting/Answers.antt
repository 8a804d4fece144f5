use Rattle.limits.proofs.Errors.{numbered}
use mathlib.Core.Path.{refl, sym, ◌∙◌}
use native.Mathlib.Omega.{arith}
use Rattle.token.specs.Kind.{kind_code, comma, close_bracket}
use Rattle.state.specs.Words.{at_word, kind_in}
use Rattle.machine.specs.Frame.{bracket_end}
use Rattle.simulation.proofs.Numbers.{next_small}
use Rattle.nesting.proofs.Aiming.{ready_words, unexpected_call, pass_call, leave_call}
use Rattle.nesting.proofs.Levels.{mark_call, mark_before, some_level}
use Rattle.nesting.proofs.OfBrackets.{closing_none, left_call, closing_resumes, contents_end, contents_call, contents_predicate}
use Rattle.nesting.proofs.OfObjects.{comma_reads}
use Rattle.nesting.proofs.OfPredicates.{predicate_stop, predicate_later, predicate_value_call, predicate_value, follows_deep, follows_close, comma_later, comma_call, comma_value, semicolon_ready, semicolon_deep, semicolon_predicate_call, semicolon_predicate, semicolon_close}
use Rattle.nesting.proofs.OfVerbs.{verb_call, verb_done}
use Rattle.nesting.proofs.OfLists.{element_stop, closed_later, closed_call, element_resumes, element_call, element_value, resumes_object, resumes_none, resumes_call, resumes_list}
use Rattle.nesting.proofs.OfNodes.{leaf_call, leaf_stop, leaf_settled, leaf_done, leaf_resumes, value_none, bracket_stop, bracket_later, bracket_call, bracket_contents, list_stop, list_open, list_later, list_call, list_elements}
use Rattle.nesting.proofs.+nesting.Goals as goal

pub after_object-pass-requires : goal.after_object-pass-requires
after_object-pass-requires t c = pass_call _ _ (kind_code comma) c.requires.0 c.if-held-eq-COMMA.true (λ h. omega arith) (λ h. omega arith)

pub after_object-level_x-s-requires : goal.after_object-level_x-s-requires
after_object-level_x-s-requires t c = mark_call _ _ ((comma_reads _ _ _ _ _ _ _ c.requires.0 c.if-held-eq-COMMA.true c.pass.ensures 1 1 bracket_end).ready refl)

pub after_object-level_y-p-requires : goal.after_object-level_y-p-requires
after_object-level_y-p-requires t c = mark_call _ _ ((comma_reads _ _ _ _ _ _ _ c.requires.0 c.if-held-eq-COMMA.true c.pass.ensures 1 1 bracket_end).ready refl)

pub after_object-aim-requires : goal.after_object-aim-requires
after_object-aim-requires t c = ready_words _ _ ((comma_reads _ _ _ _ _ _ _ c.requires.0 c.if-held-eq-COMMA.true c.pass.ensures 1 1 bracket_end).ready refl)

pub after_object-value-requires : goal.after_object-value-requires
after_object-value-requires t c = let l = comma_call _ _ _ _ _ _ c.requires.0 _ _ c.if-held-eq-COMMA.true c.pass.ensures _ _ c.level_x-s.ensures c.level_y-p.ensures c.aim.ensures c.requires.1.0 c.requires.1.1 in (omega (arith, comma_later _ _ _ _ _ _ c.requires.0 _ _ c.if-held-eq-COMMA.true c.pass.ensures _ _ c.level_x-s.ensures c.level_y-p.ensures c.aim.ensures c.requires.1.0 c.requires.1.1, l.0.0.cursor.inside, c.decreases), l)

pub after_object-returns-then-held-eq-COMMA : goal.after_object-returns-then-held-eq-COMMA
after_object-returns-then-held-eq-COMMA t c = comma_value _ _ _ _ _ _ c.requires.0 _ _ c.if-held-eq-COMMA.true c.pass.ensures _ _ c.level_x-s.ensures c.level_y-p.ensures c.aim.ensures c.requires.1.0 c.requires.1.1 _ _ c.value.ensures

pub after_object-close_bracket-requires : goal.after_object-close_bracket-requires
after_object-close_bracket-requires t c = (omega (arith, c.decreases), (c.requires.0, follows_deep _ _ _ _ _ _ c.requires.0 c.requires.1.0 c.requires.1.1))

pub after_object-returns-then-held-ne-SEMICOLON : goal.after_object-returns-then-held-ne-SEMICOLON
after_object-returns-then-held-ne-SEMICOLON t c = follows_close _ _ _ _ _ _ c.requires.0 c.if-held-eq-COMMA.false c.if-held-ne-SEMICOLON.true _ _ c.close_bracket.ensures

pub after_object-skip_semicolons-requires : goal.after_object-skip_semicolons-requires
after_object-skip_semicolons-requires t c = ((c.requires.0.cursor, ready_words _ _ c.requires.0), c.if-held-ne-SEMICOLON.false)

pub after_object-predicate-requires : goal.after_object-predicate-requires
after_object-predicate-requires t c = let l = semicolon_predicate_call _ _ _ _ _ _ c.requires.0 _ c.skip_semicolons.ensures c.requires.1.0 c.requires.1.1 (sym c.is_verb.ensures ∙ c.if-is_verb.true) in (omega (arith, c.skip_semicolons.ensures.later, l.0.0.cursor.inside, c.decreases), l)

pub after_object-returns-then-is_verb : goal.after_object-returns-then-is_verb
after_object-returns-then-is_verb t c = semicolon_predicate _ _ _ _ _ _ c.requires.0 _ c.skip_semicolons.ensures _ _ c.predicate.ensures

pub after_object-close_bracket-requires-2 : goal.after_object-close_bracket-requires-2
after_object-close_bracket-requires-2 t c = (omega (arith, c.skip_semicolons.ensures.later, (semicolon_ready _ _ _ _ _ _ c.requires.0 _ c.skip_semicolons.ensures).cursor.inside, c.decreases), (semicolon_ready _ _ _ _ _ _ c.requires.0 _ c.skip_semicolons.ensures, semicolon_deep _ _ _ _ _ _ c.requires.0 _ c.skip_semicolons.ensures (follows_deep _ _ _ _ _ _ c.requires.0 c.requires.1.0 c.requires.1.1)))

pub after_object-returns : goal.after_object-returns
after_object-returns t c = semicolon_close _ _ _ _ _ _ c.requires.0 _ c.skip_semicolons.ensures (sym c.is_verb.ensures ∙ c.if-is_verb.false) _ _ c.close_bracket-2.ensures

pub close_bracket-unexpected-requires : goal.close_bracket-unexpected-requires
close_bracket-unexpected-requires t c = unexpected_call _ _ c.requires.0

pub close_bracket-returns-then-held-ne-CLOSE_BRACKET : goal.close_bracket-returns-then-held-ne-CLOSE_BRACKET
close_bracket-returns-then-held-ne-CLOSE_BRACKET t c = closing_none _ _ _ _ _ _ c.requires.0 _ c.if-held-ne-CLOSE_BRACKET.true c.unexpected.ensures

pub close_bracket-leave-requires : goal.close_bracket-leave-requires
close_bracket-leave-requires t c = leave_call _ _ (kind_code close_bracket) c.requires.0 c.if-held-ne-CLOSE_BRACKET.false (λ h. omega arith) (λ h. omega arith) c.requires.1.0

pub close_bracket-resume-requires : goal.close_bracket-resume-requires
close_bracket-resume-requires t c = let l = left_call _ _ _ _ _ _ c.requires.0 _ c.if-held-ne-CLOSE_BRACKET.false c.requires.1.0 c.leave.ensures c.requires.1 in (omega (arith, c.leave.ensures.later, l.0.cursor.inside, c.decreases), l)

pub close_bracket-returns : goal.close_bracket-returns
close_bracket-returns t c = closing_resumes _ _ _ _ _ _ c.requires.0 _ c.if-held-ne-CLOSE_BRACKET.false c.requires.1.0 c.leave.ensures _ _ c.resume.ensures

pub contents-close_bracket-requires : goal.contents-close_bracket-requires
contents-close_bracket-requires t c = (omega (arith, c.decreases), (c.requires.0.0, c.requires.1.1))

pub contents-returns-then-not-is_verb : goal.contents-returns-then-not-is_verb
contents-returns-then-not-is_verb t c = contents_end _ _ _ _ _ _ c.requires.0.0 (sym c.is_verb.ensures ∙ c.if-not-is_verb.true) _ _ c.close_bracket.ensures

pub contents-mark-requires : goal.contents-mark-requires
contents-mark-requires t c = mark_call _ _ c.requires.0.0

pub contents-predicate-requires : goal.contents-predicate-requires
contents-predicate-requires t c = let l = contents_call _ _ _ _ _ _ c.requires.0.0 _ _ refl c.mark.ensures c.requires.0.1 c.requires.1.0 c.requires.1.1 (sym c.is_verb.ensures ∙ c.if-not-is_verb.false) in (omega (arith, mark_before _ _ _ _ c.mark.ensures at_word (omega arith), c.decreases), l)

pub contents-returns : goal.contents-returns
contents-returns t c = contents_predicate _ _ _ _ _ _ c.requires.0.0 _ _ refl c.mark.ensures c.requires.1.1.0 _ _ c.predicate.ensures

pub element-close_list-requires : goal.element-close_list-requires
element-close_list-requires t c = (c.requires.0, (c.if-held-eq-CLOSE_PAREN.true, c.requires.1.1.0))

pub element-returns-in-Err : goal.element-returns-in-Err
element-returns-in-Err t c = element_stop _ _ c.requires.0.0 c.if-held-eq-CLOSE_PAREN.true _ _ c.in-Err.ensures (numbered _)

pub element-resume-requires : goal.element-resume-requires
element-resume-requires t c = let l = closed_call _ _ c.requires.0.0 c.if-held-eq-CLOSE_PAREN.true _ _ c.in_default.ensures refl c.requires.1.1 in (omega (arith, closed_later _ _ c.requires.0.0 c.if-held-eq-CLOSE_PAREN.true _ _ c.in_default.ensures refl, l.0.cursor.inside, c.decreases), l)

pub element-returns-then-held-eq-CLOSE_PAREN : goal.element-returns-then-held-eq-CLOSE_PAREN
element-returns-then-held-eq-CLOSE_PAREN t c = element_resumes _ _ c.requires.0.0 c.if-held-eq-CLOSE_PAREN.true _ _ c.in_default.ensures refl c.requires.1.1.0 _ _ c.resume.ensures

pub element-overflow_add-cell : goal.element-overflow_add-cell
element-overflow_add-cell t c = omega (arith, next_small _ _ c.requires.0.0)

pub element-mark-requires : goal.element-mark-requires
element-mark-requires t c = mark_call _ _ c.requires.0.0

pub element-value-requires : goal.element-value-requires
element-value-requires t c = let l = element_call _ _ _ _ _ _ _ c.requires.0.0 c.if-held-eq-CLOSE_PAREN.false c.requires.1.0 c.requires.1.1 _ refl c.mark.ensures c.requires.0.1 in (omega (arith, mark_before _ _ _ _ c.mark.ensures at_word (omega arith), c.decreases), l)

pub element-returns : goal.element-returns
element-returns t c = element_value _ _ _ _ _ _ _ c.requires.0.0 c.if-held-eq-CLOSE_PAREN.false c.requires.1.0 c.requires.1.1 _ refl c.mark.ensures _ _ c.value.ensures

pub predicate-level_x-s-requires : goal.predicate-level_x-s-requires
predicate-level_x-s-requires t c = mark_call _ _ c.requires.0.0

pub predicate-aim-requires : goal.predicate-aim-requires
predicate-aim-requires t c = ready_words _ _ c.requires.0.0

pub predicate-leaf-requires : goal.predicate-leaf-requires
predicate-leaf-requires t c = verb_call _ _ _ _ _ _ _ c.requires.0.0 c.requires.1.0.1 c.aim.ensures

pub predicate-returns-in-Err : goal.predicate-returns-in-Err
predicate-returns-in-Err t c = predicate_stop _ _ _ _ _ _ _ c.requires.0.0 c.requires.1.0.1 c.aim.ensures _ _ c.in-Err.ensures.puts (numbered _)

pub predicate-mark-requires : goal.predicate-mark-requires
predicate-mark-requires t c = mark_call _ _ (verb_done _ _ _ _ _ _ _ c.requires.0.0 c.requires.1.0.1 c.aim.ensures _ _ c.in_default.ensures.puts refl).ready

pub predicate-aim-requires-2 : goal.predicate-aim-requires-2
predicate-aim-requires-2 t c = c.mark.ensures.words ∙ ready_words _ _ (verb_done _ _ _ _ _ _ _ c.requires.0.0 c.requires.1.0.1 c.aim.ensures _ _ c.in_default.ensures.puts refl).ready

pub predicate-value-requires : goal.predicate-value-requires
predicate-value-requires t c = let l = predicate_value_call _ _ _ _ _ _ _ c.requires.0.0 c.requires.1.0.1 c.aim.ensures _ _ _ _ _ _ c.in_default.ensures.puts refl _ _ c.level_x-s.ensures refl _ _ c.mark.ensures c.aim-2.ensures c.requires.0.1 c.requires.1.0.0 c.requires.1.1.0 c.requires.1.1.1 in (omega (arith, predicate_later _ _ _ _ _ _ _ c.requires.0.0 c.requires.1.0.1 c.aim.ensures _ _ _ _ _ _ c.in_default.ensures.puts refl _ _ c.level_x-s.ensures refl _ _ c.mark.ensures c.aim-2.ensures, l.0.0.cursor.inside, c.decreases), l)

pub predicate-returns : goal.predicate-returns
predicate-returns t c = predicate_value _ _ _ _ _ _ _ c.requires.0.0 c.requires.1.0.1 c.aim.ensures _ _ _ _ _ _ c.in_default.ensures.puts refl _ _ c.level_x-s.ensures refl _ _ c.mark.ensures c.aim-2.ensures c.requires.0.1 c.requires.1.0.0 c.requires.1.1.0 _ _ c.value.ensures

pub resume-level_x-requires : goal.resume-level_x-requires
resume-level_x-requires t c = mark_call _ _ c.requires.0

pub resume-after_object-requires : goal.resume-after_object-requires
resume-after_object-requires t c = (omega (arith, c.decreases), (c.requires.0, ((some_level _ _ c.level_x.ensures c.if-level_x-ne0.true), c.requires.1)))

pub resume-returns-then-level_x-ne0 : goal.resume-returns-then-level_x-ne0
resume-returns-then-level_x-ne0 t c = resumes_object _ _ _ _ _ _ c.requires.0 (some_level _ _ c.level_x.ensures c.if-level_x-ne0.true) _ _ c.after_object.ensures

pub resume-level_y-last-requires : goal.resume-level_y-last-requires
resume-level_y-last-requires t c = mark_call _ _ c.requires.0

pub resume-returns-then-last-eq0 : goal.resume-returns-then-last-eq0
resume-returns-then-last-eq0 t c = resumes_none _ _ _ _ _ _ c.requires.0 (sym c.level_y-last.ensures ∙ c.if-last-eq0.true)

pub resume-aim-requires : goal.resume-aim-requires
resume-aim-requires t c = ready_words _ _ c.requires.0

pub resume-element-requires : goal.resume-element-requires
resume-element-requires t c = let l = resumes_call _ _ _ _ _ _ c.requires.0 (sym c.level_x.ensures ∙ c.if-level_x-ne0.false) (λ h. c.if-last-eq0.false (c.level_y-last.ensures ∙ h)) _ _ c.level_y-last.ensures c.aim.ensures c.requires.1 in (omega (arith, c.aim.ensures.before at_word (omega arith), c.decreases), l)

pub resume-returns : goal.resume-returns
resume-returns t c = resumes_list _ _ _ _ _ _ c.requires.0 (sym c.level_x.ensures ∙ c.if-level_x-ne0.false) (λ h. c.if-last-eq0.false (c.level_y-last.ensures ∙ h)) _ _ c.level_y-last.ensures c.aim.ensures _ _ c.element.ensures

pub value-leaf-requires : goal.value-leaf-requires
value-leaf-requires t c = (c.requires.0, leaf_call (kind_in c.args.held.now.st) _ c.is_leaf.ensures c.if-is_leaf.true)

pub value-returns-in-Err : goal.value-returns-in-Err
value-returns-in-Err t c = leaf_stop _ _ _ _ (leaf_settled _ _ c.requires.0.0 _ _ _ c.is_leaf.ensures c.if-is_leaf.true c.in-Err.ensures) (numbered _)

pub value-resume-requires : goal.value-resume-requires
value-resume-requires t c = let l = leaf_done _ _ _ _ (leaf_settled _ _ c.requires.0.0 _ _ _ c.is_leaf.ensures c.if-is_leaf.true c.in_default.ensures) refl c.requires.1.0 c.requires.1.1 in (omega (arith, (leaf_settled _ _ c.requires.0.0 _ _ _ c.is_leaf.ensures c.if-is_leaf.true c.in_default.ensures).1.steady.later refl, l.0.cursor.inside, c.decreases), l)

pub value-returns-then-is_leaf : goal.value-returns-then-is_leaf
value-returns-then-is_leaf t c = leaf_resumes _ _ _ _ (leaf_settled _ _ c.requires.0.0 _ _ _ c.is_leaf.ensures c.if-is_leaf.true c.in_default.ensures) refl _ _ c.resume.ensures

pub value-put_bracket-requires : goal.value-put_bracket-requires
value-put_bracket-requires t c = (c.requires.0, c.if-kind-eq-OPEN_BRACKET.true)

pub value-returns-in-Err-put_bracket : goal.value-returns-in-Err-put_bracket
value-returns-in-Err-put_bracket t c = bracket_stop _ _ c.requires.0.0 c.if-kind-eq-OPEN_BRACKET.true _ _ c.in-Err-put_bracket.ensures (numbered _)

pub value-contents-requires : goal.value-contents-requires
value-contents-requires t c = let l = bracket_call _ _ c.requires.0.0 c.if-kind-eq-OPEN_BRACKET.true _ _ c.in_default-put_bracket.ensures refl c.requires.1.1 in (omega (arith, bracket_later _ _ c.requires.0.0 c.if-kind-eq-OPEN_BRACKET.true _ _ c.in_default-put_bracket.ensures refl, l.0.0.cursor.inside, c.decreases), l)

pub value-returns-then-kind-eq-OPEN_BRACKET : goal.value-returns-then-kind-eq-OPEN_BRACKET
value-returns-then-kind-eq-OPEN_BRACKET t c = bracket_contents _ _ c.requires.0.0 c.if-kind-eq-OPEN_BRACKET.true _ _ c.in_default-put_bracket.ensures refl _ _ c.contents.ensures

pub value-overflow_add-cell : goal.value-overflow_add-cell
value-overflow_add-cell t c = omega (arith, next_small _ _ c.requires.0.0)

pub value-put_paren-requires : goal.value-put_paren-requires
value-put_paren-requires t c = (c.requires.0, c.if-kind-eq-OPEN_PAREN.true)

pub value-returns-in-Err-put_paren : goal.value-returns-in-Err-put_paren
value-returns-in-Err-put_paren t c = list_stop _ _ c.requires.0.0 c.if-kind-eq-OPEN_PAREN.true _ _ _ _ _ _ c.in-Err-put_paren.ensures (numbered _)

pub value-enter_list-requires : goal.value-enter_list-requires
value-enter_list-requires t c = ready_words _ _ (list_open _ _ c.requires.0.0 c.if-kind-eq-OPEN_PAREN.true _ _ _ _ _ _ c.in_default-put_paren.ensures refl)

pub value-element-requires : goal.value-element-requires
value-element-requires t c = let l = list_call _ _ c.requires.0.0 c.if-kind-eq-OPEN_PAREN.true _ _ _ _ _ _ c.in_default-put_paren.ensures refl _ _ _ refl refl c.enter_list.ensures c.requires.0.1 c.requires.1.1 in (omega (arith, list_later _ _ c.requires.0.0 c.if-kind-eq-OPEN_PAREN.true _ _ _ _ _ _ c.in_default-put_paren.ensures refl _ _ _ refl refl c.enter_list.ensures, l.0.0.cursor.inside, c.decreases), l)

pub value-returns-then-kind-eq-OPEN_PAREN : goal.value-returns-then-kind-eq-OPEN_PAREN
value-returns-then-kind-eq-OPEN_PAREN t c = list_elements _ _ c.requires.0.0 c.if-kind-eq-OPEN_PAREN.true _ _ _ _ _ _ c.in_default-put_paren.ensures refl _ _ _ refl refl c.enter_list.ensures _ _ c.element.ensures

pub value-unexpected-requires : goal.value-unexpected-requires
value-unexpected-requires t c = unexpected_call _ _ c.requires.0.0

pub value-returns : goal.value-returns
value-returns t c = value_none _ _ c.requires.0.0 _ _ c.is_leaf.ensures c.if-is_leaf.false c.if-kind-eq-OPEN_BRACKET.false c.if-kind-eq-OPEN_PAREN.false c.unexpected.ensures
