use mathlib.Core.Path.{◌≡◌, sym, ap, ◌∙◌}
use Rattle.std.proofs.Common.{Ok, Err, rules}
use Rattle.usable.specs.Lent.{slices_of}
use Rattle.comparison.specs.Answer.{answer}
use Rattle.comparison.proofs.Partners.{once_matched, legal_once}
use Rattle.comparison.proofs.Parting.{cut_none}
use Rattle.comparison.proofs.Answers.{both_usable, is_legal, sound_of, compare_refused, compare_listing}
use Rattle.comparison.proofs.compare_with.Goals as goal

pub returns-in_err-check : goal.returns-in_err-check
returns-in_err-check c =
    let l = slices_of c.args.left.now in
    let r = slices_of c.args.right.now in
    let p = c.args.pairing.now in
    let z : c.from_residual.result ≡ Err c.in_err-check.field-0.0 = search rules in
    let y : c.check.result ≡ Err c.in_err-check.field-0.0 = search rules in
    (ap (λ x. answer x c.args.left_list.now c.args.right_list.now) z ∙ compare_refused l r p c.args.left_list.now c.args.right_list.now _ (sym y ∙ c.check.ensures.0), c.check.ensures.1)

pub list_by-requires : goal.list_by-requires
list_by-requires c =
    let l = slices_of c.args.left.now in
    let r = slices_of c.args.right.now in
    let p = c.args.pairing.now in
    let y : c.check.result ≡ Ok tt = search rules in
    let ok = sym y ∙ c.check.ensures.0 in
    let u = both_usable l r p ok in
    ((once_matched p (legal_once l r p (is_legal l r p ok)), (sound_of l u.0, sound_of r u.1)), rw (c.wide.ensures, c.wide-2.ensures) at c.in-Some.ensures)

pub list_by-requires-in-None : goal.list_by-requires-in-None
list_by-requires-in-None c =
    let l = slices_of c.args.left.now in
    let r = slices_of c.args.right.now in
    let p = c.args.pairing.now in
    let y : c.check.result ≡ Ok tt = search rules in
    let ok = sym y ∙ c.check.ensures.0 in
    let u = both_usable l r p ok in
    ((once_matched p (legal_once l r p (is_legal l r p ok)), (sound_of l u.0, sound_of r u.1)), cut_none l.row_count r.row_count)

pub returns-in-Some : goal.returns-in-Some
returns-in-Some c =
    let l = slices_of c.args.left.now in
    let r = slices_of c.args.right.now in
    let p = c.args.pairing.now in
    let y : c.check.result ≡ Ok tt = search rules in
    let ok = sym y ∙ c.check.ensures.0 in
    (c.list_by.ensures ∙ compare_listing l r p c.args.left_list.now c.args.right_list.now ok, c.list_by.auto.index ∙ c.check.ensures.1)

pub returns-in-None : goal.returns-in-None
returns-in-None c =
    let l = slices_of c.args.left.now in
    let r = slices_of c.args.right.now in
    let p = c.args.pairing.now in
    let y : c.check.result ≡ Ok tt = search rules in
    let ok = sym y ∙ c.check.ensures.0 in
    (c.list_by-in-None.ensures ∙ compare_listing l r p c.args.left_list.now c.args.right_list.now ok, c.check.ensures.1)
