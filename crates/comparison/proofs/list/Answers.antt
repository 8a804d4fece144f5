use mathlib.Core.Path.{refl, ap, ◌∙◌}
use lib.ListN.{length}
use Rattle.text.specs.Slice.{over}
use Rattle.comparison.specs.Code.{opposite, tables_of}
use Rattle.comparison.proofs.Answers.{as_lefts, as_rights, left_full, right_full, both_told}
use Rattle.comparison.proofs.list.Goals as goal

pub returns-then-left_list-left_count : goal.returns-then-left_list-left_count
returns-then-left_list-left_count c =
    let p = c.args.pairing.now.words.now in
    let l = tables_of c.args.left.now in
    let r = tables_of c.args.right.now in
    let a = as_lefts c.args.left.now.edition l r p c.requires.1.0 in
    left_full l r p c.args.left_list.now c.args.right_list.now c.count_listed-left_count.result (c.count_listed-left_count.ensures ∙ ap length a) c.if-left_list-left_count.true

pub returns-then-right_list-right_count : goal.returns-then-right_list-right_count
returns-then-right_list-right_count c =
    let p = c.args.pairing.now.words.now in
    let l = tables_of c.args.left.now in
    let r = tables_of c.args.right.now in
    let a = as_lefts c.args.left.now.edition l r p c.requires.1.0 in
    let b = as_rights c.args.right.now.edition l r p (c.requires.0.0.turned ∙ ap opposite c.requires.1.0) in
    right_full l r p c.args.left_list.now c.args.right_list.now c.count_listed-left_count.result (c.count_listed-left_count.ensures ∙ ap length a) c.if-left_list-left_count.false c.count_listed-right_count.result (c.count_listed-right_count.ensures ∙ ap length b) c.if-right_list-right_count.true

pub returns : goal.returns
returns c =
    let p = c.args.pairing.now.words.now in
    let l = tables_of c.args.left.now in
    let r = tables_of c.args.right.now in
    let a = as_lefts c.args.left.now.edition l r p c.requires.1.0 in
    let b = as_rights c.args.right.now.edition l r p (c.requires.0.0.turned ∙ ap opposite c.requires.1.0) in
    both_told l r p c.args.left_list.now c.args.right_list.now c.count_listed-left_count.result (c.count_listed-left_count.ensures ∙ ap length a) c.if-left_list-left_count.false c.count_listed-right_count.result (c.count_listed-right_count.ensures ∙ ap length b) c.if-right_list-right_count.false _ _ (c.put_listed.ensures.0 ∙ ap (λ x. over x c.args.left_list.now) a) (c.put_listed-2.ensures.0 ∙ ap (λ x. over x c.args.right_list.now) b) _ refl
