use Rattle.std.proofs.Common.{ap, ◌∙◌, rules}
use Rattle.std.proofs.lemmas.Iterator.{YieldsList-from_slice}
use Rattle.std.proofs.lemmas.Iterator.Consumers.{fold_from_yields_List}
use Rattle.usable.specs.Places.{next_place, ends}
use Rattle.usable.proofs.TagForms.{walks_by_steps}
use Rattle.usable.proofs.tags.has_tag_form.Goals as goal

pub returns : goal.returns
returns c =
    c.is_end.ensures
    ∙ ap ends (fold_from_yields_List _ next_place _ _ c.fold.ensures.ran (YieldsList-from_slice c.args.s.now (search rules)) (λ a x b q k. search rules))
    ∙ walks_by_steps _ c.args.s.now
