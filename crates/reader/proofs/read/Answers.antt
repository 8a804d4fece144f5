use Rattle.limits.proofs.Errors.{numbered}
use mathlib.Core.Path.{refl, sym, ap, ◌∙◌}
use mathlib.Core.List.{[]}
use Rattle.utf8.specs.Code.{bad_place}
use Rattle.reader.specs.Reader.{lent_slices}
use Rattle.reader.proofs.Checks.{check_refuses, checked, not_utf8, valid}
use Rattle.reader.proofs.read.Goals as goal

pub returns-in-Err : goal.returns-in-Err
returns-in-Err c = check_refuses _ _ _ _ _ c.in-Err.ensures (numbered _)

pub read_checked-requires : goal.read_checked-requires
read_checked-requires c = checked _ _ _ _ (lent_slices c.args.work.now [] [] []) c.in_default.ensures refl (sym c.first_bad.ensures ∙ ap bad_place c.in-None.is)

pub returns-in-Some : goal.returns-in-Some
returns-in-Some c = not_utf8 _ _ _ _ _ c.in_default.ensures refl _ (sym c.first_bad.ensures ∙ ap bad_place c.in-Some.is) _ c.clear_all.ensures

pub returns-in-None : goal.returns-in-None
returns-in-None c = valid _ _ _ _ _ c.in_default.ensures refl (sym c.first_bad.ensures ∙ ap bad_place c.in-None.is) _ _ c.read_checked.ensures
