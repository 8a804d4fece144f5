use mathlib.Core.Path.{sym, ◌∙◌}
use Rattle.usable.specs.Lent.{slices_of}
use Rattle.subject_index.proofs.Checking.{ready, check_bad, check_good}
use Rattle.subject_index.proofs.check_index.Goals as goal

pub returns-then-not-is_usable : goal.returns-then-not-is_usable
returns-then-not-is_usable c = check_bad (slices_of c.args.tables.now) c.args.bytes.now (sym c.is_usable.ensures ∙ c.if-not-is_usable.true)

pub is_index-requires : goal.is_index-requires
is_index-requires c = ready (slices_of c.args.tables.now) (sym c.is_usable.ensures ∙ c.if-not-is_usable.false)

pub returns : goal.returns
returns c = check_good (slices_of c.args.tables.now) c.args.bytes.now _ (sym c.is_usable.ensures ∙ c.if-not-is_usable.false) c.is_index.ensures
