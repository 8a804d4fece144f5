use mathlib.Core.Path.{sym, ◌∙◌}
use Rattle.usable.specs.Lent.{slices_of}
use Rattle.subject_index.proofs.Checking.{ready}
use Rattle.subject_index.proofs.Building.{not_usable, too_long, fits, whole}
use borrow.Author.Rules.{rules}
use Rattle.subject_index.proofs.write_index.Goals as goal

pub returns-then-not-is_usable : goal.returns-then-not-is_usable
returns-then-not-is_usable c = not_usable (slices_of c.args.tables.now) c.args.out.now (sym c.is_usable.ensures ∙ c.if-not-is_usable.true)

pub fits_index-requires : goal.fits_index-requires
fits_index-requires c = ready (slices_of c.args.tables.now) (sym c.is_usable.ensures ∙ c.if-not-is_usable.false)

pub returns-then-not-fits_index : goal.returns-then-not-fits_index
returns-then-not-fits_index c =
    too_long (slices_of c.args.tables.now) c.args.out.now (sym c.is_usable.ensures ∙ c.if-not-is_usable.false) (sym c.fits_index.ensures ∙ c.if-not-fits_index.true)

pub put_index-requires : goal.put_index-requires
put_index-requires c = let u = sym c.is_usable.ensures ∙ c.if-not-is_usable.false in
    ((ready (slices_of c.args.tables.now) u, fits (slices_of c.args.tables.now) c.args.out.now u (sym c.fits_index.ensures ∙ c.if-not-fits_index.false)), search rules)

pub returns : goal.returns
returns c =
    whole (slices_of c.args.tables.now) c.args.out.now (sym c.is_usable.ensures ∙ c.if-not-is_usable.false) (sym c.fits_index.ensures ∙ c.if-not-fits_index.false) _ _ c.put_index.ensures.0 c.put_index.ensures.1
