use Rattle.table.specs.Usable.{for_long_form, usable}
use Rattle.usable.specs.Lent.{slices_of}
use Rattle.usable.proofs.Facts.{counts_in, terms_alone, rows_alone}
use mathlib.Core.Path.{sym, ◌∙◌}
use Rattle.usable.proofs.is_usable.Goals as goal

pub returns-then-not-fit_counts : goal.returns-then-not-fit_counts
unfolding usable
returns-then-not-fit_counts c = simp (sym c.fit_counts.ensures ∙ c.if-not-fit_counts.true)

pub all_good-requires : goal.all_good-requires
all_good-requires c =
    let fits = counts_in (slices_of c.args.tables.now) (sym c.fit_counts.ensures ∙ c.if-not-fit_counts.false) in (fits.terms, fits.store)

pub returns-then-not-all_good : goal.returns-then-not-all_good
unfolding usable
returns-then-not-all_good c =
    let t = c.args.tables.now in
    let fit = sym c.fit_counts.ensures ∙ c.if-not-fit_counts.false in
    let terms = c.all_good.ensures ∙ terms_alone for_long_form t.rows.now t.row_count t.terms.now t.term_count t.store.now t.store_count in
    simp (fit, sym terms ∙ c.if-not-all_good.true)

pub all_good-requires-2 : goal.all_good-requires-2
all_good-requires-2 c =
    let fits = counts_in (slices_of c.args.tables.now) (sym c.fit_counts.ensures ∙ c.if-not-fit_counts.false) in (fits.rows, fits.terms)

pub returns : goal.returns
unfolding usable
returns c =
    let t = c.args.tables.now in
    let fit = sym c.fit_counts.ensures ∙ c.if-not-fit_counts.false in
    let terms = c.all_good.ensures ∙ terms_alone for_long_form t.rows.now t.row_count t.terms.now t.term_count t.store.now t.store_count in
    simp (fit, sym terms ∙ c.if-not-all_good.false) (c.all_good-2.ensures ∙ rows_alone t.rows.now t.row_count t.terms.now t.term_count t.store.now t.store_count)
