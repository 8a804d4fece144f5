use Rattle.limits.proofs.Errors.{handed_on, numbered}
use mathlib.Core.Path.{refl}
use native.Mathlib.Omega.{arith}
use Rattle.state.specs.Represents.{lent_tables}
use Rattle.rdf_literals.proofs.Fitting.{iri_range, written_refused, written_asks, written_puts}
use Rattle.rdf_literals.proofs.place_written.Goals as goal

pub address_of-requires : goal.address_of-requires
address_of-requires c = (iri_range _ c.requires.0.1.1, c.requires.1)

pub returns-in_err-a : goal.returns-in_err-a
returns-in_err-a c = rw (handed_on _ _ c.from_residual.ensures) (written_refused c.args.doc.now c.args.work.now (lent_tables c.args.rows.now c.args.terms.now c.args.store.now) c.args.st.now _ _ c.requires.0.1.0.1 c.requires.0.1.1 c.in_err-a.ensures _ _ (numbered _))

pub overflow_add-end : goal.overflow_add-end
overflow_add-end c = omega (arith, c.requires.0.0.1.1.inside, c.requires.0.0.1.1.size)

pub slice_bounds-inside-end : goal.slice_bounds-inside-end
slice_bounds-inside-end c = omega (arith, c.requires.0.0.1.1.inside)

pub inside-text-requires : goal.inside-text-requires
inside-text-requires c = c.requires.0.0.1.1.few

pub slice_bounds-place_address-end : goal.slice_bounds-place_address-end
slice_bounds-place_address-end c = omega (arith, c.requires.0.1.0.0.inside)

pub place_address-requires : goal.place_address-requires
place_address-requires c = written_asks c.args.doc.now c.args.work.now (lent_tables c.args.rows.now c.args.terms.now c.args.store.now) c.args.st.now _ _ c.requires.0.1.0.1 c.requires.0.1.1 c.in_ok-a.ensures refl _ _ _ _ _ _ _ refl c.inside-text.ensures c.requires.0.0.0 c.requires.0.0.1.0 c.requires.0.0.1.1

pub returns : goal.returns
returns c = written_puts c.args.doc.now c.args.work.now (lent_tables c.args.rows.now c.args.terms.now c.args.store.now) c.args.st.now _ _ c.requires.0.1.0.1 c.requires.0.1.1 c.in_ok-a.ensures refl _ _ _ _ _ _ _ refl c.inside-text.ensures _ _ _ _ c.place_address.ensures
