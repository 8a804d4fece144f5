use Prim.Native.Nat.{suc}
use mathlib.Core.Path.{refl, sym, ◌∙◌}
use mathlib.Core.List.{[]}
use native.Mathlib.Omega.{arith}
use Rattle.table.specs.Layout.{entry_at}
use Rattle.spelling.specs.Form.{joined}
use Rattle.spelling.specs.declared.Form.TheVariants.{Plain}
use Rattle.terms.specs.Code.{same_rest}
use Rattle.terms.specs.Keeps.{iri_sort}
use Rattle.terms.proofs.Tests.{kind_read, other_kind, text_alone}
use Rattle.terms.proofs.is_iri.Goals as goal

pub returns-then-wide-ne-IRI : goal.returns-then-wide-ne-IRI
unfolding entry_at
returns-then-wide-ne-IRI c = other_kind c.args.store.now (entry_at c.args.terms.now (suc c.args.i)) iri_sort (joined c.args.front.now Plain c.args.back.now) [] (λ k. c.if-wide-ne-IRI.true (kind_read c.args.terms.now c.args.i _ c.wide.ensures ∙ k))

pub overflow_add-end : goal.overflow_add-end
unfolding entry_at
overflow_add-end c = omega (arith, c.requires.text, c.wide-start.ensures, c.wide-2.ensures)

pub slice_bounds-same_plain-end : goal.slice_bounds-same_plain-end
unfolding entry_at
slice_bounds-same_plain-end c = omega (arith, c.requires.text, c.wide-start.ensures, c.wide-2.ensures)

pub returns : goal.returns
unfolding entry_at same_rest
returns c = text_alone c.args.store.now (entry_at c.args.terms.now (suc c.args.i)) iri_sort (joined c.args.front.now Plain c.args.back.now) [] (sym (kind_read c.args.terms.now c.args.i _ c.wide.ensures) ∙ c.if-wide-ne-IRI.false) refl c.wide-start.result _ c.wide-start.ensures (omega (arith, c.wide-start.ensures, c.wide-2.ensures)) _ c.same_plain.ensures
