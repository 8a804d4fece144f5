-- An entry that is the IRI has its number, since each term stands there once.
use mathlib.Core.Path.{sym, ◌∙◌}
use mathlib.Core.List.{[]}
use native.Mathlib.Omega.{arith}
use Rattle.spelling.specs.Form.{joined}
use Rattle.spelling.specs.declared.Form.TheVariants.{Plain}
use Rattle.terms.specs.Keeps.{iri_sort}
use Rattle.term_tree.proofs.Indexes.{found_number}
use Rattle.term_tree.proofs.is_number.Goals as goal

pub returns-then-number-count : goal.returns-then-number-count
returns-then-number-count c = λ z. (c.if-number-count.true.0, (λ index k e ts t H M f. found_number H.keeps iri_sort (joined c.args.front.now Plain c.args.back.now) [] t (rw c.in-Plain.is at M) f c.args.number c.if-number-count.true.0 (omega (arith, e, c.if-number-count.true.1)) (sym c.is_iri.ensures ∙ z)))
