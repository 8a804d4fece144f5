use mathlib.Core.Path.{sym, ◌∙◌}
use Rattle.rdf_literals.proofs.Whole.{datatype_found, datatype_missing}
use Rattle.rdf_literals.proofs.put_datatype.Goals as goal

pub put_typed-requires : goal.put_typed-requires
put_typed-requires c = (c.requires, sym c.is_iri.ensures ∙ c.if-is_iri.true)

pub returns-then-is_iri : goal.returns-then-is_iri
returns-then-is_iri c = datatype_found c.args.doc.now c.args.held.now c.requires.0 c.args.x c.args.y c.args.at c.args.len c.args.quotes _ _ (sym c.is_iri.ensures ∙ c.if-is_iri.true) c.put_typed.ensures

pub returns : goal.returns
returns c = datatype_missing c.args.doc.now c.args.held.now c.requires.0 c.args.x c.args.y c.args.at c.args.len c.args.quotes _ (sym c.is_iri.ensures ∙ c.if-is_iri.false) c.unexpected.ensures
