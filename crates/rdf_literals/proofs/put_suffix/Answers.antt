use Rattle.rdf_literals.proofs.Whole.{suffix_tag, carets_call, datatype_call, suffix_datatype}
use Rattle.rdf_literals.proofs.put_suffix.Goals as goal

pub returns-then-held-eq-LANGTAG : goal.returns-then-held-eq-LANGTAG
returns-then-held-eq-LANGTAG c = suffix_tag c.args.doc.now c.args.held.now c.requires.0.0 c.args.x c.args.y c.args.at c.args.len c.args.quotes _ _ c.if-held-eq-LANGTAG.true c.put_tagged.ensures

pub pass-requires : goal.pass-requires
pass-requires c = carets_call c.args.doc.now c.args.held.now c.requires.0.0 c.requires.1

pub put_datatype-requires : goal.put_datatype-requires
put_datatype-requires c = datatype_call c.args.doc.now c.args.held.now.work c.args.held.now.rows c.args.held.now.terms c.args.held.now.store c.args.held.now.st _ c.requires.0.0 c.requires.1 c.if-held-eq-LANGTAG.false c.pass.ensures c.args.x c.args.y c.args.at c.args.len c.args.quotes c.requires.0.1

pub returns : goal.returns
returns c = suffix_datatype c.args.doc.now c.args.held.now.work c.args.held.now.rows c.args.held.now.terms c.args.held.now.store c.args.held.now.st _ c.requires.0.0 c.requires.1 c.if-held-eq-LANGTAG.false c.pass.ensures c.args.x c.args.y c.args.at c.args.len c.args.quotes _ _ c.put_datatype.ensures
