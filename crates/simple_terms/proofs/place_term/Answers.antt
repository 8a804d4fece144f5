use mathlib.Core.Path.{refl}
use Rattle.simple_terms.proofs.Terms.{term_low, type_put, label_put, literal_put, iri_put, part_is, part_short, part_begins, part_label}
use Rattle.simple_terms.proofs.place_term.Goals as goal

pub place_iri-requires : goal.place_iri-requires
place_iri-requires c = let doc = c.args.doc.now in let st = c.args.st.now in let q = c.requires.1 in (c.requires.0, ((term_low _ q.1, c.if-kind-le-PNAME_LN.true), (part_begins doc st q.0.0 q.0.1, part_short doc st q.0.0)))

pub returns-then-kind-le-PNAME_LN : goal.returns-then-kind-le-PNAME_LN
returns-then-kind-le-PNAME_LN c = let doc = c.args.doc.now in let st = c.args.st.now in let q = c.requires.1 in iri_put doc _ _ _ _ st _ _ _ (part_is doc st q.0.0) _ refl (term_low _ q.1) c.if-kind-le-PNAME_LN.true c.place_iri.ensures

pub place_label-requires : goal.place_label-requires
place_label-requires c = let doc = c.args.doc.now in let st = c.args.st.now in let q = c.requires.1 in (c.requires.0, (part_short doc st q.0.0, part_label doc st q.0.0 q.0.1 c.if-kind-eq-BLANK_NODE_LABEL.true))

pub returns-then-kind-eq-BLANK_NODE_LABEL : goal.returns-then-kind-eq-BLANK_NODE_LABEL
returns-then-kind-eq-BLANK_NODE_LABEL c = let doc = c.args.doc.now in let st = c.args.st.now in let q = c.requires.1 in label_put doc _ _ _ _ st _ _ _ (part_is doc st q.0.0) c.if-kind-eq-BLANK_NODE_LABEL.true c.place_label.ensures

pub place_type-requires : goal.place_type-requires
place_type-requires c = let doc = c.args.doc.now in let st = c.args.st.now in let q = c.requires.1 in (c.requires.0, part_short doc st q.0.0)

pub returns-then-kind-eq-A : goal.returns-then-kind-eq-A
returns-then-kind-eq-A c = let doc = c.args.doc.now in let st = c.args.st.now in let q = c.requires.1 in type_put doc _ _ _ _ st _ _ c.if-kind-eq-A.true c.place_type.ensures

pub place_literal-requires : goal.place_literal-requires
place_literal-requires c = let doc = c.args.doc.now in let st = c.args.st.now in let q = c.requires.1 in (c.requires.0, part_short doc st q.0.0)

pub returns : goal.returns
returns c = let doc = c.args.doc.now in let st = c.args.st.now in let q = c.requires.1 in literal_put doc _ _ _ _ st _ _ _ (part_is doc st q.0.0) _ refl q.1 c.if-kind-le-PNAME_LN.false c.if-kind-eq-BLANK_NODE_LABEL.false c.if-kind-eq-A.false c.place_literal.ensures
