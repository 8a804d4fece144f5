use Rattle.token_iri.proofs.Answers.{as_kind}
use Rattle.token_iri.proofs.address_of.Goals as goal

pub returns-then-kind-eq-IRIREF : goal.returns-then-kind-eq-IRIREF
returns-then-kind-eq-IRIREF c = as_kind c.args.kind c.args.token.now c.args.work.now c.args.st.now _ _ c.if-kind-eq-IRIREF.true c.reference_address.ensures

pub returns : goal.returns
returns c = c.name_address.ensures _
