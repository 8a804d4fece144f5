use native.Mathlib.Omega.{arith}
use Rattle.state.specs.Writes.{node_write}
use Rattle.writes.proofs.Nodes.{iri_write, blank_write, literal_write, tagged_write, new_write, ready_as, writes_as, node_part, bracket_fresh, bracket_writes}
use Rattle.writes.proofs.node.Goals as goal

pub share_iri-requires : goal.share_iri-requires
share_iri-requires c = (ready_as (node_write c.args.node c.args.work.now c.args.back.now c.args.text.now c.args.tag.now c.requires.0.0) _ c.args.work.now c.args.terms.now c.args.store.now c.args.st.now (iri_write c.args.node c.args.work.now c.args.back.now c.args.text.now c.args.tag.now c.requires.0.0 c.if-kind-eq-IRI.true) c.requires.0.1, node_part c.args.node c.args.work.now c.args.back.now c.args.text.now c.args.tag.now c.requires.1)

pub returns-then-kind-eq-IRI : goal.returns-then-kind-eq-IRI
returns-then-kind-eq-IRI c = λ at. writes_as (node_write c.args.node c.args.work.now c.args.back.now c.args.text.now c.args.tag.now at) _ _ c.args.work.now _ c.args.terms.now _ c.args.store.now _ c.args.st.now _ (iri_write c.args.node c.args.work.now c.args.back.now c.args.text.now c.args.tag.now at c.if-kind-eq-IRI.true) c.share_iri.ensures

pub share_label-requires : goal.share_label-requires
share_label-requires c = (ready_as (node_write c.args.node c.args.work.now c.args.back.now c.args.text.now c.args.tag.now c.requires.0.0) _ c.args.work.now c.args.terms.now c.args.store.now c.args.st.now (blank_write c.args.node c.args.work.now c.args.back.now c.args.text.now c.args.tag.now c.requires.0.0 c.if-kind-eq-BLANK.true) c.requires.0.1, c.requires.1.label_text c.if-kind-eq-BLANK.true)

pub returns-then-kind-eq-BLANK : goal.returns-then-kind-eq-BLANK
returns-then-kind-eq-BLANK c = λ at. writes_as (node_write c.args.node c.args.work.now c.args.back.now c.args.text.now c.args.tag.now at) _ _ c.args.work.now _ c.args.terms.now _ c.args.store.now _ c.args.st.now _ (blank_write c.args.node c.args.work.now c.args.back.now c.args.text.now c.args.tag.now at c.if-kind-eq-BLANK.true) c.share_label.ensures

pub share_typed-requires : goal.share_typed-requires
share_typed-requires c = (ready_as (node_write c.args.node c.args.work.now c.args.back.now c.args.text.now c.args.tag.now c.requires.0.0) _ c.args.work.now c.args.terms.now c.args.store.now c.args.st.now (literal_write c.args.node c.args.work.now c.args.back.now c.args.text.now c.args.tag.now c.requires.0.0 c.if-kind-eq-LITERAL.true) c.requires.0.1, (node_part c.args.node c.args.work.now c.args.back.now c.args.text.now c.args.tag.now c.requires.1, c.requires.1.text_right))

pub returns-then-kind-eq-LITERAL : goal.returns-then-kind-eq-LITERAL
returns-then-kind-eq-LITERAL c = λ at. writes_as (node_write c.args.node c.args.work.now c.args.back.now c.args.text.now c.args.tag.now at) _ _ c.args.work.now _ c.args.terms.now _ c.args.store.now _ c.args.st.now _ (literal_write c.args.node c.args.work.now c.args.back.now c.args.text.now c.args.tag.now at c.if-kind-eq-LITERAL.true) c.share_typed.ensures

pub share_tagged-requires : goal.share_tagged-requires
share_tagged-requires c = (ready_as (node_write c.args.node c.args.work.now c.args.back.now c.args.text.now c.args.tag.now c.requires.0.0) _ c.args.work.now c.args.terms.now c.args.store.now c.args.st.now (tagged_write c.args.node c.args.work.now c.args.back.now c.args.text.now c.args.tag.now c.requires.0.0 c.if-kind-eq-TAGGED.true) c.requires.0.1, c.requires.1.text_right)

pub returns-then-kind-eq-TAGGED : goal.returns-then-kind-eq-TAGGED
returns-then-kind-eq-TAGGED c = λ at. writes_as (node_write c.args.node c.args.work.now c.args.back.now c.args.text.now c.args.tag.now at) _ _ c.args.work.now _ c.args.terms.now _ c.args.store.now _ c.args.st.now _ (tagged_write c.args.node c.args.work.now c.args.back.now c.args.text.now c.args.tag.now at c.if-kind-eq-TAGGED.true) c.share_tagged.ensures

pub fresh-requires : goal.fresh-requires
fresh-requires c = bracket_fresh c.requires.0.0 c.args.work.now c.args.terms.now c.args.store.now c.args.st.now (ready_as (node_write c.args.node c.args.work.now c.args.back.now c.args.text.now c.args.tag.now c.requires.0.0) _ c.args.work.now c.args.terms.now c.args.store.now c.args.st.now (new_write c.args.node c.args.work.now c.args.back.now c.args.text.now c.args.tag.now c.requires.0.0 (omega (arith, c.requires.1.low, c.requires.1.high, c.if-kind-eq-IRI.false, c.if-kind-eq-BLANK.false, c.if-kind-eq-LITERAL.false, c.if-kind-eq-TAGGED.false))) c.requires.0.1)

pub returns : goal.returns
returns c = λ at. writes_as (node_write c.args.node c.args.work.now c.args.back.now c.args.text.now c.args.tag.now at) _ _ c.args.work.now _ c.args.terms.now _ c.args.store.now _ c.args.st.now _ (new_write c.args.node c.args.work.now c.args.back.now c.args.text.now c.args.tag.now at (omega (arith, c.requires.1.low, c.requires.1.high, c.if-kind-eq-IRI.false, c.if-kind-eq-BLANK.false, c.if-kind-eq-LITERAL.false, c.if-kind-eq-TAGGED.false))) (bracket_writes at _ c.args.work.now c.args.terms.now _ c.args.store.now c.args.st.now _ c.fresh.ensures)
