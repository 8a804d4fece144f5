use Rattle.room.specs.Supply.{number_of}
use Rattle.room.proofs.Tests.{node_iri_is, node_label_is, node_typed_is, node_tagged_is, node_new_is}
use Rattle.room.proofs.tally_node.Goals as goal

pub returns-then-kind-eq-IRI : goal.returns-then-kind-eq-IRI
returns-then-kind-eq-IRI c = λ ts H. node_iri_is ts (number_of c.args.p) c.args.node c.args.work.now c.args.back.now c.args.text.now c.args.tag.now c.args.t c.tally_iri.result c.if-kind-eq-IRI.true (c.tally_iri.ensures ts H)

pub tally_label-requires : goal.tally_label-requires
tally_label-requires c = (c.requires.0, ((c.requires.1.0.label_text c.if-kind-eq-BLANK.true, c.requires.1.0.text_slice), c.requires.1.1))

pub returns-then-kind-eq-BLANK : goal.returns-then-kind-eq-BLANK
returns-then-kind-eq-BLANK c = λ ts H. node_label_is ts (number_of c.args.p) c.args.node c.args.work.now c.args.back.now c.args.text.now c.args.tag.now c.args.t c.tally_label.result c.if-kind-eq-BLANK.true (c.tally_label.ensures ts H)

pub returns-then-kind-eq-LITERAL : goal.returns-then-kind-eq-LITERAL
returns-then-kind-eq-LITERAL c = λ ts H. node_typed_is ts (number_of c.args.p) c.args.node c.args.work.now c.args.back.now c.args.text.now c.args.tag.now c.args.t c.tally_typed.result c.if-kind-eq-LITERAL.true (c.tally_typed.ensures ts H)

pub returns-then-kind-eq-TAGGED : goal.returns-then-kind-eq-TAGGED
returns-then-kind-eq-TAGGED c = λ ts H. node_tagged_is ts (number_of c.args.p) c.args.node c.args.work.now c.args.back.now c.args.text.now c.args.tag.now c.args.t c.tally_tagged.result c.if-kind-eq-TAGGED.true (c.tally_tagged.ensures ts H)

pub returns : goal.returns
returns c = λ ts H. node_new_is ts (number_of c.args.p) c.args.node c.args.work.now c.args.back.now c.args.text.now c.args.tag.now c.args.t c.more.result c.if-kind-eq-IRI.false c.if-kind-eq-BLANK.false c.if-kind-eq-LITERAL.false c.if-kind-eq-TAGGED.false c.more.ensures
