use Rattle.room.specs.Supply.{number_of}
use Rattle.spelling.specs.Form.{undo}
use Rattle.dataset.specs.Terms.{literal}
use mathlib.Core.Path.{ap, ◌∙◌}
use Rattle.state.specs.Writes.{node_iri}
use native.Mathlib.Omega.{arith}
use Rattle.room.specs.Counting.{count_iri, count_term}
use Rattle.room.proofs.Bounds.{small_within, iri_within}
use Rattle.room.proofs.tally_typed.Goals as goal

pub tally_literal-requires : goal.tally_literal-requires
tally_literal-requires c = (c.requires.0, (c.requires.1.0.1, small_within c.args.t (count_iri c.requires.0.1.0 (number_of c.args.p) (node_iri c.args.node c.args.work.now c.args.back.now) c.args.t) c.tally_iri-i.result 8000000000 1 1024 9000000000 c.requires.1.1 (iri_within c.requires.0.1.0 (number_of c.args.p) (node_iri c.args.node c.args.work.now c.args.back.now) c.args.t 1024 c.requires.1.0.0.short) (c.tally_iri-i.ensures c.requires.0.1.0 c.requires.0.1.1) (omega arith) (omega arith)))

pub returns : goal.returns
returns c = λ ts H. c.tally_literal.ensures (node_iri c.args.node c.args.work.now c.args.back.now) (λ us K. c.unwrap_or-d.ensures ∙ c.find_iri.ensures.0 us K) ts H ∙ ap (count_term ts (literal (undo c.args.node.text c.args.text.now) (node_iri c.args.node c.args.work.now c.args.back.now))) (c.tally_iri-i.ensures ts H)
