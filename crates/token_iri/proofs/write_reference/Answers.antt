use mathlib.Core.Path.{refl}
use native.Mathlib.Omega.{arith}
use Rattle.escape.specs.Code.{undone}
use Rattle.token_iri.proofs.Buffers.{writes_none, writes_long, writes_resolved}
use Rattle.token_iri.proofs.write_reference.Goals as goal

pub returns-then-lacks_base : goal.returns-then-lacks_base
returns-then-lacks_base c = writes_none c.args.text.now c.args.work.now c.args.st.now c.base-base.result.now c.base-base.ensures c.lacks_base.result c.lacks_base.ensures c.if-lacks_base.true _

pub returns-then-n-gt-IRI : goal.returns-then-n-gt-IRI
unfolding undone
returns-then-n-gt-IRI c = writes_long c.args.text.now c.args.work.now c.args.st.now c.base-base.result.now c.base-base.ensures c.lacks_base.result c.lacks_base.ensures c.if-lacks_base.false c.undone_length-n.result c.undone_length-n.ensures c.if-n-gt-IRI.true _

pub returns : goal.returns
unfolding undone
returns c = writes_resolved c.args.text.now c.args.work.now c.args.st.now c.base-base.result.now c.base-base.ensures c.lacks_base.result c.lacks_base.ensures c.if-lacks_base.false c.undone_length-n.result c.undone_length-n.ensures c.if-n-gt-IRI.false c.args.buffer.now c.write_undone.new.out c.resolve.new.buffer _ c.write_undone.result c.resolve.result (omega arith) refl (let w = c.write_undone.ensures in record { long = w.long; size = w.size; text = λ g. w.text (λ q. g) }) c.resolve.ensures
