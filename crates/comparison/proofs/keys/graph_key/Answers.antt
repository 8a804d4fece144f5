use mathlib.Core.Path.{◌∙◌}
use native.Mathlib.Omega.{arith}
use Rattle.usable.specs.Lent.{bare, slices_of}
use Rattle.comparison.specs.Code.{number_key}
use Rattle.comparison.proofs.RowKeys.{no_graph, a_graph}
use Rattle.comparison.proofs.keys.graph_key.Goals as goal

pub returns-then-n-eq0 : goal.returns-then-n-eq0
returns-then-n-eq0 c = (no_graph (number_key c.args.edition c.args.pairing.now.words.now) (bare (slices_of c.args.tables.now)) c.args.n c.if-n-eq0.true, omega arith)

pub returns : goal.returns
returns c = (c.term_key.ensures.0 ∙ a_graph (number_key c.args.edition c.args.pairing.now.words.now) (bare (slices_of c.args.tables.now)) c.args.n c.if-n-eq0.false, c.term_key.ensures.1)
