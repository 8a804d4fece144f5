use mathlib.Core.Path.{◌≡◌, ◌∙◌}
use borrow.Author.Tests.{eq-eqb}
use native.Mathlib.Omega.{arith}
use Rattle.usable.specs.Lent.{bare}
use Rattle.comparison.specs.Code.{nodes, tables_of}
use Rattle.comparison.proofs.ByKind.{default_graph, one_graph, two_graphs}
use Rattle.comparison.proofs.values.same_graph.Goals as goal

pub returns-then-n-eq0 : goal.returns-then-n-eq0
returns-then-n-eq0 c = default_graph (nodes c.args.mine.now.edition c.args.other.now.edition c.args.pairing.now.words.now) (bare (tables_of c.args.mine.now)) (bare (tables_of c.args.other.now)) c.args.n c.args.m c.if-n-eq0.true

pub returns-else-m-ne0 : goal.returns-else-m-ne0
returns-else-m-ne0 c = let z : c.args.m ≡ 0 = omega arith in rw (eq-eqb c.args.m 0 z) (one_graph (nodes c.args.mine.now.edition c.args.other.now.edition c.args.pairing.now.words.now) (bare (tables_of c.args.mine.now)) (bare (tables_of c.args.other.now)) c.args.n c.args.m c.if-n-eq0.false z)

pub returns-then-m-ne0 : goal.returns-then-m-ne0
returns-then-m-ne0 c = c.same_value.ensures ∙ two_graphs (nodes c.args.mine.now.edition c.args.other.now.edition c.args.pairing.now.words.now) (bare (tables_of c.args.mine.now)) (bare (tables_of c.args.other.now)) c.args.n c.args.m c.if-n-eq0.false c.if-m-ne0.true
