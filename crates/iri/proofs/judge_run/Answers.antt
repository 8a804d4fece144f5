use mathlib.Core.Path.{sym, ◌∙◌}
use native.Mathlib.Omega.{arith}
use Rattle.iri.proofs.Escaped.{judging_start, judging_known, judging_more, judging_end}
use Rattle.iri.proofs.judge_run.Goals as goal

pub loop-c-init : goal.loop-c-init
loop-c-init c = judging_start c.args.s.now c.args.first

pub returns-then-is_some : goal.returns-then-is_some
returns-then-is_some c = judging_known c.args.s.now c.args.first c.loop-c.c-index c.loop-c.start c.loop-c-test.true c.loop-c.invariant c.judge-verdict.result c.judge-verdict.ensures (sym c.is_some.ensures ∙ c.if-is_some.true)

pub loop-c-preserved : goal.loop-c-preserved
loop-c-preserved c = judging_more c.args.s.now c.args.first c.loop-c.c-index c.loop-c.start c.loop-c-test.true c.loop-c.invariant c.judge-verdict.result c.judge-verdict.ensures (sym c.is_some.ensures ∙ c.if-is_some.false)

pub returns : goal.returns
returns c = judging_end c.args.s.now c.args.first c.loop-c.c-index c.loop-c.start c.requires (omega arith) c.loop-c.invariant
