use native.Mathlib.Omega.{arith}
use Rattle.iri.proofs.Puts.{long_at, written_at, plan_of_tail}
use Rattle.iri.proofs.resolve_at.Goals as goal

pub returns-then-start-keep : goal.returns-then-start-keep
returns-then-start-keep c = long_at c.args.base.now c.args.buffer.now c.args.start c.requires.0 c.requires.1 c.make_plan-p.result (plan_of_tail c.args.base.now c.args.buffer.now c.args.start c.make_plan-p.result c.make_plan-p.ensures) (omega arith)

pub returns-then-start-keep-2 : goal.returns-then-start-keep-2
returns-then-start-keep-2 c = long_at c.args.base.now c.args.buffer.now c.args.start c.requires.0 c.requires.1 c.make_plan-p.result (plan_of_tail c.args.base.now c.args.buffer.now c.args.start c.make_plan-p.result c.make_plan-p.ensures) (omega arith)

pub put_resolved-requires : goal.put_resolved-requires
put_resolved-requires c = (((c.requires.0, c.requires.1), plan_of_tail c.args.base.now c.args.buffer.now c.args.start c.make_plan-p.result c.make_plan-p.ensures), omega arith)

pub returns : goal.returns
returns c = written_at c.args.base.now c.args.buffer.now c.args.start c.requires.0 c.requires.1 c.make_plan-p.result (plan_of_tail c.args.base.now c.args.buffer.now c.args.start c.make_plan-p.result c.make_plan-p.ensures) _ _ (omega arith) c.put_resolved.ensures
