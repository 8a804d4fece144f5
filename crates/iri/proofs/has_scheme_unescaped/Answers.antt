use mathlib.Core.Path.{refl, sym, ◌∙◌}
use Rattle.escape.specs.Code.{Yields}
use Rattle.escape.specs.declared.Escapes.TheVariants.{Quoted}
use Rattle.iri.proofs.Escaped.{walk_start, walk_known, walk_more, walk_end}
use Rattle.iri.proofs.has_scheme_unescaped.Goals as goal

pub loop-part-init : goal.loop-part-init
loop-part-init c = let e = c.into_iter-part-iterator.ensures.into_iter_gives in rw e (record { kind = refl; same = walk_start c.args.s.now })

pub judge_part-requires : goal.judge_part-requires
judge_part-requires c = c.in-Some.ensures.steps.0.some c.loop-part.invariant.kind

pub returns-in-Some-judge_part : goal.returns-in-Some-judge_part
returns-in-Some-judge_part c =
    let y : Yields Quoted c.loop-part.part-iterator.rest.now c.next.new.self.rest.now c.in-Some.part = rw c.loop-part.invariant.kind at c.in-Some.ensures.steps.0 in
    sym (c.loop-part.invariant.same ∙ walk_known c.loop-part.part-iterator.rest.now c.next.new.self.rest.now c.in-Some.part y c.loop-part.first c.judge_part.result c.judge_part.ensures c.in-Some-judge_part.known c.in-Some-judge_part.is)

pub loop-part-preserved : goal.loop-part-preserved
loop-part-preserved c =
    let y : Yields Quoted c.loop-part.part-iterator.rest.now c.next.new.self.rest.now c.in-Some.part = rw c.loop-part.invariant.kind at c.in-Some.ensures.steps.0 in
    record {
      kind = c.in-Some.ensures.steps.1 ∙ c.loop-part.invariant.kind;
      same = c.loop-part.invariant.same ∙ walk_more c.loop-part.part-iterator.rest.now c.next.new.self.rest.now c.in-Some.part y c.loop-part.first c.judge_part.result c.judge_part.ensures c.in_default.is;
    }

pub returns : goal.returns
returns c = sym (c.loop-part.invariant.same ∙ walk_end c.loop-part.part-iterator.rest.now c.loop-part.first (rw c.loop-part.invariant.kind at (c.in-None.ensures.steps.text)))
