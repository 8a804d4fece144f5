use mathlib.Core.Path.{sym, ap, ◌∙◌}
use lib.Seq.{length-take-le}
use Rattle.spelling.specs.Hash.{hash_from}
use Rattle.escape.specs.Code.{Yields}
use Rattle.escape.specs.declared.Stretch.TheVariants.{Run, One}
use Rattle.escape.proofs.Walk.{plain_undone, four_fits, shown_is}
use Rattle.spelling.proofs.Hashes.{hash_part, hash_none}
use Rattle.spelling.proofs.hash_stretches.Goals as goal

pub returns-then-not-has_backslash : goal.returns-then-not-has_backslash
returns-then-not-has_backslash c = (c.hash_bytes.ensures.0 ∙ ap (hash_from c.args.m c.args.h) (sym (plain_undone c.args.escapes c.args.s.now (sym c.has_backslash.ensures ∙ c.if-not-has_backslash.true))), c.hash_bytes.ensures.1)

pub loop-part-preserved-in-Run : goal.loop-part-preserved-in-Run
loop-part-preserved-in-Run c =
    let y : Yields c.args.escapes c.loop-part.part-iterator.rest.now c.next.new.self.rest.now (Run c.in-Run.run') = rw c.loop-part.invariant.kind at (rw c.in-Run.is at c.in-Some.ensures.steps.0) in
    record {
      kind = c.in-Some.ensures.steps.1 ∙ c.loop-part.invariant.kind;
      small = c.hash_bytes-total.ensures.1;
      same = c.loop-part.invariant.same ∙ hash_part c.args.m _ _ _ _ y c.loop-part.total _ c.hash_bytes-total.ensures.0;
    }

pub slice_bounds-hash_numbers-end : goal.slice_bounds-hash_numbers-end
slice_bounds-hash_numbers-end c =
    let y : Yields c.args.escapes c.loop-part.part-iterator.rest.now c.next.new.self.rest.now (One c.in-One.c) = rw c.loop-part.invariant.kind at (rw c.in-One.is at c.in-Some.ensures.steps.0) in
    four_fits y c.bytes.ensures

pub slice_bounds-hash_numbers-end-in-One : goal.slice_bounds-hash_numbers-end-in-One
slice_bounds-hash_numbers-end-in-One c =
    let y : Yields c.args.escapes c.loop-part.part-iterator.rest.now c.next.new.self.rest.now (One c.in-One.c) = rw c.loop-part.invariant.kind at (rw c.in-One.is at c.in-Some.ensures.steps.0) in
    sym (length-take-le c.in-One.c.width c.bytes.result (four_fits y c.bytes.ensures))

pub loop-part-preserved : goal.loop-part-preserved
loop-part-preserved c =
    let y : Yields c.args.escapes c.loop-part.part-iterator.rest.now c.next.new.self.rest.now (One c.in-One.c) = rw c.loop-part.invariant.kind at (rw c.in-One.is at c.in-Some.ensures.steps.0) in
    record {
      kind = c.in-Some.ensures.steps.1 ∙ c.loop-part.invariant.kind;
      small = c.hash_numbers-total.ensures.1;
      same = c.loop-part.invariant.same ∙ hash_part c.args.m _ _ _ _ y c.loop-part.total _ (c.hash_numbers-total.ensures.0 ∙ ap (hash_from c.args.m c.loop-part.total) (shown_is c.in-One.c c.bytes.result c.bytes.ensures));
    }

pub returns : goal.returns
returns c = (sym (c.loop-part.invariant.same ∙ hash_none c.args.m c.args.escapes c.loop-part.part-iterator.rest.now c.loop-part.total (rw c.loop-part.invariant.kind at (c.in-None.ensures.steps.text))), c.loop-part.invariant.small)
