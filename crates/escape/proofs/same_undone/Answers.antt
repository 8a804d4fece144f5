use mathlib.Core.Path.{ap, sym, ◌∙◌}
use native.Mathlib.Omega.{arith}
use lib.ListN.{drop}
use lib.Seq.{length-take-le}
use Rattle.text.specs.Text.{Text, begins}
use Rattle.escape.specs.Code.{Yields}
use Rattle.escape.specs.declared.Stretch.TheVariants.{Run, One}
use Rattle.escape.proofs.Walk.{plain_undone, same_more, same_not, same_fits, same_done, four_fits, shown_is, to_end}
use Rattle.escape.proofs.same_undone.Goals as goal

pub returns-then-not-has_backslash : goal.returns-then-not-has_backslash
returns-then-not-has_backslash c = rw (plain_undone c.args.escapes c.args.s.now (sym c.has_backslash.ensures ∙ c.if-not-has_backslash.true)) c.same.ensures

pub returns-then-not-begins : goal.returns-then-not-begins
returns-then-not-begins c =
    let y : Yields c.args.escapes c.loop-part.part-iterator.rest.now c.next.new.self.rest.now (Run c.in-Run.run') = rw c.loop-part.invariant.kind at (rw c.in-Run.is at c.in-Some.ensures.steps.0) in
    sym (c.loop-part.invariant.same ∙ same_not _ _ _ _ y c.args.t.now c.loop-part.j c.begins.result (c.begins.ensures ∙ ap (begins _) (to_end c.args.t.now c.loop-part.j)) c.if-not-begins.true)

pub loop-part-preserved-in-Run : goal.loop-part-preserved-in-Run
loop-part-preserved-in-Run c =
    let y : Yields c.args.escapes c.loop-part.part-iterator.rest.now c.next.new.self.rest.now (Run c.in-Run.run') = rw c.loop-part.invariant.kind at (rw c.in-Run.is at c.in-Some.ensures.steps.0) in
    record {
      kind = c.in-Some.ensures.steps.1 ∙ c.loop-part.invariant.kind;
      within = same_fits _ _ _ _ y c.args.t.now c.loop-part.j c.begins.result (c.begins.ensures ∙ ap (begins _) (to_end c.args.t.now c.loop-part.j)) c.loop-part.invariant.within c.if-not-begins.false;
      same = c.loop-part.invariant.same ∙ same_more _ _ _ _ y c.args.t.now c.loop-part.j c.begins.result (c.begins.ensures ∙ ap (begins _) (to_end c.args.t.now c.loop-part.j)) c.if-not-begins.false;
    }

pub slice_bounds-goes_on-end : goal.slice_bounds-goes_on-end
slice_bounds-goes_on-end c =
    let y : Yields c.args.escapes c.loop-part.part-iterator.rest.now c.next.new.self.rest.now (One c.in-One.c) = rw c.loop-part.invariant.kind at (rw c.in-One.is at c.in-Some.ensures.steps.0) in
    four_fits y c.bytes.ensures

pub slice_bounds-goes_on-end-in-One : goal.slice_bounds-goes_on-end-in-One
slice_bounds-goes_on-end-in-One c =
    let y : Yields c.args.escapes c.loop-part.part-iterator.rest.now c.next.new.self.rest.now (One c.in-One.c) = rw c.loop-part.invariant.kind at (rw c.in-One.is at c.in-Some.ensures.steps.0) in
    sym (length-take-le c.in-One.c.width c.bytes.result (four_fits y c.bytes.ensures))

pub returns-then-not-goes_on : goal.returns-then-not-goes_on
returns-then-not-goes_on c =
    let y : Yields c.args.escapes c.loop-part.part-iterator.rest.now c.next.new.self.rest.now (One c.in-One.c) = rw c.loop-part.invariant.kind at (rw c.in-One.is at c.in-Some.ensures.steps.0) in
    sym (c.loop-part.invariant.same ∙ same_not _ _ _ _ y c.args.t.now c.loop-part.j c.goes_on.result (c.goes_on.ensures ∙ ap (λ (p : Text). begins p (drop c.loop-part.j c.args.t.now)) (shown_is c.in-One.c c.bytes.result c.bytes.ensures)) c.if-not-goes_on.true)

pub overflow_add-j-in-One : goal.overflow_add-j-in-One
overflow_add-j-in-One c =
    let y : Yields c.args.escapes c.loop-part.part-iterator.rest.now c.next.new.self.rest.now (One c.in-One.c) = rw c.loop-part.invariant.kind at (rw c.in-One.is at c.in-Some.ensures.steps.0) in
    omega (arith, same_fits _ _ _ _ y c.args.t.now c.loop-part.j c.goes_on.result (c.goes_on.ensures ∙ ap (λ (p : Text). begins p (drop c.loop-part.j c.args.t.now)) (shown_is c.in-One.c c.bytes.result c.bytes.ensures)) c.loop-part.invariant.within c.if-not-goes_on.false)

pub loop-part-preserved : goal.loop-part-preserved
loop-part-preserved c =
    let y : Yields c.args.escapes c.loop-part.part-iterator.rest.now c.next.new.self.rest.now (One c.in-One.c) = rw c.loop-part.invariant.kind at (rw c.in-One.is at c.in-Some.ensures.steps.0) in
    record {
      kind = c.in-Some.ensures.steps.1 ∙ c.loop-part.invariant.kind;
      within = same_fits _ _ _ _ y c.args.t.now c.loop-part.j c.goes_on.result (c.goes_on.ensures ∙ ap (λ (p : Text). begins p (drop c.loop-part.j c.args.t.now)) (shown_is c.in-One.c c.bytes.result c.bytes.ensures)) c.loop-part.invariant.within c.if-not-goes_on.false;
      same = c.loop-part.invariant.same ∙ same_more _ _ _ _ y c.args.t.now c.loop-part.j c.goes_on.result (c.goes_on.ensures ∙ ap (λ (p : Text). begins p (drop c.loop-part.j c.args.t.now)) (shown_is c.in-One.c c.bytes.result c.bytes.ensures)) c.if-not-goes_on.false;
    }

pub returns : goal.returns
returns c = sym (c.loop-part.invariant.same ∙ same_done c.args.escapes c.loop-part.part-iterator.rest.now c.args.t.now c.loop-part.j (rw c.loop-part.invariant.kind at (c.in-None.ensures.steps.text)) c.loop-part.invariant.within)
