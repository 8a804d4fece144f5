use mathlib.Core.Path.{refl, ap, sym, ◌∙◌}
use native.Mathlib.Omega.{arith}
use lib.Seq.{length-take-le}
use Rattle.text.specs.Text.{Text}
use Rattle.text.specs.Slice.{over_at}
use Rattle.escape.specs.Code.{undone, low, Yields}
use Rattle.escape.specs.declared.Stretch.TheVariants.{Run, One}
use Rattle.escape.proofs.Walk.{undone_short, four_fits, shown_is, length_more, halfway_start, halfway_fits, halfway_done, written_more, wrote, wrote_plain}
use Rattle.escape.proofs.write_undone.Goals as goal

pub returns-then-not-has_backslash : goal.returns-then-not-has_backslash
returns-then-not-has_backslash c = wrote_plain c.args.escapes c.args.s.now c.args.out.now c.copy.new.out (sym c.has_backslash.ensures ∙ c.if-not-has_backslash.true) c.copy.ensures

pub loop-part-init : goal.loop-part-init
loop-part-init c = let e = c.into_iter-part-iterator.ensures.into_iter_gives in rw e (record { kind = refl; front = halfway_start _ c.args.out.now })

pub overflow_add-j : goal.overflow_add-j
overflow_add-j c =
    let y : Yields c.args.escapes c.loop-part.part-iterator.rest.now c.next.new.self.rest.now (Run c.in-Run.run') = rw c.loop-part.invariant.kind at (rw c.in-Run.is at c.in-Some.ensures.steps.0) in
    omega (arith, length_more _ _ _ _ y, halfway_fits _ _ _ _ _ c.loop-part.invariant.front, undone_short c.args.escapes c.args.s.now)

pub loop-part-preserved-in-Run : goal.loop-part-preserved-in-Run
loop-part-preserved-in-Run c =
    let y : Yields c.args.escapes c.loop-part.part-iterator.rest.now c.next.new.self.rest.now (Run c.in-Run.run') = rw c.loop-part.invariant.kind at (rw c.in-Run.is at c.in-Some.ensures.steps.0) in
    record {
      kind = c.in-Some.ensures.steps.1 ∙ c.loop-part.invariant.kind;
      front = written_more _ _ _ _ y (undone c.args.escapes c.args.s.now) c.args.out.now c.loop-part.out _ c.loop-part.j c.loop-part.invariant.front c.put_plain.ensures;
    }

pub slice_bounds-put-end : goal.slice_bounds-put-end
slice_bounds-put-end c =
    let y : Yields c.args.escapes c.loop-part.part-iterator.rest.now c.next.new.self.rest.now (One c.in-One.c) = rw c.loop-part.invariant.kind at (rw c.in-One.is at c.in-Some.ensures.steps.0) in
    four_fits y c.bytes.ensures

pub slice_bounds-put-end-in-One : goal.slice_bounds-put-end-in-One
slice_bounds-put-end-in-One c =
    let y : Yields c.args.escapes c.loop-part.part-iterator.rest.now c.next.new.self.rest.now (One c.in-One.c) = rw c.loop-part.invariant.kind at (rw c.in-One.is at c.in-Some.ensures.steps.0) in
    sym (length-take-le c.in-One.c.width c.bytes.result (four_fits y c.bytes.ensures))

pub put-requires : goal.put-requires
put-requires c =
    let y : Yields c.args.escapes c.loop-part.part-iterator.rest.now c.next.new.self.rest.now (One c.in-One.c) = rw c.loop-part.invariant.kind at (rw c.in-One.is at c.in-Some.ensures.steps.0) in
    omega (arith, length-take-le c.in-One.c.width c.bytes.result (four_fits y c.bytes.ensures), length_more _ _ _ _ y, halfway_fits _ _ _ _ _ c.loop-part.invariant.front, undone_short c.args.escapes c.args.s.now)

pub overflow_add-j-in-One : goal.overflow_add-j-in-One
overflow_add-j-in-One c =
    let y : Yields c.args.escapes c.loop-part.part-iterator.rest.now c.next.new.self.rest.now (One c.in-One.c) = rw c.loop-part.invariant.kind at (rw c.in-One.is at c.in-Some.ensures.steps.0) in
    omega (arith, length_more _ _ _ _ y, halfway_fits _ _ _ _ _ c.loop-part.invariant.front, undone_short c.args.escapes c.args.s.now)

pub loop-part-preserved : goal.loop-part-preserved
loop-part-preserved c =
    let y : Yields c.args.escapes c.loop-part.part-iterator.rest.now c.next.new.self.rest.now (One c.in-One.c) = rw c.loop-part.invariant.kind at (rw c.in-One.is at c.in-Some.ensures.steps.0) in
    record {
      kind = c.in-Some.ensures.steps.1 ∙ c.loop-part.invariant.kind;
      front = written_more _ _ _ _ y (undone c.args.escapes c.args.s.now) c.args.out.now c.loop-part.out _ c.loop-part.j c.loop-part.invariant.front (c.put.ensures ∙ ap (λ (p : Text). over_at c.loop-part.j (low p) c.loop-part.out) (shown_is c.in-One.c c.bytes.result c.bytes.ensures));
    }

pub returns : goal.returns
returns c = wrote c.args.escapes c.args.s.now c.args.out.now c.loop-part.out c.loop-part.j (λ i. (c.type_inv.s i).fits) (halfway_done _ _ _ _ _ c.loop-part.invariant.front (rw c.loop-part.invariant.kind at (c.in-None.ensures.steps.text)))
