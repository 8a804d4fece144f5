use Prim.Native.Nat.{ℕ, ◌-◌}
use mathlib.Core.Path.{◌≡◌, sym, ◌∙◌}
use native.Mathlib.Omega.{arith}
use Rattle.environment.specs.Code.{binding, listed, place}
use Rattle.environment.proofs.Bindings.{place_start, place_here, place_further, place_end, listed_length}
use Rattle.environment.proofs.Cells.{prefix_read}
use Rattle.environment.proofs.find.Goals as goal

pub loop-i-init : goal.loop-i-init
loop-i-init c = (omega arith, place_start c.args.prefix.now (binding c.args.work.now c.args.lens.now) c.prefix_count-i-end.result)

pub returns-then-same-clause-place : goal.returns-then-same-clause-place
returns-then-same-clause-place c =
    let f = binding c.args.work.now c.args.lens.now in
    let n : ℕ = c.prefix_count-i-end.result in
    let here : place c.args.prefix.now (listed f c.loop-i.i (n - c.loop-i.i)) ≡ 0 =
    place_here c.args.prefix.now f n c.loop-i.i (omega arith) (sym (prefix_read c.args.work.now c.args.lens.now c.loop-i.i c.args.prefix.now c.min.result c.same.result c.min.ensures c.same.ensures) ∙ c.if-same.true) in
    rw (← c.loop-i.invariant.0) (omega (arith, c.loop-i.invariant.1))

pub loop-i-preserved : goal.loop-i-preserved
loop-i-preserved c = (
  c.loop-i.invariant.0,
  omega (
    arith,
    c.loop-i.invariant.1,
    place_further c.args.prefix.now (binding c.args.work.now c.args.lens.now) c.prefix_count-i-end.result c.loop-i.i (omega arith) (sym (prefix_read c.args.work.now c.args.lens.now c.loop-i.i c.args.prefix.now c.min.result c.same.result c.min.ensures c.same.ensures) ∙ c.if-same.false),
  ),
)

pub returns-clause-place : goal.returns-clause-place
returns-clause-place c =
    let f = binding c.args.work.now c.args.lens.now in
    let n : ℕ = c.prefix_count-i-end.result in
    rw (← c.loop-i.invariant.0, listed_length c.args.prefix.now f 0 n)
    (omega (arith, c.loop-i.invariant.1, place_end c.args.prefix.now f n c.loop-i.i (omega arith)))
