use Prim.Native.Nat.{ℕ, ◌+◌}
use mathlib.Core.Path.{ap, sym, ◌∙◌}
use native.Mathlib.Omega.{arith}
use native.Mathlib.Nat.{add-zero}
use lib.ListN.{drop, length-drop}
use Rattle.text.specs.Text.{begins}
use Rattle.text.proofs.Compare.{begins_short, begins_not, begins_end}
use Rattle.escape.proofs.Walk.{on_more}
use Rattle.escape.proofs.goes_on.Goals as goal

pub returns-then-t-j : goal.returns-then-t-j
returns-then-t-j c = sym (begins_short c.args.b.now (drop c.args.j c.args.t.now) (omega (arith, length-drop c.args.j c.args.t.now)))

pub loop-i-init : goal.loop-i-init
loop-i-init c = (omega arith, ap (λ (n : ℕ). begins c.args.b.now (drop n c.args.t.now)) (sym (add-zero c.args.j)))

pub returns-then-wide-n : goal.returns-then-wide-n
returns-then-wide-n c = sym (c.loop-i.invariant.1 ∙ begins_not c.args.b.now c.args.t.now c.loop-i.i (c.args.j + c.loop-i.i) (omega arith) (omega arith) (λ e. c.if-wide-n.true (c.wide.ensures.0 ∙ e)))

pub loop-i-preserved : goal.loop-i-preserved
loop-i-preserved c = (omega arith, c.loop-i.invariant.1 ∙ on_more c.args.b.now c.args.t.now c.loop-i.i c.args.j (omega arith) (omega arith) (sym c.wide.ensures.0 ∙ c.if-wide-n.false))

pub returns : goal.returns
returns c = sym (c.loop-i.invariant.1 ∙ begins_end c.args.b.now _ c.loop-i.i (omega arith))
