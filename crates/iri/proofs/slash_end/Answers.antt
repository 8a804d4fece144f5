use Prim.Native.Nat.{◌-◌, ◌+◌}
use mathlib.Core.Path.{◌≡◌, sym, ◌∙◌}
use native.Mathlib.Omega.{arith}
use Rattle.iri.specs.Code.{slash_end}
use Rattle.iri.proofs.Places.{cut_here, cut_on}
use Rattle.iri.proofs.slash_end.Goals as goal

pub returns-then-s-n-eq47 : goal.returns-then-s-n-eq47
returns-then-s-n-eq47 c = let n : c.loop-n.n - 1 + 1 ≡ c.loop-n.n = omega arith in sym (c.loop-n.invariant ∙ (rw n at (cut_here c.args.s.now (c.loop-n.n - 1) c.if-s-n-eq47.true)) ∙ sym n)

pub loop-n-preserved : goal.loop-n-preserved
loop-n-preserved c = let n : c.loop-n.n - 1 + 1 ≡ c.loop-n.n = omega arith in c.loop-n.invariant ∙ rw n at (cut_on c.args.s.now (c.loop-n.n - 1) c.if-s-n-eq47.false)

pub returns : goal.returns
unfolding slash_end
returns c = let n : c.loop-n.n ≡ 0 = omega arith in sym (rw n at c.loop-n.invariant)
