use Prim.Native.Nat.{◌<◌}
use mathlib.Core.Path.{refl, sym, ◌∙◌}
use native.Mathlib.Omega.{arith}
use lib.ListN.{length}
use borrow.Author.Tests.{eqb-true, eqb-false}
use Rattle.text.proofs.Over.{rest_all}
use Rattle.escape.proofs.Walk.{run_begun, run_yields, nothing_ends}
use Rattle.escape.proofs.StretchesIterator.next.Goals as goal

pub returns-then-is_empty-clause-steps : goal.returns-then-is_empty-clause-steps
returns-then-is_empty-clause-steps c = nothing_ends c.args.self.now.escapes c.args.self.now.rest.now (eqb-true _ 0 (sym c.is_empty.ensures ∙ c.if-is_empty.true))

pub returns-then-s-ne92-clause-steps : goal.returns-then-s-ne92-clause-steps
returns-then-s-ne92-clause-steps c =
    let s = c.args.self.now.rest.now in
    let some : 0 < length s = let z = eqb-false _ 0 (sym c.is_empty.ensures ∙ c.if-is_empty.false) in omega (arith, z) in (
      run_yields c.args.self.now.escapes s _ c.next-run.result _ (run_begun s c.next-run.result some c.if-s-ne92.true c.next-run.ensures.0) (omega (arith, c.next-run.ensures.1.0)) c.next-run.ensures.1.1 refl (rest_all s c.next-run.result),
      refl,
    )
