use Prim.Native.Nat.{◌+◌, ◌≤◌}
use native.Mathlib.Omega.{arith}
use lib.ListN.{length}
use Rattle.iri.proofs.Plans.{ends_fit, plan_as}
use Rattle.iri.proofs.make_plan.Goals as goal

pub choose-requires : goal.choose-requires
choose-requires c = let e : c.find-k.result + 1 ≤ length c.args.base.now = omega (arith, c.find-k.ensures, c.requires) in
    let p = ends_fit c.args.base.now (c.find-k.result + 1) c.part_ends-b.result e c.part_ends-b.ensures in
    let q = ends_fit c.args.reference.now 0 c.part_ends-r.result (omega arith) c.part_ends-r.ensures in
    ((e, p.1), (q.0, q.1))

pub returns : goal.returns
returns c = plan_as c.args.base.now c.args.reference.now c.find-k.result _ _ _ c.find-k.ensures c.part_ends-b.ensures c.part_ends-r.ensures c.choose.ensures
