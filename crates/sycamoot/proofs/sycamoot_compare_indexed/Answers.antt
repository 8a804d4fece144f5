use native.Mathlib.Omega.{arith}
use Rattle.sycamoot.proofs.Comparing.{counts_fit}
use Rattle.sycamoot.proofs.sycamoot_compare_indexed.Goals as goal

pub told-requires : goal.told-requires
told-requires c = counts_fit _ _ c.args.pairing.now c.args.left_list.now c.args.right_list.now _ _ c.compare_indexed.result c.compare_indexed.ensures.0 (omega (arith, c.ranges)) (omega (arith, c.ranges))
