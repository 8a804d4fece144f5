use Prim.Native.Nat.{ℕ, ◌+◌}
use mathlib.Core.Path.{refl, ap, sym, ◌∙◌}
use native.Mathlib.Omega.{arith}
use lib.ListN.{drop}
use Rattle.text.proofs.Over.{rest_all}
use Rattle.spelling.specs.Hash.{first_multiplier, hash_from}
use Rattle.spelling.proofs.Hashes.{hash_four, first_byte}
use Rattle.spelling.proofs.hash_first.Goals as goal

pub loop-i-init : goal.loop-i-init
loop-i-init c = ((omega arith, c.requires), refl)

pub stir_4-total-requires : goal.stir_4-total-requires
stir_4-total-requires c = (c.loop-i.invariant.0.1, (first_byte c.args.s.now c.loop-i.i c.wide.result (λ k. (c.type_inv.s k).fits) c.wide.ensures.0, (first_byte c.args.s.now (c.loop-i.i + 1) c.wide-in-loop-i.result (λ k. (c.type_inv.s k).fits) c.wide-in-loop-i.ensures.0, (first_byte c.args.s.now (c.loop-i.i + 2) c.wide-in-loop-i-2.result (λ k. (c.type_inv.s k).fits) c.wide-in-loop-i-2.ensures.0, first_byte c.args.s.now (c.loop-i.i + 3) c.wide-in-loop-i-3.result (λ k. (c.type_inv.s k).fits) c.wide-in-loop-i-3.ensures.0))))

pub loop-i-preserved : goal.loop-i-preserved
loop-i-preserved c = ((omega arith, c.stir_4-total.ensures.1), c.loop-i.invariant.1 ∙ (hash_four c.loop-i.total c.args.s.now c.loop-i.i (omega arith) (λ k. (c.type_inv.s k).fits) ∙ ap (λ (n : ℕ). hash_from first_multiplier n (drop (c.loop-i.i + 4) c.args.s.now)) (sym (c.stir_4-total.ensures.0 ∙ rw (c.wide.ensures.0, c.wide-in-loop-i.ensures.0, c.wide-in-loop-i-2.ensures.0, c.wide-in-loop-i-3.ensures.0)))))

pub hash_each-requires : goal.hash_each-requires
hash_each-requires c = (omega arith, c.loop-i.invariant.0.1)

pub returns : goal.returns
returns c = (c.hash_each.ensures.0 ∙ rw (rest_all c.args.s.now c.loop-i.i) (sym c.loop-i.invariant.1), c.hash_each.ensures.1)
