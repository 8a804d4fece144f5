use mathlib.Core.Path.{◌≡◌, refl, subst}
use Prim.Native.Nat.{ℕ}
use native.Mathlib.Omega.{arith}
use lib.ListN.{length}
use Rattle.text.specs.Slice.{over}
use Rattle.text.proofs.Over.{over_start}
use Rattle.comparison.specs.Comparison.{picked, listed, only}
use Rattle.comparison.specs.Code.{tables_of, in_both}
use Rattle.comparison.proofs.Listing.{picked_short, put_next}
use Rattle.comparison.proofs.sides.put_listed.Goals as goal

pub loop-i-init : goal.loop-i-init
unfolding picked
loop-i-init c = (refl, over_start c.args.out.now)

pub is_listed-requires : goal.is_listed-requires
is_listed-requires c = (c.requires.0, c.loop-i-test.true)

pub put_row-at-requires : goal.put_row-at-requires
put_row-at-requires c = (omega (arith, c.requires.1), omega (arith, c.loop-i.invariant.0, picked_short (listed (in_both c.args.mine.now.edition c.args.pairing.now.words.now) (tables_of c.args.mine.now) (tables_of c.args.other.now)) c.loop-i.i, c.requires.1))

pub loop-i-preserved : goal.loop-i-preserved
loop-i-preserved c = put_next (listed (in_both c.args.mine.now.edition c.args.pairing.now.words.now) (tables_of c.args.mine.now) (tables_of c.args.other.now)) c.loop-i.i c.args.out.now c.loop-i.out _ c.loop-i.at c.put_row-at.result c.is_listed.result c.is_listed.ensures c.loop-i.invariant.0 c.loop-i.invariant.1 c.put_row-at.ensures.0 c.put_row-at.ensures.1

pub returns : goal.returns
unfolding only
returns c =
    let t = listed (in_both c.args.mine.now.edition c.args.pairing.now.words.now) (tables_of c.args.mine.now) (tables_of c.args.other.now) in
    let whole : c.loop-i.i ≡ c.args.mine.now.tables.row_count = omega (arith, c.args.mine.now.counted) in
    subst (λ (n : ℕ). (c.loop-i.out ≡ over (picked t n) c.args.out.now) × (c.loop-i.at ≡ length (picked t n))) whole (c.loop-i.invariant.1, c.loop-i.invariant.0)
