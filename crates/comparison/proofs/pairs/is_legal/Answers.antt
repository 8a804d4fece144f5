use mathlib.Core.Path.{◌≡◌, refl, sym, ◌∙◌}
use Prim.Native.Nat.{◌*◌}
use native.Mathlib.Omega.{arith}
use lib.ListN.{length}
use Rattle.comparison.specs.Code.{with_terms}
use Rattle.comparison.specs.Comparison.{pairs}
use Rattle.comparison.proofs.Partners.{legal_odd, left_twice, right_twice, left_missing, right_left}
use Rattle.comparison.proofs.pairs.is_legal.Goals as goal

pub returns-then-pairing-ne0 : goal.returns-then-pairing-ne0
returns-then-pairing-ne0 c = (legal_odd (with_terms c.args.left.now c.args.left_count) (with_terms c.args.right.now c.args.right_count) c.args.pairing.now (λ e. omega arith), refl)

pub returns-then-not-is_once : goal.returns-then-not-is_once
returns-then-not-is_once c =
    let p = c.args.pairing.now in
    let l = with_terms c.args.left.now c.args.left_count in
    let r = with_terms c.args.right.now c.args.right_count in
    let even : 2 * pairs p ≡ length p = omega arith in
    let a = rw (c.numbers-lefts.ensures.0, c.numbers-lefts.ensures.1.0, c.numbers-lefts.ensures.1.1.0, c.numbers-lefts.ensures.1.1.1) at (sym c.is_once.ensures.0 ∙ c.if-not-is_once.true) in
    (left_twice l r p even a, c.is_once.ensures.1)

pub returns-then-not-is_once-2 : goal.returns-then-not-is_once-2
returns-then-not-is_once-2 c =
    let p = c.args.pairing.now in
    let l = with_terms c.args.left.now c.args.left_count in
    let r = with_terms c.args.right.now c.args.right_count in
    let even : 2 * pairs p ≡ length p = omega arith in
    let a = rw (c.numbers-lefts.ensures.0, c.numbers-lefts.ensures.1.0, c.numbers-lefts.ensures.1.1.0, c.numbers-lefts.ensures.1.1.1) at (sym c.is_once.ensures.0 ∙ c.if-not-is_once.false) in
    let b = rw (c.numbers-rights.ensures.0, c.numbers-rights.ensures.1.0, c.numbers-rights.ensures.1.1.0, c.numbers-rights.ensures.1.1.1) at (sym c.is_once-2.ensures.0 ∙ c.if-not-is_once-2.true) in
    (right_twice l r p even a b, c.is_once-2.ensures.1 ∙ c.is_once.ensures.1)

pub returns-then-not-is_known : goal.returns-then-not-is_known
returns-then-not-is_known c =
    let p = c.args.pairing.now in
    let l = with_terms c.args.left.now c.args.left_count in
    let r = with_terms c.args.right.now c.args.right_count in
    let even : 2 * pairs p ≡ length p = omega arith in
    let a = rw (c.numbers-lefts.ensures.0, c.numbers-lefts.ensures.1.0, c.numbers-lefts.ensures.1.1.0, c.numbers-lefts.ensures.1.1.1) at (sym c.is_once.ensures.0 ∙ c.if-not-is_once.false) in
    let b = rw (c.numbers-rights.ensures.0, c.numbers-rights.ensures.1.0, c.numbers-rights.ensures.1.1.0, c.numbers-rights.ensures.1.1.1) at (sym c.is_once-2.ensures.0 ∙ c.if-not-is_once-2.false) in
    let k = rw (c.numbers-lefts.ensures.0, c.numbers-lefts.ensures.1.0, c.numbers-lefts.ensures.1.1.0, c.numbers-lefts.ensures.1.1.1) at (sym c.is_known.ensures.0 ∙ c.if-not-is_known.true) in
    (left_missing l r p even a b k, c.is_known.ensures.1 ∙ (c.is_once-2.ensures.1 ∙ c.is_once.ensures.1))

pub returns : goal.returns
returns c =
    let p = c.args.pairing.now in
    let l = with_terms c.args.left.now c.args.left_count in
    let r = with_terms c.args.right.now c.args.right_count in
    let even : 2 * pairs p ≡ length p = omega arith in
    let a = rw (c.numbers-lefts.ensures.0, c.numbers-lefts.ensures.1.0, c.numbers-lefts.ensures.1.1.0, c.numbers-lefts.ensures.1.1.1) at (sym c.is_once.ensures.0 ∙ c.if-not-is_once.false) in
    let b = rw (c.numbers-rights.ensures.0, c.numbers-rights.ensures.1.0, c.numbers-rights.ensures.1.1.0, c.numbers-rights.ensures.1.1.1) at (sym c.is_once-2.ensures.0 ∙ c.if-not-is_once-2.false) in
    let k = rw (c.numbers-lefts.ensures.0, c.numbers-lefts.ensures.1.0, c.numbers-lefts.ensures.1.1.0, c.numbers-lefts.ensures.1.1.1) at (sym c.is_known.ensures.0 ∙ c.if-not-is_known.false) in
    ((rw (c.numbers-rights.ensures.0, c.numbers-rights.ensures.1.0, c.numbers-rights.ensures.1.1.0, c.numbers-rights.ensures.1.1.1) at c.is_known-2.ensures.0) ∙ right_left l r p even a b k, c.is_known-2.ensures.1 ∙ (c.is_known.ensures.1 ∙ (c.is_once-2.ensures.1 ∙ c.is_once.ensures.1)))
