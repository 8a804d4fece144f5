use mathlib.Core.Path.{◌≡◌, ap₂, ◌∙◌}
use mathlib.Core.Bool.{Bool, ◌&&◌}
use Prim.Native.Nat.{ℕ}
use native.Mathlib.Omega.{arith}
use borrow.Author.Tests.{le-leb, lt-leb, ltb-true, ltb-false, eqb-true, eqb-false}
use lib.Dec.{eqb, ltb, leb}
use Rattle.std.specs.Ordering.{is_le, nat_cmp}
use Rattle.text.proofs.Compare.{by}
use Rattle.utf8.proofs.is_between.Goals as goal

le_is : (a b : ℕ) → is_le (nat_cmp a b) ≡ leb a b
le_is a b =
    by (ltb a b) (λ e. rw (e, le-leb a b (omega (arith, ltb-true a b e))))
    (λ e.
    by (eqb a b) (λ f. rw (e, f, le-leb a b (omega (arith, eqb-true a b f))))
    (λ f. rw (e, f, lt-leb a b (omega (arith, ltb-false a b e, eqb-false a b f)))))

pub returns : goal.returns
returns c =
    rw (c.new.ensures.start, c.new.ensures.end, c.new.ensures.exhausted) at c.contains.ensures.value
    ∙ ap₂ (λ (x y : Bool). x && y) (le_is c.args.lo c.args.b) (le_is c.args.b c.args.hi)
