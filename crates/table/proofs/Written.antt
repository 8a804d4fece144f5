-- A writer's answer is that of the definition, by what it found.
use mathlib.Core.Path.{◌≡◌, refl}
use mathlib.Core.Bool.{Bool, true, false}
use Prim.Native.Nat.{ℕ, ◌≤◌}
use native.Mathlib.Omega.{arith}
use borrow.Author.Tests.{leb-true, leb-false, lt-ltb, le-ltb}
use lib.Dec.{leb, ltb}
use lib.ListN.{length, take, drop}
use lib.Seq.{take-append_seam}
use Rattle.text.specs.Text.{Text}
use Rattle.text.specs.Slice.{over}
use Rattle.text.proofs.Compare.{by}
use Rattle.text.proofs.Over.{over_fits}
use Rattle.table.specs.Written.{Written, written}

abbrev pub answered : ℕ → ℕ → Text → Written
answered k n out = record { number = k; position = n; output = out }

module _ (full : ℕ) (usable : Bool) (form x : Text) where
  pub not_usable : usable ≡ false → answered 18 0 x ≡ written full usable form x
  not_usable e = rw e

  module _ (e : usable ≡ true) where
    pub too_long : leb (length form) (length x) ≡ false → answered full 0 x ≡ written full usable form x
    too_long f = rw (e, lt-ltb (length x) (length form) (leb-false (length form) (length x) f))

    module _ (f : leb (length form) (length x) ≡ true) where
      pub fits : length form ≤ length x
      fits = leb-true (length form) (length x) f

      pub whole : (r : ℕ) (y : Text) → r ≡ length form → y ≡ over form x → answered 0 r y ≡ written full usable form x
      whole r y g h = rw (e, le-ltb (length x) (length form) fits, g, h, over_fits form x fits)

-- ---- What a writer's number says

-- What was written is the whole text.
pub record Whole (good : Bool) (form : Text) (w : Written) : Type 0 where
  pub usable : good ≡ true
  pub size : w.position ≡ length form
  pub text : take w.position w.output ≡ form

module _ (full : ℕ) (usable : Bool) (form x : Text) where
  pub zero_whole : (full ≡ 0 → ⊥) → (written full usable form x).number ≡ 0 → Whole usable form (written full usable form x)
  zero_whole k e =
      by usable
      (λ u.
      by (ltb (length x) (length form)) (λ f. absurd (k (rw (u, f) at e)))
      (λ f. rw (u, f) (record { usable = refl; size = refl; text = take-append_seam form (drop (length form) x) })))
      (λ u. absurd (let z : ◌≡◌ {A = ℕ} 18 0 = rw u at e in omega arith))

  module _ (u : usable ≡ true) where
    pub never_eighteen : (full ≡ 18 → ⊥) → (written full usable form x).number ≡ 18 → ⊥
    never_eighteen k e = by (ltb (length x) (length form)) (λ f. k (rw (u, f) at e)) (λ f. let z : ◌≡◌ {A = ℕ} 0 18 = rw (u, f) at e in omega arith)

    pub fits_zero : length form ≤ length x → (written full usable form x).number ≡ 0
    fits_zero l = rw (u, le-ltb (length x) (length form) l)
