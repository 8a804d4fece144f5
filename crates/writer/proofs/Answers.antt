-- The answer is that of the definition, by what was found.
use mathlib.Core.Path.{◌≡◌, refl, ◌∙◌}
use mathlib.Core.Bool.{true, false}
use Prim.Native.Nat.{ℕ, ◌^◌, ◌<◌}
use native.Mathlib.Nat.{zero-add}
use native.Mathlib.Omega.{arith}
use borrow.Author.Tests.{leb-true}
use lib.Dec.{leb}
use lib.ListN.{length}
use Rattle.text.specs.Text.{Text}
use Rattle.text.specs.Slice.{over_at}
use Rattle.table.proofs.Written as told
use Rattle.table.proofs.Written.{answered}
use Rattle.table.specs.Layout.{Slices}
use Rattle.table.specs.Usable.{for_long_form, usable}
use Rattle.table.specs.LongForm.{lines_from, long_form, write}
use Rattle.writer.specs.Writing.{Countable, Wrote}

module _ (s : Slices) where
  form : long_form s ≡ lines_from s 0 s.row_count
  unfolding long_form
  form = refl

  module _ (x : Text) where
    pub not_usable : usable for_long_form s ≡ false → answered 18 0 x ≡ write s x
    unfolding write
    not_usable e = told.not_usable 17 (usable for_long_form s) (long_form s) x e

    module _ (e : usable for_long_form s ≡ true) where
      pub too_long : leb (length (lines_from s 0 s.row_count)) (length x) ≡ false → answered 17 0 x ≡ write s x
      unfolding write
      too_long f = rw form (told.too_long 17 (usable for_long_form s) (lines_from s 0 s.row_count) x e f)

      module _ (f : leb (length (lines_from s 0 s.row_count)) (length x) ≡ true) where
        pub lines_room : length x < 2 ^ 64 → Countable 0 (lines_from s 0 s.row_count)
        lines_room l = record { fits = omega (arith, leb-true (length (lines_from s 0 s.row_count)) (length x) f) }

        pub written_whole : {y : Text} {r : ℕ} → Wrote 0 (lines_from s 0 s.row_count) x y r → answered 0 r y ≡ write s x
        unfolding write over_at
        written_whole {y} {r} w =
            let t = lines_from s 0 s.row_count in
            rw form (told.whole 17 (usable for_long_form s) t x e f r y (w.end ∙ zero-add (length t)) w.out)
