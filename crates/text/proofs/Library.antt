-- What the library's methods on slices compute, in the words of this crate.
use Prim.Native.Nat.{ℕ}
use mathlib.Core.Path.{◌≡◌, refl}
use mathlib.Core.List.{[], ◌∷◌}
use mathlib.Core.Bool.{Bool}
use lib.Dec.{eqb, ltb}
use Rattle.std.specs.List.{list_any, starts_with}
use Rattle.std.specs.Cmp.Lexicographic.{pointwise, slice_cmp}
use Rattle.std.specs.Ordering.{is_lt, nat_cmp}
use Rattle.text.specs.Text.{Text, same_text, begins, some_byte}
use Rattle.text.specs.Order.{smaller}
use Rattle.text.proofs.Compare.{by}

pub same_is : (s t : Text) → pointwise eqb s t ≡ same_text s t
unfolding same_text
same_is [] [] = refl
same_is [] (b ∷ t) = refl
same_is (a ∷ s) [] = refl
same_is (a ∷ s) (b ∷ t) = by (eqb a b) (λ e. rw e (same_is s t)) (λ e. rw e)

pub begins_is : (s t : Text) → starts_with eqb t s ≡ begins s t
unfolding begins
begins_is [] t = refl
begins_is (a ∷ s) [] = refl
begins_is (a ∷ s) (b ∷ t) = by (eqb a b) (λ e. rw e (begins_is s t)) (λ e. rw e)

pub some_is : (p : ℕ → Bool) (s : Text) → list_any p s ≡ some_byte p s
unfolding some_byte
some_is p [] = refl
some_is p (c ∷ s) = by (p c) (λ e. rw e) (λ e. rw e (some_is p s))

pub smaller_is : (s t : Text) → is_lt (slice_cmp nat_cmp s t) ≡ smaller s t
unfolding smaller
smaller_is [] [] = refl
smaller_is [] (b ∷ t) = refl
smaller_is (a ∷ s) [] = refl
smaller_is (a ∷ s) (b ∷ t) =
    by (ltb a b) (λ e. rw e)
    (λ e. by (eqb a b) (λ f. rw (e, f) (smaller_is s t)) (λ f. rw (e, f)))
