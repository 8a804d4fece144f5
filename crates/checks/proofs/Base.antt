-- A base of no bytes is none; any other is held to four tests.
use mathlib.Core.Path.{◌≡◌, refl, sym, ◌∙◌, ap}
use mathlib.Core.List.{[], ◌∷◌}
use mathlib.Core.Bool.{Bool, true, false, not, ◌&&◌, ◌||◌}
use Prim.Native.Nat.{◌<◌, ◌≤◌}
use native.Mathlib.Omega.{arith}
use lib.Dec.{ltb}
use lib.ListN.{length}
use borrow.Author.Tests.{lt-ltb, le-ltb}
use Rattle.text.specs.Text.{Text, is_none, some_byte}
use Rattle.limits.specs.Limits.{iri_limit}
use Rattle.utf8.specs.Utf8.{first_bad}
use Rattle.iri.specs.Iri.{has_scheme, forbidden}
use Rattle.machine.specs.Read.{bad_base}

pub none_lent : (b : Text) → length b ≡ 0 → false ≡ bad_base b
unfolding bad_base
none_lent [] h = refl
none_lent (x ∷ b) h = absurd (omega arith)

some_lent : (b : Text) → (length b ≡ 0 → ⊥) → bad_base b ≡ (ltb iri_limit (length b) || not (is_none (first_bad b)) || not (has_scheme b) || some_byte forbidden b)
unfolding bad_base
some_lent [] h = absurd (h refl)
some_lent (x ∷ b) h = refl

not_both : (h f : Bool) → not (h && not f) ≡ (not h || f)
not_both true true = refl
not_both true false = refl
not_both false f = refl

module _ (b : Text) (h : length b ≡ 0 → ⊥) where
  pub long_base : iri_limit < length b → true ≡ bad_base b
  long_base l = sym (some_lent b h ∙ rw (lt-ltb iri_limit (length b) l))

  module _ (l : length b ≤ iri_limit) where
    pub base_not_utf8 : is_none (first_bad b) ≡ false → true ≡ bad_base b
    base_not_utf8 e = sym (some_lent b h ∙ rw (le-ltb iri_limit (length b) l, e))

    pub base_left : is_none (first_bad b) ≡ true → (r : Bool) → r ≡ (has_scheme b && not (some_byte forbidden b)) → not r ≡ bad_base b
    base_left e r s = ap not s ∙ (not_both (has_scheme b) (some_byte forbidden b) ∙ sym (some_lent b h ∙ rw (le-ltb iri_limit (length b) l, e)))
