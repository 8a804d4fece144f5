-- The library's test of an ending, in the words of the definitions.
use mathlib.Core.Path.{◌≡◌, refl, sym, ◌∙◌}
use mathlib.Core.Bool.{true, false}
use mathlib.Core.List.{[], ◌∷◌}
use Prim.Native.Nat.{◌-◌}
use lib.Dec.{eqb}
use lib.ListN.{length, drop}
use borrow.Author.Tests.{eq-eqb, ne_eqb, eqb-true, eqb-false}
use Rattle.std.specs.Cmp.Lexicographic.{pointwise}
use Rattle.std.specs.List.{ends_with as ends}
use Rattle.text.specs.Text.{Text, ascii, same_text}
use Rattle.text.proofs.Compare.{by}
use Rattle.documents.specs.Choice.{ends_with, mode_by_name}

ends_is : (s t : Text) → pointwise eqb s t ≡ same_text t s
unfolding same_text
ends_is [] [] = refl
ends_is [] (b ∷ t) = refl
ends_is (a ∷ s) [] = refl
ends_is (a ∷ s) (b ∷ t) =
    by (eqb a b) (λ e. rw (e, eq-eqb b a (sym (eqb-true a b e))) (ends_is s t))
    (λ e. rw (e, ne_eqb b a (λ q. eqb-false a b e (sym q))))

pub turtle_name : (name : Text) → ends eqb name (ascii ".ttl") ≡ true → 1 ≡ mode_by_name name
unfolding mode_by_name ends_with
turtle_name name e = simp (sym (ends_is (ascii ".ttl") (drop (length name - 4) name)) ∙ e)

pub other_name : (name : Text) → ends eqb name (ascii ".ttl") ≡ false → 0 ≡ mode_by_name name
unfolding mode_by_name ends_with
other_name name e = simp (sym (ends_is (ascii ".ttl") (drop (length name - 4) name)) ∙ e)
