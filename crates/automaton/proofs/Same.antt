-- Equality of states, by computing.
use mathlib.Core.Path.{◌≡◌, refl, ap, ap₂}
use mathlib.Core.Bool.{Bool, true, false, ◌&&◌}
use mathlib.Core.List.{List, [], ◌∷◌}
use lib.Dec.{T, eqb, eqb→eq}
use Rattle.utf8.proofs.Tests.{and_true}
use Rattle.utf8.proofs.Size.{same_ranges, same_ranges_eq}
use Rattle.token.specs.Regular.{Re, eps, set, seq, alt, star, Item, item, Match, nothing, hit}

abbrev same_bool : Bool → Bool → Bool
same_bool true true = true
same_bool true false = false
same_bool false true = false
same_bool false false = true

same_bool_eq : (x y : Bool) → T (same_bool x y) → x ≡ y
same_bool_eq true true t = refl
same_bool_eq true false t = absurd t
same_bool_eq false true t = absurd t
same_bool_eq false false t = refl

abbrev same_re : Re → Re → Bool
same_re eps eps = true
same_re eps (set c d) = false
same_re eps (seq c d) = false
same_re eps (alt c d) = false
same_re eps (star c) = false
same_re (set a b) eps = false
same_re (set a b) (set c d) = same_bool a c && same_ranges b d
same_re (set a b) (seq c d) = false
same_re (set a b) (alt c d) = false
same_re (set a b) (star c) = false
same_re (seq a b) eps = false
same_re (seq a b) (set c d) = false
same_re (seq a b) (seq c d) = let r = same_re b d in same_re a c && r
same_re (seq a b) (alt c d) = false
same_re (seq a b) (star c) = false
same_re (alt a b) eps = false
same_re (alt a b) (set c d) = false
same_re (alt a b) (seq c d) = false
same_re (alt a b) (alt c d) = let r = same_re b d in same_re a c && r
same_re (alt a b) (star c) = false
same_re (star a) eps = false
same_re (star a) (set c d) = false
same_re (star a) (seq c d) = false
same_re (star a) (alt c d) = false
same_re (star a) (star c) = same_re a c

same_re_eq : (x y : Re) → T (same_re x y) → x ≡ y
same_re_eq eps eps t = refl
same_re_eq eps (set c d) t = absurd t
same_re_eq eps (seq c d) t = absurd t
same_re_eq eps (alt c d) t = absurd t
same_re_eq eps (star c) t = absurd t
same_re_eq (set a b) eps t = absurd t
same_re_eq (set a b) (set c d) t = let v = and_true (same_bool a c) (same_ranges b d) t in ap₂ set (same_bool_eq a c v.0) (same_ranges_eq b d v.1)
same_re_eq (set a b) (seq c d) t = absurd t
same_re_eq (set a b) (alt c d) t = absurd t
same_re_eq (set a b) (star c) t = absurd t
same_re_eq (seq a b) eps t = absurd t
same_re_eq (seq a b) (set c d) t = absurd t
same_re_eq (seq a b) (seq c d) t = let v = and_true (same_re a c) (same_re b d) t in ap₂ seq (same_re_eq a c v.0) (same_re_eq b d v.1)
same_re_eq (seq a b) (alt c d) t = absurd t
same_re_eq (seq a b) (star c) t = absurd t
same_re_eq (alt a b) eps t = absurd t
same_re_eq (alt a b) (set c d) t = absurd t
same_re_eq (alt a b) (seq c d) t = absurd t
same_re_eq (alt a b) (alt c d) t = let v = and_true (same_re a c) (same_re b d) t in ap₂ alt (same_re_eq a c v.0) (same_re_eq b d v.1)
same_re_eq (alt a b) (star c) t = absurd t
same_re_eq (star a) eps t = absurd t
same_re_eq (star a) (set c d) t = absurd t
same_re_eq (star a) (seq c d) t = absurd t
same_re_eq (star a) (alt c d) t = absurd t
same_re_eq (star a) (star c) t = ap star (same_re_eq a c t)

abbrev pub same_state : List Item → List Item → Bool
same_state [] [] = true
same_state [] (y ∷ ys) = false
same_state (x ∷ xs) [] = false
same_state (item j p ∷ xs) (item k q ∷ ys) = let r = same_state xs ys in eqb j k && same_re p q && r

pub same_state_eq : (x y : List Item) → T (same_state x y) → x ≡ y
same_state_eq [] [] t = refl
same_state_eq [] (y ∷ ys) t = absurd t
same_state_eq (x ∷ xs) [] t = absurd t
same_state_eq (item j p ∷ xs) (item k q ∷ ys) t =
    let v = and_true (eqb j k && same_re p q) (same_state xs ys) t in
    let w = and_true (eqb j k) (same_re p q) v.0 in
    ap₂ (λ (a : Item) (b : List Item). a ∷ b) (ap₂ item (eqb→eq j k w.0) (same_re_eq p q w.1)) (same_state_eq xs ys v.1)

abbrev pub same_match : Match → Match → Bool
same_match nothing nothing = true
same_match nothing (hit k n) = false
same_match (hit j m) nothing = false
same_match (hit j m) (hit k n) = eqb j k && eqb m n

pub same_match_eq : (x y : Match) → T (same_match x y) → x ≡ y
same_match_eq nothing nothing t = refl
same_match_eq nothing (hit k n) t = absurd t
same_match_eq (hit j m) nothing t = absurd t
same_match_eq (hit j m) (hit k n) t = let v = and_true (eqb j k) (eqb m n) t in ap₂ hit (eqb→eq j k v.0) (eqb→eq m n v.1)
