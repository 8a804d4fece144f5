-- What stands between < and >: its escapes are those of the whole.
use Prim.Native.Nat.{ℕ, zero, suc, ◌+◌, ◌*◌, ◌-◌, ◌≤◌, ◌<◌}
use mathlib.Core.Path.{◌≡◌, refl, ap, sym, ◌∙◌}
use mathlib.Core.List.{[], ◌∷◌}
use mathlib.Core.Bool.{true, false}
use native.Mathlib.Omega.{arith}
use lib.ListN.{length, get_or, take, drop, drop_of_length-le}
use lib.Seq.{drop-drop}
use lib.Dec.{eqb, ltb}
use borrow.Author.Tests.{ne_eqb, ltb-true, ltb-false}
use Rattle.text.specs.Text.{Text}
use Rattle.text.proofs.Compare.{by, contrary}
use Rattle.escape.specs.Escape.{outside, behind, digits, hex_value, pieces_from, pieces, unescape_pieces, unescape, no_character, bad_pieces, bad_escape}
use Rattle.escape.specs.Escape as escape
use Rattle.escape.proofs.Bytes.{or_left, or_right}
use Rattle.escape.proofs.Steps.{at_backslash, at_plain, at_short, at_long, at_letter}
use Rattle.iri.specs.Iri.{has_scheme}
use Rattle.iri.proofs.Schemes.{no_scheme_empty}
use Rattle.dataset.specs.Constructors.{inner}
use Rattle.token_iri.specs.Addresses.{LocalFrom}

-- A front of a text without bad escapes has none.
pub bad_take : (p : escape.Scan) (s : Text) (n : ℕ) → bad_pieces (pieces_from p s) ≡ false → bad_pieces (pieces_from p (take n s)) ≡ false
unfolding pieces_from bad_pieces
bad_take p [] n h = none p n
  where
    none : (p : escape.Scan) (n : ℕ) → bad_pieces (pieces_from p (take n [])) ≡ false
    none outside zero = refl
    none outside (suc n) = refl
    none behind zero = refl
    none behind (suc n) = refl
    none (digits k v) zero = refl
    none (digits k v) (suc n) = refl
bad_take outside (c ∷ s) zero h = refl
bad_take behind (c ∷ s) zero h = refl
bad_take (digits k v) (c ∷ s) zero h = refl
bad_take outside (c ∷ s) (suc n) h =
    by (eqb c 92) (λ e. rw (at_backslash c (take n s) e) (bad_take behind s n (sym (ap bad_pieces (at_backslash c s e)) ∙ h)))
    (λ e. rw (at_plain c (take n s) e) (bad_take outside s n (sym (ap bad_pieces (at_plain c s e)) ∙ h)))
bad_take behind (c ∷ s) (suc n) h =
    by (eqb c 117) (λ e. rw (at_short c (take n s) e) (bad_take (digits 3 0) s n (sym (ap bad_pieces (at_short c s e)) ∙ h)))
    (λ e. by (eqb c 85) (λ f. rw (at_long c (take n s) e f) (bad_take (digits 7 0) s n (sym (ap bad_pieces (at_long c s e f)) ∙ h)))
    (λ f. rw (at_letter c (take n s) e f) (bad_take outside s n (sym (ap bad_pieces (at_letter c s e f)) ∙ h))))
bad_take (digits zero v) (c ∷ s) (suc n) h =
    let x : no_character (v * 16 + hex_value c) ≡ false = or_left (no_character (v * 16 + hex_value c)) (bad_pieces (pieces_from outside s)) h in
    rw x (bad_take outside s n (or_right (no_character (v * 16 + hex_value c)) (bad_pieces (pieces_from outside s)) h))
bad_take (digits (suc k) v) (c ∷ s) (suc n) h = bad_take (digits k (v * 16 + hex_value c)) s n h

pub inside_good : (s : Text) → get_or s 0 0 ≡ 60 → bad_escape s ≡ false → bad_escape (inner 1 s) ≡ false
unfolding bad_escape pieces inner bad_pieces
inside_good [] e h = absurd (omega arith)
inside_good (c ∷ s) e h =
    bad_take outside s (length (c ∷ s) - 2) (sym (ap bad_pieces (at_plain c s (ne_eqb c 92 (λ q. omega arith)))) ∙ h)

-- The inside as the code reads it.
pub inside_short : (s : Text) → length s < 2 → take 0 (drop 0 s) ≡ inner 1 s
unfolding inner
inside_short s h = let z : length s - 2 ≡ 0 = omega arith in rw z

pub inside_read : (s : Text) → 2 ≤ length s → take (length s - 1 - 1) (drop 1 s) ≡ inner 1 s
unfolding inner
inside_read s h = let z : length s - 1 - 1 ≡ length s - 2 = omega arith in rw z

-- A reference with a scheme has an inside.
pub scheme_inside : (s : Text) → has_scheme (unescape (inner 1 s)) ≡ true → 2 ≤ length s
unfolding inner unescape pieces pieces_from unescape_pieces
scheme_inside s h =
    by (ltb (length s) 2)
    (λ e. let z : length s - 2 ≡ 0 = omega (arith, ltb-true (length s) 2 e) in
    contrary (sym h ∙ rw z (sym (no_scheme_empty [] refl))))
    (λ e. ltb-false (length s) 2 e)

-- Where the local part begins.
pub local_behind : (s : Text) (at : ℕ) → at < length s → LocalFrom s at (at + 1)
local_behind s at h = record { part = sym (drop-drop 1 at s); inside = omega arith }

pub local_none : (s : Text) (at : ℕ) → at ≤ length s → length s ≤ at → LocalFrom s at at
local_none s at h g = let e : drop at s ≡ [] = drop_of_length-le s {i = at} g in record { part = rw e; inside = h }
