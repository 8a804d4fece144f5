-- Which bytes a scheme has, and where it ends.
use Prim.Native.Nat.{ℕ, zero, suc, ◌+◌, ◌≤◌, ◌<◌}
use mathlib.Core.Path.{◌≡◌, refl, sym, ◌∙◌}
use mathlib.Core.List.{[], ◌∷◌, ◌++◌, append_assoc}
use native.Mathlib.Numerals.{add-one}
use mathlib.Core.Bool.{Bool, true, false, not, ◌&&◌}
use native.Mathlib.Omega.{arith}
use lib.ListN.{length, get_or, take, drop, drop_of_length-le}
use lib.Seq.{take-suc, drop-drop}
use lib.Dec.{eqb, ltb}
use borrow.Author.Tests.{eqb-true, ltb-true, ltb-false}
use Rattle.text.specs.Text.{Text, is}
use Rattle.text.proofs.Compare.{by, contrary, and_right, and_false}
use Rattle.iri.specs.Iri.{letter, scheme_byte, first_is, has_scheme, scheme, after_scheme}
use Rattle.iri.specs.Code.{before, stop, scheme_end}
use Rattle.iri.specs.declared.Part.{Part}
use Rattle.iri.specs.declared.Part.TheVariants.{Scheme, Colon}
use Rattle.iri.proofs.Places.{until_take, from_drop}

-- What ends a part.
pub stop_as : {p k : Part} (c : ℕ) {r : Bool} → p ≡ k → r ≡ stop k c → r ≡ stop p c
stop_as c e f = f ∙ rw e

first_at : (p : ℕ → Bool) (s : Text) (n : ℕ) → n < length s → first_is p (drop n s) ≡ p (get_or s n 0)
first_at p [] n h = absurd (omega arith)
first_at p (c ∷ s) zero h = refl
first_at p (c ∷ s) (suc n) h = first_at p s n (omega arith)

first_past : (p : ℕ → Bool) (s : Text) (n : ℕ) → length s ≤ n → first_is p (drop n s) ≡ false
first_past p s n h = rw (drop_of_length-le s {i = n} h)

-- A scheme by the place where its bytes end.
by_place : (s : Text) → has_scheme s ≡ (first_is letter s && first_is (is ":") (drop (before (stop Scheme) s) s))
unfolding has_scheme stop
by_place s = rw (from_drop (λ c. not (scheme_byte c)) s)

module _ (s : Text) where
  pub no_scheme_empty : length s ≡ 0 → false ≡ has_scheme s
  no_scheme_empty h = sym (by_place s ∙ rw (first_past letter s 0 (omega arith)))

  pub no_scheme_letter : 0 < length s → letter (get_or s 0 0) ≡ false → false ≡ has_scheme s
  no_scheme_letter h e = sym (by_place s ∙ rw (first_at letter s 0 h, e))

  module _ (n : ℕ) (en : n ≡ 0 + before (stop Scheme) (drop 0 s)) where
    pub no_scheme_end : length s ≤ n → false ≡ has_scheme s
    no_scheme_end h = sym (by_place s ∙ rw (first_past (is ":") s (before (stop Scheme) s) (omega arith), and_false))

    pub scheme_there : n < length s → letter (get_or s 0 0) ≡ true → eqb (get_or s n 0) 58 ≡ has_scheme s
    scheme_there h e =
        let k : n ≡ before (stop Scheme) s = omega arith in
        sym (by_place s ∙ rw (first_at letter s 0 (omega arith), e, first_at (is ":") s (before (stop Scheme) s) (omega arith), ← k))

before_at_most : (p : ℕ → Bool) (s : Text) (n : ℕ) → n < length s → p (get_or s n 0) ≡ true → before p s ≤ n
unfolding before
before_at_most p [] n h e = absurd (omega arith)
before_at_most p (c ∷ s) zero h e = rw e (omega arith)
before_at_most p (c ∷ s) (suc n) h e = by (p c) (λ f. rw f (omega arith)) (λ f. rw f (omega (arith, before_at_most p s n (omega arith) e)))

at_before : (p : ℕ → Bool) (s : Text) → before p s < length s → p (get_or s (before p s) 0) ≡ true
unfolding before
at_before p [] h = absurd (omega arith)
at_before p (c ∷ s) h =
    by (p c) (λ f. rw (f) f) (λ f. rw f (at_before p s (small f)))
  where
    small : p c ≡ false → before p s < length s
    small f = omega (arith, rw f at h)

-- A text with a scheme has a colon.
pub has_colon : (s : Text) → has_scheme s ≡ true → before (stop Colon) s < length s
unfolding stop
has_colon s e =
    let n : ℕ = before (stop Scheme) s in
    let c : first_is (is ":") (drop n s) ≡ true = and_right (first_is letter s) _ (sym (by_place s) ∙ e) in
    by (ltb n (length s)) (λ h. let l : n < length s = ltb-true n (length s) h in omega (arith, before_at_most (stop Colon) s n l (sym (first_at (is ":") s n l) ∙ c)))
    (λ h. contrary (sym c ∙ first_past (is ":") s n (ltb-false n (length s) h)))

-- The scheme and its colon are a front of the text; what follows is the rest.
module _ (s : Text) (h : before (stop Colon) s < length s) where
  pub scheme_fits : scheme_end s ≤ length s
  unfolding scheme_end
  scheme_fits = omega arith

  pub scheme_front : (r : Text) → scheme s ++ (58 ∷ r) ≡ take (scheme_end s) s ++ r
  unfolding scheme scheme_end stop
  scheme_front r =
      let n : ℕ = before (stop Colon) s in
      let c : get_or s n 0 ≡ 58 = eqb-true (get_or s n 0) 58 (at_before (stop Colon) s h) in
      rw (until_take (is ":") s, add-one, take-suc s n 0 h, c) (sym (append_assoc (take n s) (58 ∷ []) r))

  pub scheme_rest : after_scheme s ≡ drop (scheme_end s) s
  unfolding after_scheme scheme_end stop
  scheme_rest = rw (from_drop (is ":") s) (drop-drop 1 (before (stop Colon) s) s)
