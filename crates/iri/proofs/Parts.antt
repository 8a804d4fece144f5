-- Where the parts of a text end.
use Prim.Native.Nat.{ℕ, ◌+◌, ◌-◌, ◌≤◌, ◌<◌}
use mathlib.Core.Path.{◌≡◌, refl, ap, sym, ◌∙◌}
use mathlib.Core.List.{[], ◌∷◌, ◌++◌}
use mathlib.Core.Bool.{true, false, ◌&&◌}
use native.Mathlib.Nat.{add-zero}
use native.Mathlib.Omega.{arith}
use lib.ListN.{length, get_or, take, drop, length-drop}
use lib.Seq.{drop-drop, get_or-drop, take-add}
use lib.Dec.{eqb}
use borrow.Author.Tests.{ne_eqb, eqb-true}
use Rattle.text.specs.Text.{Text, ascii, is, one_of, begins, until, from}
use Rattle.text.proofs.Compare.{by, contrary, and_left, and_right, begins_length}
use Rattle.iri.specs.Resolve.{Parts, parts, authority_of, after_authority}
use Rattle.iri.specs.Code.{before, stop, authority_length, path_end, query_end, ends_of}
use Rattle.iri.specs.declared.Ends.{Ends}
use Rattle.iri.specs.declared.Part.TheVariants.{Authority, Path, Query}
use Rattle.iri.proofs.Places.{before_most, until_take, from_drop}

-- two slashes in front
two_by : (s : Text) → begins (ascii "//") s ≡ (eqb 47 (get_or s 0 0) && (eqb 47 (get_or s 1 0) && true))
unfolding begins
two_by [] = refl
two_by (a ∷ []) = by (eqb 47 a) (λ e. rw e) (λ e. rw e)
two_by (a ∷ b ∷ s) = refl

at_zero : (s : Text) (from : ℕ) → get_or (drop from s) 0 0 ≡ get_or s from 0
at_zero s from = get_or-drop from s 0 0 ∙ ap (λ (i : ℕ). get_or s i 0) (add-zero from)

module _ (s : Text) (from : ℕ) where
  pub authority_short : length s - from < 2 → from ≡ from + authority_length (drop from s)
  unfolding authority_length
  authority_short h =
      let e : begins (ascii "//") (drop from s) ≡ false = by (begins (ascii "//") (drop from s)) (λ t. absurd (omega (arith, begins_length _ _ t, length-drop from s))) (λ t. t) in
      rw e (omega arith)

  pub authority_one : (get_or s from 0 ≡ 47 → ⊥) → from ≡ from + authority_length (drop from s)
  unfolding authority_length
  authority_one h = rw (two_by (drop from s), at_zero s from, ne_eqb 47 _ (λ q. h (sym q))) (omega arith)

  pub authority_two : get_or s from 0 ≡ 47 → (get_or s (from + 1) 0 ≡ 47 → ⊥) → from ≡ from + authority_length (drop from s)
  unfolding authority_length
  authority_two g h = rw (two_by (drop from s), at_zero s from, get_or-drop from s 1 0, g, ne_eqb 47 _ (λ q. h (sym q))) (omega arith)

  pub authority_here : (r : ℕ) → get_or s from 0 ≡ 47 → get_or s (from + 1) 0 ≡ 47 → r ≡ from + 2 + before (stop Authority) (drop (from + 2) s) → r ≡ from + authority_length (drop from s)
  unfolding authority_length
  authority_here r g h e = rw (two_by (drop from s), at_zero s from, get_or-drop from s 1 0, g, h, drop-drop 2 from s) (omega arith)

pub authority_most : (s : Text) → authority_length s ≤ length s
unfolding authority_length
authority_most s = by (begins (ascii "//") s)
    (λ t. rw t (omega (arith, begins_length _ s t, before_most (stop Authority) (drop 2 s), length-drop 2 s)))
    (λ t. rw t (omega arith))

pub path_most : (s : Text) → path_end s ≤ length s
unfolding path_end
path_most s = omega (arith, authority_most s, before_most (stop Path) (drop (authority_length s) s), length-drop (authority_length s) s)

pub path_least : (s : Text) → authority_length s ≤ path_end s
unfolding path_end
path_least s = omega arith

pub query_most : (s : Text) → query_end s ≤ length s
unfolding query_end
query_most s = omega (arith, path_most s, before_most (stop Query) (drop (path_end s) s), length-drop (path_end s) s)

pub query_least : (s : Text) → path_end s ≤ query_end s
unfolding query_end
query_least s = omega arith

-- the ends from a scheme on
module _ (s : Text) (from a p q : ℕ) (ea : a ≡ from + authority_length (drop from s)) (ep : p ≡ a + before (stop Path) (drop a s)) (eq : q ≡ p + before (stop Query) (drop p s)) where
  path_at : p ≡ from + path_end (drop from s)
  unfolding path_end
  path_at = ep ∙ rw (ea, drop-drop (authority_length (drop from s)) from s) (omega arith)

  query_at : q ≡ from + query_end (drop from s)
  unfolding query_end
  query_at = eq ∙ rw (path_at, drop-drop (path_end (drop from s)) from s) (omega arith)

  pub ends_are : ◌≡◌ {A = Ends} (record { authority = a; path = p; query = q }) (ends_of s from)
  unfolding ends_of
  ends_are = rw (← ea, ← path_at, ← query_at)

-- The parts of a text by where they end.
unfoldable pub split : Text → Parts
split s = record {
  authority = take (authority_length s) s;
  path = take (path_end s - authority_length s) (drop (authority_length s) s);
  query = take (query_end s - path_end s) (drop (path_end s) s);
  fragment = drop (query_end s) s;
}

two_slashes : (s r : Text) → begins (ascii "//") s ≡ true → (n : ℕ) → ascii "//" ++ take n (drop 2 s) ≡ take (2 + n) s
unfolding begins
two_slashes s r e n = slashes s e ∙ sym (take-add 2 n s)
  where
    slashes : (s : Text) → begins (ascii "//") s ≡ true → ascii "//" ++ take n (drop 2 s) ≡ take 2 s ++ take n (drop 2 s)
    slashes [] e = contrary (sym e)
    slashes (a ∷ []) e = contrary (sym (and_right (eqb 47 a) false e))
    slashes (a ∷ b ∷ s) e =
        let x = eqb-true 47 a (and_left (eqb 47 a) _ e) in
        let y = eqb-true 47 b (and_left (eqb 47 b) true (and_right (eqb 47 a) _ e)) in
        rw (← x, ← y)

authority_is : (s : Text) → authority_of s ≡ take (authority_length s) s
unfolding authority_of authority_length stop
authority_is s =
    by (begins (ascii "//") s) (λ e. rw (e, until_take (one_of "/?#") (drop 2 s)) (two_slashes s [] e (before (one_of "/?#") (drop 2 s)))) (λ e. rw e)

after_authority_is : (s : Text) → after_authority s ≡ drop (authority_length s) s
unfolding after_authority authority_length stop
after_authority_is s =
    by (begins (ascii "//") s) (λ e. rw (e, from_drop (one_of "/?#") (drop 2 s)) (drop-drop (before (one_of "/?#") (drop 2 s)) 2 s)) (λ e. rw e)

path_length : (s : Text) → before (stop Path) (drop (authority_length s) s) ≡ path_end s - authority_length s
unfolding path_end
path_length s = omega arith

query_length : (s : Text) → before (stop Query) (drop (path_end s) s) ≡ query_end s - path_end s
unfolding query_end
query_length s = omega arith

after_path_is : (s : Text) → from (one_of "?#") (after_authority s) ≡ drop (path_end s) s
unfolding path_end stop
after_path_is s = rw (after_authority_is s, from_drop (one_of "?#") (drop (authority_length s) s)) (drop-drop (before (one_of "?#") (drop (authority_length s) s)) (authority_length s) s)

path_is : (s : Text) → until (one_of "?#") (after_authority s) ≡ take (path_end s - authority_length s) (drop (authority_length s) s)
unfolding stop
path_is s = rw (after_authority_is s, until_take (one_of "?#") (drop (authority_length s) s)) (ap (λ (n : ℕ). take n (drop (authority_length s) s)) (path_length s))

query_is : (s : Text) → until (is "#") (drop (path_end s) s) ≡ take (query_end s - path_end s) (drop (path_end s) s)
unfolding stop
query_is s = rw (until_take (is "#") (drop (path_end s) s)) (ap (λ (n : ℕ). take n (drop (path_end s) s)) (query_length s))

fragment_is : (s : Text) → from (is "#") (drop (path_end s) s) ≡ drop (query_end s) s
unfolding query_end stop
fragment_is s = rw (from_drop (is "#") (drop (path_end s) s)) (drop-drop (before (is "#") (drop (path_end s) s)) (path_end s) s)

pub parts_split : (s : Text) → parts s ≡ split s
unfolding parts split
parts_split s = rw (authority_is s, path_is s, after_path_is s, query_is s, fragment_is s)
