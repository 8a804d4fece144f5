-- Laws of places in a text, and of windows of a buffer.
use Prim.Native.Nat.{ℕ, zero, suc, ◌+◌, ◌-◌, ◌≤◌, ◌<◌}
use mathlib.Core.Path.{◌≡◌, refl, ap, sym, subst, ◌∙◌}
use mathlib.Core.List.{[], ◌∷◌, append-nil, append_assoc}
use mathlib.Core.Bool.{Bool, true, false, not, ◌||◌}
use native.Mathlib.Numerals.{add-one}
use native.Mathlib.Nat.{add-zero}
use native.Mathlib.Omega.{arith}
use lib.ListN.{length, get_or, take, drop, set, length-drop, length-set, get_or-eq_default}
use lib.Seq.{drop-cons, take-suc, drop-drop, get_or-drop, get_or-take, length-take-le, take-suc-set, drop-set-lt}
use lib.Dec.{eqb}
use borrow.Author.Tests.{ne_eqb, eqb-true, eqb-false}
use Rattle.text.specs.Text.{Text, cond, is, until, from, some_byte}
use Rattle.text.proofs.Compare.{by}
use Rattle.iri.specs.Dots.{without_last_segment}
use Rattle.iri.specs.Resolve.{up_to_last_slash}
use Rattle.iri.specs.Code.{before, slash_end, window, Moved}

pub window_length : (l : Text) (at end : ℕ) → end ≤ length l → length (window l at end) ≡ end - at
window_length l at end h = length-drop at (take end l) ∙ ap (λ (n : ℕ). n - at) (length-take-le end l h)

pub window_get : (l : Text) (at end k : ℕ) → at + k < end → get_or l (at + k) 0 ≡ get_or (window l at end) k 0
window_get l at end k h = sym (get_or-drop at (take end l) k 0 ∙ get_or-take end l (at + k) 0 h)

pub window_past : (l : Text) (at end k : ℕ) → end ≤ length l → end - at ≤ k → 0 ≡ get_or (window l at end) k 0
window_past l at end k h g = sym (get_or-eq_default (window l at end) 0 (omega (arith, window_length l at end h)))

pub window_drop : (l : Text) (at end n : ℕ) → drop n (window l at end) ≡ window l (at + n) end
window_drop l at end n = drop-drop n at (take end l)

-- a window of one byte
pub window_one : (l : Text) (at : ℕ) → at < length l → window l at (at + 1) ≡ get_or l at 0 ∷ []
window_one l at h =
    let e : length (take (at + 1) l) ≡ at + 1 = length-take-le (at + 1) l (omega arith) in
    let n : drop (suc at) (take (at + 1) l) ≡ [] = subst (λ (k : ℕ). drop k (take (at + 1) l) ≡ []) (e ∙ add-one at) (lib.Seq.drop-length (take (at + 1) l)) in
    drop-cons (take (at + 1) l) at 0 (omega arith) ∙ rw (n, get_or-take (at + 1) l at 0 (omega arith))

-- what stands up to a slash
pub slash_end_take : (l : Text) (w n : ℕ) → n ≤ w → slash_end (take w l) n ≡ slash_end l n
unfolding slash_end
slash_end_take l w zero h = refl
slash_end_take l w (suc n) h = rw (get_or-take w l n 0 (omega arith), slash_end_take l w n (omega arith))

pub slash_end_most : (l : Text) (n : ℕ) → slash_end l n ≤ n
unfolding slash_end
slash_end_most l zero = omega arith
slash_end_most l (suc n) = by (eqb (get_or l n 0) 47) (λ e. rw e (omega arith)) (λ e. rw e (omega (arith, slash_end_most l n)))

pub before_most : (f : ℕ → Bool) (s : Text) → before f s ≤ length s
unfolding before
before_most f [] = omega arith
before_most f (b ∷ s) = by (f b) (λ e. rw e (omega arith)) (λ e. rw e (omega (arith, before_most f s)))

-- one byte further in a search
pub before_more : (f : ℕ → Bool) (s : Text) (i : ℕ) → i < length s → f (get_or s i 0) ≡ false → before f (drop i s) ≡ before f (drop (i + 1) s) + 1
unfolding before
before_more f s i h e = rw (add-one i, drop-cons s i 0 h, e, add-one)

pub before_here : (f : ℕ → Bool) (s : Text) (i : ℕ) → i < length s → f (get_or s i 0) ≡ true → before f (drop i s) ≡ 0
unfolding before
before_here f s i h e = rw (drop-cons s i 0 h, e)

pub before_end : (f : ℕ → Bool) (s : Text) (i : ℕ) → length s ≤ i → before f (drop i s) ≡ 0
unfolding before
before_end f s i h = rw (lib.ListN.drop_of_length-le s h)

-- nothing moved yet
pub moved_none : (x : Text) (at w : ℕ) → at ≤ length x → Moved x x at w 0
moved_none x at w h = record {
  size = refl;
  front = rw (add-zero w) (sym (append-nil (take w x)));
  back = refl;
  fits = omega arith;
}

by_drop : (a b : Text) (i : ℕ) → drop i a ≡ drop i b → get_or a i 0 ≡ get_or b i 0
by_drop a b i e =
    subst (λ (k : ℕ). get_or a k 0 ≡ get_or b k 0) (add-zero i)
    (sym (get_or-drop i a 0 0) ∙ ap (λ (l : Text). get_or l 0 0) e ∙ get_or-drop i b 0 0)

-- what is next to move has not changed
pub moved_next : (x y : Text) (at end w n : ℕ) → Moved x y at w n → at + n < end → get_or y (at + n) 0 ≡ get_or (window x at end) n 0
moved_next x y at end w n m h = by_drop y x (at + n) m.back ∙ window_get x at end n h

-- one byte more
pub moved_more : (x y : Text) (at w n : ℕ) → Moved x y at w n → w ≤ at → at + n < length x
    → Moved x (set y (w + n) (get_or y (at + n) 0)) at w (n + 1)
moved_more x y at w n m h g =
    let size : length y ≡ length x = m.size in
    let same : get_or y (at + n) 0 ≡ get_or (drop at x) n 0 = by_drop y x (at + n) m.back ∙ sym (get_or-drop at x n 0) in
    let long : length (drop at x) ≡ length x - at = length-drop at x in
    record {
      size = length-set y (w + n) _ ∙ size;
      front =
          let k : w + (n + 1) ≡ suc (w + n) = omega arith in
          rw (k, take-suc-set y (w + n) (get_or y (at + n) 0) (omega arith), m.front, add-one n, take-suc (drop at x) n 0 (omega arith), same)
          (append_assoc (take w x) (take n (drop at x)) _);
      back =
          let k : at + (n + 1) ≡ at + n + 1 = omega arith in
          drop-set-lt (at + (n + 1)) y (w + n) _ (omega arith)
          ∙ rw (k, ← drop-drop 1 (at + n) y, ← drop-drop 1 (at + n) x, m.back);
      fits = omega arith;
    }

pub cut_here : (l : Text) (n : ℕ) → get_or l n 0 ≡ 47 → slash_end l (n + 1) ≡ n + 1
unfolding slash_end
cut_here l n e = rw (add-one, e)

pub cut_on : (l : Text) (n : ℕ) → (get_or l n 0 ≡ 47 → ⊥) → slash_end l (n + 1) ≡ slash_end l n
unfolding slash_end
cut_on l n e = rw (add-one, ne_eqb (get_or l n 0) 47 e)

-- The definitions cut texts at a test; the code cuts them at a place.
pub until_take : (p : ℕ → Bool) (s : Text) → until p s ≡ take (before p s) s
unfolding until before
until_take p [] = refl
until_take p (c ∷ s) = by (p c) (λ e. rw e) (λ e. rw e (ap (λ (l : Text). c ∷ l) (until_take p s)))

pub from_drop : (p : ℕ → Bool) (s : Text) → from p s ≡ drop (before p s) s
unfolding from before
from_drop p [] = refl
from_drop p (c ∷ s) = by (p c) (λ e. rw e) (λ e. rw e (from_drop p s))

-- The right-most slash, seen from the front.
slash_cons : (c : ℕ) (s : Text) (n : ℕ) → slash_end (c ∷ s) (suc n) ≡ cond (eqb (slash_end s n) 0) (cond (eqb c 47) 1 0) (suc (slash_end s n))
unfolding slash_end
slash_cons c s zero = refl
slash_cons c s (suc n) = by (eqb (get_or s n 0) 47) (λ e. rw (e, ne_eqb (suc n) 0 (λ q. omega arith))) (λ e. rw e (slash_cons c s n))

some_slash : (s : Text) → some_byte (is "/") s ≡ not (eqb (slash_end s (length s)) 0)
unfolding some_byte slash_end
some_slash [] = refl
some_slash (c ∷ s) =
    rw (slash_cons c s (length s), some_slash s)
    (by (eqb (slash_end s (length s)) 0) (λ e. rw e (by (eqb c 47) (λ f. rw f) (λ f. rw f))) (λ e. rw (e, ne_eqb (suc (slash_end s (length s))) 0 (λ q. omega arith)) (or_true (eqb c 47))))
  where
    or_true : (b : Bool) → (b || true) ≡ true
    or_true true = refl
    or_true false = refl

pub without_last_is : (s : Text) → without_last_segment s ≡ take (slash_end s (length s) - 1) s
unfolding without_last_segment slash_end
without_last_is [] = refl
without_last_is (c ∷ s) =
    rw (slash_cons c s (length s), some_slash s)
    (by (eqb (slash_end s (length s)) 0) (λ e. rw e (by (eqb c 47) (λ f. rw f) (λ f. rw f))) (λ e. rw e (more (slash_end s (length s)) (eqb-false (slash_end s (length s)) 0 e) (without_last_is s))))
  where
    more : (k : ℕ) → (k ≡ 0 → ⊥) → without_last_segment s ≡ take (k - 1) s → c ∷ without_last_segment s ≡ take (suc k - 1) (c ∷ s)
    more zero h e = absurd (h refl)
    more (suc k) h e = let m : suc k - 1 ≡ k = omega arith in let n : suc (suc k) - 1 ≡ suc k = omega arith in rw (e, m, n)

pub up_to_last_is : (s : Text) → up_to_last_slash s ≡ take (slash_end s (length s)) s
unfolding up_to_last_slash slash_end
up_to_last_is [] = refl
up_to_last_is (c ∷ s) =
    rw (some_slash (c ∷ s), slash_cons c s (length s), up_to_last_is s)
    (by (eqb (slash_end s (length s)) 0) (λ e. rw e (by (eqb c 47) (λ f. rw (f, eqb-true (slash_end s (length s)) 0 e)) (λ f. rw f))) (λ e. rw (e, ne_eqb (suc (slash_end s (length s))) 0 (λ q. omega arith))))
