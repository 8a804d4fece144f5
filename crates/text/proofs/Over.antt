-- Laws of writing a text over the front of a slice.
use Prim.Native.Nat.{ℕ, zero, suc, ◌+◌, ◌-◌, ◌≤◌, ◌<◌}
use mathlib.Core.Path.{◌≡◌, refl, ap, sym, ◌∙◌}
use mathlib.Core.List.{[], ◌∷◌, ◌++◌, append-nil}
use native.Mathlib.Numerals.{add-one}
use native.Mathlib.Nat.{zero-add, suc-add}
use native.Mathlib.Omega.{arith}
use lib.ListN.{length, get_or, take, drop, set, length-drop, drop_of_length-le}
use lib.Seq.{take-nil, take_all, take-append_seam, get_or-drop}
use Rattle.text.specs.Text.{Text}
use Rattle.text.specs.Slice.{over, over_at}

pub over_nothing : (s : Text) → over s [] ≡ []
unfolding over
over_nothing [] = refl
over_nothing (a ∷ s) = refl

pub over_length : (s x : Text) → length (over s x) ≡ length x
unfolding over
over_length [] x = refl
over_length (a ∷ s) [] = refl
over_length (a ∷ s) (b ∷ x) = ap suc (over_length s x)

-- Where there is room, the text is followed by what stood behind it.
pub over_fits : (s x : Text) → length s ≤ length x → over s x ≡ s ++ drop (length s) x
unfolding over
over_fits [] x h = refl
over_fits (a ∷ s) [] h = absurd (omega arith)
over_fits (a ∷ s) (b ∷ x) h = ap (λ (l : Text). a ∷ l) (over_fits s x (omega arith))

-- One byte more is written.
pub over_more : (s x : Text) (i : ℕ) → i < length s → over (take (suc i) s) x ≡ set (over (take i s) x) i (get_or s i 0)
unfolding over
over_more [] x i h = absurd (omega arith)
over_more (a ∷ s) [] zero h = refl
over_more (a ∷ s) [] (suc i) h = refl
over_more (a ∷ s) (b ∷ x) zero h = refl
over_more (a ∷ s) (b ∷ x) (suc i) h = ap (λ (l : Text). a ∷ l) (over_more s x i (omega arith))

-- One text after another.
pub over_append : (s t x : Text) → over (s ++ t) x ≡ over_at (length s) t (over s x)
unfolding over over_at
over_append [] t x = refl
over_append (a ∷ s) t [] = sym (over_nothing t)
over_append (a ∷ s) t (b ∷ x) = ap (λ (l : Text). a ∷ l) (over_append s t x)

pub over_at_length : (at : ℕ) (s x : Text) → length (over_at at s x) ≡ length x
unfolding over_at
over_at_length zero s x = over_length s x
over_at_length (suc at) s [] = ap length (over_nothing s)
over_at_length (suc at) s (b ∷ x) = ap suc (over_at_length at s x)

pub over_at_none : (at : ℕ) (x : Text) → over_at at [] x ≡ x
unfolding over_at over
over_at_none zero x = refl
over_at_none (suc at) [] = refl
over_at_none (suc at) (b ∷ x) = ap (λ (l : Text). b ∷ l) (over_at_none at x)

pub over_at_more : (at : ℕ) (s x : Text) (i : ℕ) → i < length s → over_at at (take (suc i) s) x ≡ set (over_at at (take i s) x) (at + i) (get_or s i 0)
unfolding over_at
over_at_more zero s x i h = over_more s x i h ∙ ap (λ (k : ℕ). set (over (take i s) x) k (get_or s i 0)) (sym (zero-add i))
over_at_more (suc at) s [] i h = over_nothing (take (suc i) s) ∙ sym (ap (λ (l : Text). set l (suc at + i) (get_or s i 0)) (over_nothing (take i s)))
over_at_more (suc at) s (b ∷ x) i h = rw (suc-add at i) (ap (λ (l : Text). b ∷ l) (over_at_more at s x i h))

-- Past the slice's end nothing more is written.
pub over_enough : (s x : Text) (i : ℕ) → length x ≤ i → over (take i s) x ≡ over s x
unfolding over
over_enough [] x i h = ap (λ (l : Text). over l x) (take-nil i)
over_enough (a ∷ s) [] zero h = refl
over_enough (a ∷ s) (b ∷ x) zero h = absurd (omega arith)
over_enough (a ∷ s) [] (suc i) h = refl
over_enough (a ∷ s) (b ∷ x) (suc i) h = ap (λ (l : Text). a ∷ l) (over_enough s x i (omega arith))

-- A loop that writes a text byte by byte: its start, its turn and its end.
pub over_start : (x : Text) → x ≡ over [] x
unfolding over
over_start x = refl

pub over_next : (s x y : Text) (i : ℕ) → i < length s → y ≡ over (take i s) x → set y i (get_or s i 0) ≡ over (take (i + 1) s) x
over_next s x y i h e = rw (e, add-one i) (sym (over_more s x i h))

pub over_whole : (s x : Text) (i : ℕ) → length s ≤ i → over (take i s) x ≡ over s x
over_whole s x i h = rw (take_all i s h)

-- The same from a place on.
pub over_at_start : (at : ℕ) (s x : Text) → x ≡ over_at at (take 0 s) x
over_at_start at s x = sym (over_at_none at x)

pub over_at_next : (at : ℕ) (s x y : Text) (i v : ℕ) → i < length s → v ≡ get_or s i 0 → y ≡ over_at at (take i s) x → set y (at + i) v ≡ over_at at (take (i + 1) s) x
over_at_next at s x y i v h f e = rw (e, add-one i, f) (sym (over_at_more at s x i h))

pub over_at_whole : (at : ℕ) (s x : Text) (i : ℕ) → length s ≤ i → over_at at (take i s) x ≡ over_at at s x
over_at_whole at s x i h = rw (take_all i s h)

pub over_at_enough : (at : ℕ) (s x : Text) (i : ℕ) → length x ≤ at + i → over_at at (take i s) x ≡ over_at at s x
unfolding over_at
over_at_enough at s x i h = rw (over_enough s (drop at x) i (omega (arith, length-drop at x)))

-- What stands in front of the place where a text was written, the text, and what stands behind it.
pub over_front : (s x : Text) → length s ≤ length x → take (length s) (over s x) ≡ s
over_front s x h = rw (over_fits s x h) (take-append_seam s (drop (length s) x))

pub over_back : (s x : Text) (n : ℕ) → length s ≤ n → drop n (over s x) ≡ drop n x
unfolding over
over_back [] x n h = refl
over_back (a ∷ s) [] n h = refl
over_back (a ∷ s) (b ∷ x) zero h = absurd (omega arith)
over_back (a ∷ s) (b ∷ x) (suc n) h = over_back s x n (omega arith)

pub over_at_front : (at : ℕ) (s x : Text) → at + length s ≤ length x → take (at + length s) (over_at at s x) ≡ take at x ++ s
unfolding over_at
over_at_front zero s x h = rw (zero-add (length s)) (over_front s x (omega arith))
over_at_front (suc at) s [] h = absurd (omega arith)
over_at_front (suc at) s (b ∷ x) h = rw (suc-add at (length s)) (ap (λ (l : Text). b ∷ l) (over_at_front at s x (omega arith)))

pub over_at_back : (at : ℕ) (s x : Text) (n : ℕ) → at + length s ≤ n → drop n (over_at at s x) ≡ drop n x
unfolding over_at
over_at_back zero s x n h = over_back s x n (omega arith)
over_at_back (suc at) s [] n h = rw (over_nothing s)
over_at_back (suc at) s (b ∷ x) zero h = absurd (omega arith)
over_at_back (suc at) s (b ∷ x) (suc n) h = over_at_back at s x n (omega arith)

-- A place behind what was written has not changed.
pub over_at_later : (at : ℕ) (s x : Text) (k : ℕ) → at + length s ≤ k → get_or (over_at at s x) k 0 ≡ get_or x k 0
over_at_later at s x k h =
    let e : get_or (drop k (over_at at s x)) 0 0 ≡ get_or (drop k x) 0 0 = ap (λ (l : Text). get_or l 0 0) (over_at_back at s x k h) in
    let z : k + 0 ≡ k = omega arith in
    rw (get_or-drop k (over_at at s x) 0 0, get_or-drop k x 0 0, z) at e

-- A front that ends before the place where a text was written.
pub over_at_before : (at : ℕ) (s x : Text) (n : ℕ) → n ≤ at → take n (over_at at s x) ≡ take n x
unfolding over_at
over_at_before at s x zero h = refl
over_at_before zero s x (suc n) h = absurd (omega arith)
over_at_before (suc at) s [] (suc n) h = rw (over_nothing s)
over_at_before (suc at) s (b ∷ x) (suc n) h = ap (λ (l : Text). b ∷ l) (over_at_before at s x n (omega arith))

pub over_at_from : (at : ℕ) (s x : Text) → drop at (over_at at s x) ≡ over s (drop at x)
unfolding over_at
over_at_from zero s x = refl
over_at_from (suc at) s [] = rw (over_nothing s)
over_at_from (suc at) s (b ∷ x) = over_at_from at s x

-- The rest of a slice from a place on.
pub rest_all : (x : Text) (n : ℕ) → take (length x - n) (drop n x) ≡ drop n x
rest_all x n = take_all (length x - n) (drop n x) (omega (arith, length-drop n x))

-- A text written over the front of a part is written over the whole at the part's start.
pub over_part : (at : ℕ) (s x y : Text) (k : ℕ) → k ≡ length x - at → y ≡ over s (take k (drop at x)) → take at x ++ (y ++ drop k (drop at x)) ≡ over_at at s x
unfolding over_at
over_part at s x y k e f =
    let whole : take k (drop at x) ≡ drop at x = take_all k (drop at x) (omega (arith, length-drop at x)) in
    let gone : drop k (drop at x) ≡ [] = drop_of_length-le (drop at x) {i = k} (omega (arith, length-drop at x)) in
    rw (f, whole, gone, append-nil)

-- Behind the end of a slice nothing is written.
pub over_at_past : (at : ℕ) (s x : Text) → length x ≤ at → over_at at s x ≡ x
unfolding over_at
over_at_past zero s [] h = over_nothing s
over_at_past zero s (b ∷ x) h = absurd (omega arith)
over_at_past (suc at) s [] h = over_nothing s
over_at_past (suc at) s (b ∷ x) h = ap (λ (l : Text). b ∷ l) (over_at_past at s x (omega arith))

-- A text in two parts is written in two.
pub over_at_append : (at : ℕ) (s t x : Text) → over_at at (s ++ t) x ≡ over_at (at + length s) t (over_at at s x)
unfolding over_at
over_at_append zero s t x = rw (zero-add (length s)) (over_append s t x)
over_at_append (suc at) s t [] = over_nothing (s ++ t) ∙ sym (rw (over_nothing s, suc-add at (length s)) (over_nothing t))
over_at_append (suc at) s t (b ∷ x) = rw (suc-add at (length s)) (ap (λ (l : Text). b ∷ l) (over_at_append at s t x))
