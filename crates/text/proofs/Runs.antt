-- Laws of runs of bytes that do not pass a test.
use Prim.Native.Nat.{ℕ, zero, suc, ◌+◌, ◌-◌, ◌≤◌, ◌<◌}
use mathlib.Core.Path.{◌≡◌, refl, ap, sym, subst, ◌∙◌}
use mathlib.Core.List.{[], ◌∷◌, ◌++◌}
use mathlib.Core.Bool.{Bool, true, false, not}
use native.Mathlib.Numerals.{add-one}
use native.Mathlib.Omega.{arith}
use lib.ListN.{length, get_or, take, drop, length-drop, drop_of_length-le}
use lib.Seq.{drop-cons, drop-drop, get_or-drop}
use lib.Dec.{ltb}
use borrow.Author.Tests.{not-true, lt-ltb, le-ltb, ltb-true, ltb-false}
use Rattle.text.specs.Text.{Text, until, some_byte}
use Rattle.text.specs.Runs.{free, next_at}
use Rattle.text.proofs.Compare.{by, and_left, and_right}

pub until_length : (p : ℕ → Bool) (t : Text) → length (until p t) ≤ length t
unfolding until
until_length p [] = omega arith
until_length p (c ∷ t) = by (p c) (λ e. rw e (omega arith)) (λ e. rw e (omega (arith, until_length p t)))

-- The run, and what stands behind it.
pub until_split : (p : ℕ → Bool) (t : Text) → t ≡ until p t ++ drop (length (until p t)) t
unfolding until
until_split p [] = refl
until_split p (c ∷ t) = by (p c) (λ e. rw e) (λ e. rw e (ap (λ (l : Text). c ∷ l) (until_split p t)))

pub until_take : (p : ℕ → Bool) (t : Text) → take (length (until p t)) t ≡ until p t
unfolding until
until_take p [] = refl
until_take p (c ∷ t) = by (p c) (λ e. rw e) (λ e. rw e (ap (λ (l : Text). c ∷ l) (until_take p t)))

pub until_free : (p : ℕ → Bool) (t : Text) → some_byte p (until p t) ≡ false
unfolding until some_byte
until_free p [] = refl
until_free p (c ∷ t) = by (p c) (λ e. rw e) (λ e. rw (e, e) (until_free p t))

pub until_some : (p : ℕ → Bool) (t : Text) → some_byte p t ≡ ltb (length (until p t)) (length t)
unfolding until some_byte
until_some p [] = refl
until_some p (c ∷ t) = by (p c) (λ e. rw e (sym (lt-ltb 0 (suc (length t)) (omega arith)))) (λ e. rw e (until_some p t ∙ sym (shift (length (until p t)) (length t))))
  where
    shift : (a b : ℕ) → ltb (suc a) (suc b) ≡ ltb a b
    shift a b = by (ltb a b) (λ e. rw e (lt-ltb (suc a) (suc b) (omega (arith, ltb-true a b e)))) (λ e. rw e (le-ltb (suc a) (suc b) (omega (arith, ltb-false a b e))))

until_stop : (p : ℕ → Bool) (t : Text) → length (until p t) < length t → p (get_or t (length (until p t)) 0) ≡ true
unfolding until
until_stop p [] h = absurd (omega arith)
until_stop p (c ∷ t) h = by (p c) (λ e. rw e e) (λ e. rw e (until_stop p t (let g = rw e at h in omega (arith, g))))

module _ (p : ℕ → Bool) (s : Text) (i : ℕ) where
  pub next_here : i < length s → p (get_or s i 0) ≡ true → next_at p s i ≡ i
  unfolding until next_at
  next_here h e = rw (drop-cons s i 0 h, e) (omega arith)

  pub next_more : i < length s → p (get_or s i 0) ≡ false → next_at p s i ≡ next_at p s (i + 1)
  unfolding until next_at
  next_more h e = rw (add-one i, drop-cons s i 0 h, e) (omega arith)

  pub next_end : length s ≤ i → next_at p s i ≡ i
  unfolding until next_at
  next_end h = rw (drop_of_length-le s {i = i} h) (omega arith)

  -- The bytes up to the next one that passes the test.
  module _ (k : ℕ) (e : k ≡ next_at p s i) where
    pub next_part : take (k - i) (drop i s) ≡ until p (drop i s)
    unfolding next_at
    next_part = let z : k - i ≡ length (until p (drop i s)) = omega (arith, e) in rw z (until_take p (drop i s))

    pub next_split : drop i s ≡ take (k - i) (drop i s) ++ drop k s
    unfolding next_at
    next_split = until_split p (drop i s) ∙ rw (next_part, drop-drop (length (until p (drop i s))) i s, e)

    -- It passes the test.
    pub next_stop : k < length s → p (get_or s k 0) ≡ true
    unfolding next_at
    next_stop h =
        let z : i + length (until p (drop i s)) ≡ k = sym e in
        let f = until_stop p (drop i s) (omega (arith, e, length-drop i s)) in
        rw (get_or-drop i s (length (until p (drop i s))) 0, z) at f

    pub next_free : some_byte p (take (k - i) (drop i s)) ≡ false
    next_free = rw next_part (until_free p (drop i s))

-- A block of bytes that do not pass the test.
pub free_run : (p : ℕ → Bool) (s : Text) (i n : ℕ) → i + n ≤ length s → free p s i n ≡ true → next_at p s i ≡ next_at p s (i + n)
free_run p s i zero h e = ap (λ (k : ℕ). next_at p s k) (let z : i ≡ i + 0 = omega arith in z)
free_run p s i (suc n) h e =
    free_run p s i n (omega arith) (and_left (free p s i n) (not (p (get_or s (i + n) 0))) e)
    ∙ (next_more p s (i + n) (omega arith) (not-true (p (get_or s (i + n) 0)) (and_right (free p s i n) (not (p (get_or s (i + n) 0))) e))
    ∙ ap (λ (k : ℕ). next_at p s k) (let z : i + n + 1 ≡ i + suc n = omega arith in z))

-- What each byte that does not pass the test hands on holds at the next one that does.
module _ (p : ℕ → Bool) (s : Text) (P : ℕ → Type 0) (step : (j : ℕ) → j < length s → p (get_or s j 0) ≡ false → P j → P (j + 1)) where
  walk : (n i : ℕ) → n ≡ length s - i → i ≤ length s → P i → P (next_at p s i)
  walk zero i e h x = subst P (sym (next_end p s i (omega arith))) x
  walk (suc n) i e h x =
      by (p (get_or s i 0)) (λ t. subst P (sym (next_here p s i (omega arith) t)) x)
      (λ f. subst P (sym (next_more p s i (omega arith) f)) (walk n (i + 1) (omega arith) (omega arith) (step i (omega arith) f x)))

  pub next_walk : (i k : ℕ) → i ≤ length s → k ≡ next_at p s i → P i → P k
  next_walk i k h e x = subst P (sym e) (walk (length s - i) i refl h x)
