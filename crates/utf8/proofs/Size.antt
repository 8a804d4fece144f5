-- The size of a sequence is read off the leading ones of its first byte: by a test of the table for all bytes.
use mathlib.Core.Path.{◌≡◌, refl, sym, ap, ap₂, ◌∙◌}
use mathlib.Core.Bool.{Bool, true, false, ◌&&◌}
use mathlib.Core.List.{List, [], ◌∷◌}
use Prim.Native.Nat.{ℕ, zero, suc, ◌≤◌, ◌<◌}
use native.Mathlib.Omega.{arith}
use borrow.Author.Tests.{eq-eqb, ne_eqb, le-ltb, lt-ltb, lt-leb}
use lib.Dec.{T, eqb, ltb, eqb→eq, ltb→lt}
use lib.ListN.{length, get_or}
use lib.Count.{count_leading_zeros}
use Rattle.text.specs.Text.{Text, cond, between}
use Rattle.text.proofs.Compare.{and_false}
use Rattle.utf8.specs.Utf8.{Range, ◌–◌, tail, sequences, fits, first_fit, sequence_size}
use Rattle.utf8.specs.Code.{leading_ones, lead_size, second_low, second_high, sized}
use Rattle.utf8.proofs.Tests.{by, below, below_at, and_true}

-- ---- Equality of ranges, by computing

abbrev pub same_ranges : List Range → List Range → Bool
same_ranges [] [] = true
same_ranges [] (y ∷ ys) = false
same_ranges (x ∷ xs) [] = false
same_ranges ((a – b) ∷ xs) ((c – d) ∷ ys) = let r = same_ranges xs ys in eqb a c && eqb b d && r

pub same_ranges_eq : (x y : List Range) → T (same_ranges x y) → x ≡ y
same_ranges_eq [] [] t = refl
same_ranges_eq [] (y ∷ ys) t = absurd t
same_ranges_eq (x ∷ xs) [] t = absurd t
same_ranges_eq ((a – b) ∷ xs) ((c – d) ∷ ys) t =
    let v = and_true (eqb a c && eqb b d) (same_ranges xs ys) t in
    let w = and_true (eqb a c) (eqb b d) v.0 in
    ap₂ (λ (p : Range) (q : List Range). p ∷ q) (ap₂ ◌–◌ (eqb→eq a c w.0) (eqb→eq b d w.1)) (same_ranges_eq xs ys v.1)

abbrev same_rows : List (List Range) → List (List Range) → Bool
same_rows [] [] = true
same_rows [] (y ∷ ys) = false
same_rows (x ∷ xs) [] = false
same_rows (x ∷ xs) (y ∷ ys) = let r = same_rows xs ys in same_ranges x y && r

same_rows_eq : (x y : List (List Range)) → T (same_rows x y) → x ≡ y
same_rows_eq [] [] t = refl
same_rows_eq [] (y ∷ ys) t = absurd t
same_rows_eq (x ∷ xs) [] t = absurd t
same_rows_eq (x ∷ xs) (y ∷ ys) t =
    let v = and_true (same_ranges x y) (same_rows xs ys) t in
    ap₂ (λ (p : List Range) (q : List (List Range)). p ∷ q) (same_ranges_eq x y v.0) (same_rows_eq xs ys v.1)

-- ---- What may follow a first byte

-- The rows whose first range has b, without that range.
abbrev tails_at : ℕ → List (List Range) → List (List Range)
tails_at b [] = []
tails_at b ([] ∷ qs) = tails_at b qs
tails_at b (((lo – hi) ∷ q) ∷ qs) = let r = tails_at b qs in cond (between lo hi b) (q ∷ r) r

abbrev pub first_tail : List (List Range) → Text → ℕ
first_tail [] s = 0
first_tail (q ∷ qs) s = let r = first_tail qs s in cond (fits q s) (suc (length q)) r

-- No row is empty.
abbrev begun : List (List Range) → Bool
begun [] = true
begun ([] ∷ qs) = false
begun ((r ∷ q) ∷ qs) = begun qs

fit_tails : (qs : List (List Range)) (b : ℕ) (s : Text) → T (begun qs) → first_fit qs (b ∷ s) ≡ first_tail (tails_at b qs) s
unfolding first_fit fits
fit_tails [] b s t = refl
fit_tails ([] ∷ qs) b s t = absurd t
fit_tails (((lo – hi) ∷ q) ∷ qs) b s t =
    let ih = fit_tails qs b s t in
    by (between lo hi b) (λ e. rw (e, ih)) (λ e. rw (e, ih))

-- The rows of the bytes whose first byte is b, where it says n bytes.
abbrev pub more_tails : ℕ → List Range
more_tails zero = []
more_tails (suc n) = tail ∷ more_tails n

abbrev pub rows_of : ℕ → ℕ → List (List Range)
rows_of zero b = []
rows_of (suc zero) b = [] ∷ []
rows_of (suc (suc n)) b = ((second_low b – second_high b) ∷ more_tails n) ∷ []

table_says : T (below (λ b. same_rows (tails_at b sequences) (rows_of (lead_size b) b) && ltb (lead_size b) 5) 256)
unfolding sequences count_leading_zeros
table_says = tt

-- The same by ranges of the first byte.
abbrev by_ranges : ℕ → ℕ
by_ranges b = cond (ltb b 0x80) 1 (cond (ltb b 0xC2) 0 (cond (ltb b 0xF5) (leading_ones b) 0))

ranges_say : T (below (λ b. eqb (by_ranges b) (lead_size b)) 256)
unfolding count_leading_zeros
ranges_say = tt

module _ (b : ℕ) (h : b < 256) where
  by_range : by_ranges b ≡ lead_size b
  by_range = eqb→eq (by_ranges b) (lead_size b) (below_at (λ b. eqb (by_ranges b) (lead_size b)) 256 ranges_say b h)

  pub lead_one : b < 0x80 → 1 ≡ lead_size b
  lead_one l = sym (simp (lt-ltb b 0x80 l)) ∙ by_range

  pub lead_inner : 0x80 ≤ b → b < 0xC2 → 0 ≡ lead_size b
  lead_inner g l = sym (simp (le-ltb b 0x80 g, lt-ltb b 0xC2 l)) ∙ by_range

  pub lead_more : 0xC2 ≤ b → b < 0xF5 → leading_ones b ≡ lead_size b
  lead_more g l = sym (simp (le-ltb b 0x80 (omega arith), le-ltb b 0xC2 g, lt-ltb b 0xF5 l)) ∙ by_range

  pub lead_past : 0xF5 ≤ b → 0 ≡ lead_size b
  lead_past g = sym (simp (le-ltb b 0x80 (omega arith), le-ltb b 0xC2 (omega arith), le-ltb b 0xF5 g)) ∙ by_range

rows_begun : T (begun sequences)
unfolding sequences
rows_begun = tt

module _ (b : ℕ) (h : b < 256) where
  says : T (same_rows (tails_at b sequences) (rows_of (lead_size b) b)) × T (ltb (lead_size b) 5)
  says =
      and_true (same_rows (tails_at b sequences) (rows_of (lead_size b) b)) (ltb (lead_size b) 5)
      (below_at (λ b. same_rows (tails_at b sequences) (rows_of (lead_size b) b) && ltb (lead_size b) 5) 256 table_says b h)

  pub lead_small : lead_size b < 5
  lead_small = ltb→lt (lead_size b) 5 says.1

  pub size_rows : (s : Text) → sequence_size (b ∷ s) ≡ first_tail (rows_of (lead_size b) b) s
  unfolding sequence_size
  size_rows s =
      fit_tails sequences b s rows_begun
      ∙ ap (λ (x : List (List Range)). first_tail x s) (same_rows_eq (tails_at b sequences) (rows_of (lead_size b) b) says.0)

-- Each row by the tests that the routine makes.
sized_rows : (n b : ℕ) (s : Text) → n < 5 → first_tail (rows_of n b) s ≡ sized n (b ∷ s)
unfolding fits
sized_rows zero b s h = refl
sized_rows (suc zero) b s h = refl
sized_rows (suc (suc zero)) b [] h = refl
sized_rows (suc (suc zero)) b (x ∷ s) h =
    by (between (second_low b) (second_high b) x)
    (λ e. simp (e, le-ltb (suc (suc (length s))) 2 (omega arith)))
    (λ e. simp (e, le-ltb (suc (suc (length s))) 2 (omega arith)))
sized_rows (suc (suc (suc zero))) b [] h = refl
sized_rows (suc (suc (suc zero))) b (x ∷ []) h = by (between (second_low b) (second_high b) x) (λ e. simp e) (λ e. simp e)
sized_rows (suc (suc (suc zero))) b (x ∷ y ∷ s) h =
    by (between (second_low b) (second_high b) x)
    (λ e.
    by (between 0x80 0xBF y)
    (λ f. simp (e, f, le-ltb (suc (suc (suc (length s)))) 3 (omega arith)))
    (λ f. simp (e, f, le-ltb (suc (suc (suc (length s)))) 3 (omega arith))))
    (λ e. simp (e, le-ltb (suc (suc (suc (length s)))) 3 (omega arith)))
sized_rows (suc (suc (suc (suc zero)))) b [] h = refl
sized_rows (suc (suc (suc (suc zero)))) b (x ∷ []) h = by (between (second_low b) (second_high b) x) (λ e. simp e) (λ e. simp e)
sized_rows (suc (suc (suc (suc zero)))) b (x ∷ y ∷ []) h =
    by (between (second_low b) (second_high b) x)
    (λ e. by (between 0x80 0xBF y) (λ f. simp (e, f)) (λ f. simp (e, f)))
    (λ e. simp e)
sized_rows (suc (suc (suc (suc zero)))) b (x ∷ y ∷ z ∷ s) h =
    by (between (second_low b) (second_high b) x)
    (λ e.
    by (between 0x80 0xBF y)
    (λ f.
    by (between 0x80 0xBF z)
    (λ g. simp (e, f, g, le-ltb (suc (suc (suc (suc (length s))))) 4 (omega arith)))
    (λ g. simp (e, f, g, le-ltb (suc (suc (suc (suc (length s))))) 4 (omega arith))))
    (λ f. simp (e, f, le-ltb (suc (suc (suc (suc (length s))))) 4 (omega arith))))
    (λ e. simp (e, le-ltb (suc (suc (suc (suc (length s))))) 4 (omega arith)))
sized_rows (suc (suc (suc (suc (suc n))))) b s h = absurd (omega arith)

pub size_sized : (b : ℕ) (s : Text) → b < 256 → sequence_size (b ∷ s) ≡ sized (lead_size b) (b ∷ s)
size_sized b s h = size_rows b h s ∙ sized_rows (lead_size b) b s (lead_small b h)

-- No sequence begins with a number that is no byte.
abbrev all_bytes : List (List Range) → Bool
all_bytes [] = true
all_bytes ([] ∷ qs) = all_bytes qs
all_bytes (((lo – hi) ∷ q) ∷ qs) = ltb hi 256 && all_bytes qs

no_tails : (qs : List (List Range)) (b : ℕ) → 256 ≤ b → T (all_bytes qs) → tails_at b qs ≡ []
no_tails [] b h t = refl
no_tails ([] ∷ qs) b h t = no_tails qs b h t
no_tails (((lo – hi) ∷ q) ∷ qs) b h t =
    let u = and_true (ltb hi 256) (all_bytes qs) t in
    let l = ltb→lt hi 256 u.0 in
    let ih = no_tails qs b h u.1 in
    rw (lt-leb b hi (omega arith), and_false, ih)

pub no_byte : (b : ℕ) (s : Text) → 256 ≤ b → sequence_size (b ∷ s) ≡ 0
unfolding sequence_size sequences
no_byte b s h = fit_tails sequences b s rows_begun ∙ ap (λ (x : List (List Range)). first_tail x s) (no_tails sequences b h tt)

-- ---- The routine, test by test

module _ (s : Text) (h : 0 < length s) (k : get_or s 0 0 < 256) (n : ℕ) (e : n ≡ lead_size (get_or s 0 0)) where
  by_lead : sequence_size s ≡ sized n s
  by_lead = go s h k e
    where
      go : (s : Text) → 0 < length s → get_or s 0 0 < 256 → n ≡ lead_size (get_or s 0 0) → sequence_size s ≡ sized n s
      go [] h k e = absurd (omega arith)
      go (b ∷ s) h k e = size_sized b s k ∙ ap (λ (m : ℕ). sized m (b ∷ s)) (sym e)

  pub size_small : n < 2 → n ≡ sequence_size s
  size_small l = sym (by_lead ∙ simp (lt-ltb n 2 l))

  module _ (l : 2 ≤ n) where
    pub size_short : length s < n → 0 ≡ sequence_size s
    size_short m = sym (by_lead ∙ simp (le-ltb n 2 l, lt-ltb (length s) n m))

    module _ (m : n ≤ length s) (lo hi : ℕ) (p : lo ≡ second_low (get_or s 0 0)) (q : hi ≡ second_high (get_or s 0 0)) where
      second : (v : Bool) → v ≡ between lo hi (get_or s 1 0) → between (second_low (get_or s 0 0)) (second_high (get_or s 0 0)) (get_or s 1 0) ≡ v
      second v f = sym (f ∙ ap₂ (λ (x y : ℕ). between x y (get_or s 1 0)) p q)

      pub size_second : (v : Bool) → v ≡ between lo hi (get_or s 1 0) → v ≡ false → 0 ≡ sequence_size s
      size_second v f g = sym (by_lead ∙ simp (le-ltb n 2 l, le-ltb (length s) n m, second v f ∙ g))

      module _ (v : Bool) (f : v ≡ between lo hi (get_or s 1 0)) (g : v ≡ true) where
        pub size_two : n ≡ 2 → 2 ≡ sequence_size s
        size_two z = sym (by_lead ∙ simp (le-ltb n 2 l, le-ltb (length s) n m, second v f ∙ g, eq-eqb n 2 z))

        module _ (z : n ≡ 2 → ⊥) (w : Bool) (f' : w ≡ between 0x80 0xBF (get_or s 2 0)) where
          pub size_third : w ≡ false → 0 ≡ sequence_size s
          size_third g' = sym (by_lead ∙ simp (le-ltb n 2 l, le-ltb (length s) n m, second v f ∙ g, ne_eqb n 2 z, sym f' ∙ g'))

          module _ (g' : w ≡ true) where
            pub size_three : n ≡ 3 → 3 ≡ sequence_size s
            size_three z' = sym (by_lead ∙ simp (le-ltb n 2 l, le-ltb (length s) n m, second v f ∙ g, ne_eqb n 2 z, sym f' ∙ g', eq-eqb n 3 z'))

            pub size_fourth : (n ≡ 3 → ⊥) → (u : Bool) → u ≡ between 0x80 0xBF (get_or s 3 0) → cond u 4 0 ≡ sequence_size s
            size_fourth z' u f'' =
                sym (by_lead ∙ simp (le-ltb n 2 l, le-ltb (length s) n m, second v f ∙ g, ne_eqb n 2 z, sym f' ∙ g', ne_eqb n 3 z', sym f''))

pub size_empty : (s : Text) → length s ≡ 0 → 0 ≡ sequence_size s
unfolding sequence_size first_fit sequences fits
size_empty [] e = refl
size_empty (b ∷ s) e = absurd (omega arith)
