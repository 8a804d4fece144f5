-- Code points from 128 on, an interval at a time: a state whose sets tell no two code points of an interval apart moves with all of them alike.
use mathlib.Core.Path.{◌≡◌, refl, ap, ap₂}
use mathlib.Core.Logic.{◌⊎◌, inl, inr, ⊎_elim}
use mathlib.Core.Bool.{Bool, true, false, not, ◌&&◌, ◌||◌}
use mathlib.Core.List.{List, [], ◌∷◌, ◌++◌}
use Prim.Native.Nat.{ℕ, suc, ◌≤◌, ◌<◌}
use native.Mathlib.Omega.{arith}
use borrow.Author.Tests.{leb-true, leb-false, lt-leb, le-leb}
use lib.Dec.{T, eqb, ltb, leb, leb→le, ltb→lt, eqb→eq}
use Rattle.text.specs.Text.{cond, between}
use Rattle.text.proofs.Compare.{and_false}
use Rattle.utf8.specs.Utf8.{Range, ◌–◌}
use Rattle.utf8.proofs.Tests.{by, and_true}
use Rattle.token.specs.Regular.{Re, eps, set, seq, alt, star, in_ranges, in_set, Item, item, nullable, cats, after, of_kind, step}
use Rattle.automaton.specs.Levels.{Interval, interval, intervals, find, level_in, level}

-- ---- The interval of a code point

-- The intervals follow one another from n to the last code point.
abbrev contiguous : ℕ → List Interval → Bool
contiguous n [] = eqb n 0x110000
contiguous n (interval lo hi k ∷ xs) = eqb lo n && contiguous (suc hi) xs

whole : T (contiguous 128 intervals)
unfolding intervals
whole = tt

abbrev pub Holds : Interval → ℕ → Type 0
Holds (interval lo hi k) c = (lo ≤ c) × (c ≤ hi)

abbrev pub each : (Interval → Bool) → List Interval → Bool
each f [] = true
each f (x ∷ xs) = f x && each f xs

-- A code point is in its interval, and what each interval passes, that one passes.
found : (f : Interval → Bool) (xs : List Interval) (n c : ℕ) → n ≤ c → c < 0x110000 → T (contiguous n xs) → T (each f xs)
    → Holds (find xs c) c × T (f (find xs c))
found f [] n c l u t s = let e : n ≡ 0x110000 = eqb→eq n 0x110000 t in absurd (omega arith)
found f (interval lo hi k ∷ xs) n c l u t s =
    by (leb c hi)
    (λ e. let z : lo ≡ n = eqb→eq lo n v.0 in rw e ((omega arith, leb-true c hi e), w.0))
    (λ e. rw e (found f xs (suc hi) c (leb-false c hi e) u v.1 w.1))
  where
    v : T (eqb lo n) × T (contiguous (suc hi) xs)
    v = and_true (eqb lo n) (contiguous (suc hi) xs) t

    w : T (f (interval lo hi k)) × T (each f xs)
    w = and_true (f (interval lo hi k)) (each f xs) s

pub found_in : (f : Interval → Bool) → T (each f intervals) → (c : ℕ) → 128 ≤ c → c < 0x110000
    → Holds (find intervals c) c × T (f (find intervals c))
found_in f s c l u = found f intervals 128 c l u whole s

-- The level is the same from lo to hi.
abbrev level_is : ℕ → ℕ → ℕ → Interval → Bool
level_is lo hi v (interval a b k) = ltb b lo || ltb hi a || eqb k v

unfoldable pub level_test : ℕ → ℕ → ℕ → Bool
level_test lo hi v = each (level_is lo hi v) intervals

pub level_on : (lo hi v : ℕ) → T (level_test lo hi v) → (c : ℕ) → 128 ≤ c → c < 0x110000 → lo ≤ c → c ≤ hi → v ≡ level c
unfolding level_test level
level_on lo hi v t c l u p q = fin (find intervals c) (found_in (level_is lo hi v) t c l u)
  where
    fin : (x : Interval) → Holds x c × T (level_is lo hi v x) → v ≡ level_in x
    fin (interval a b k) h =
        let m = h.0.0 in
        let n = h.0.1 in
        ⊎_elim
        (λ s. ⊎_elim (λ r. let z = ltb→lt b lo r in absurd (omega arith)) (λ r. let z = ltb→lt hi a r in absurd (omega arith)) (or_cases (ltb b lo) (ltb hi a) s))
        (λ s. let z = eqb→eq k v s in omega arith)
        (or_cases (ltb b lo || ltb hi a) (eqb k v) h.1)
      where
        or_cases : (a b : Bool) → T (a || b) → T a ⊎ T b
        or_cases true b t = inl tt
        or_cases false b t = inr t

-- ---- Two code points that no set of an expression tells apart

abbrev Alike : ℕ → ℕ → Re → Type 0
Alike c d eps = Unit {0}
Alike c d (set b rs) = in_set c b rs ≡ in_set d b rs
Alike c d (seq p q) = Alike c d p × Alike c d q
Alike c d (alt p q) = Alike c d p × Alike c d q
Alike c d (star p) = Alike c d p

after_alike : (c d : ℕ) (r : Re) → Alike c d r → after c r ≡ after d r
after_alike c d eps u = refl
after_alike c d (set b rs) u = ap (λ (t : Bool). cond t (eps ∷ []) []) u
after_alike c d (seq p q) u = ap₂ (λ (x y : List Re). cats x q ++ cond (nullable p) y []) (after_alike c d p u.0) (after_alike c d q u.1)
after_alike c d (alt p q) u = ap₂ (λ (x y : List Re). x ++ y) (after_alike c d p u.0) (after_alike c d q u.1)
after_alike c d (star p) u = ap (λ (x : List Re). cats x (star p)) (after_alike c d p u)

-- ---- An interval that lies in each range of a state or outside

abbrev solid_ranges : ℕ → ℕ → List Range → Bool
solid_ranges lo hi [] = true
solid_ranges lo hi ((a – b) ∷ rs) = (ltb hi a || (ltb b lo || (leb a lo && leb hi b))) && solid_ranges lo hi rs

abbrev solid_re : ℕ → ℕ → Re → Bool
solid_re lo hi eps = true
solid_re lo hi (set b rs) = solid_ranges lo hi rs
solid_re lo hi (seq p q) = solid_re lo hi p && solid_re lo hi q
solid_re lo hi (alt p q) = solid_re lo hi p && solid_re lo hi q
solid_re lo hi (star p) = solid_re lo hi p

abbrev pub solid : ℕ → ℕ → List Item → Bool
solid lo hi [] = true
solid lo hi (item k r ∷ xs) = solid_re lo hi r && solid lo hi xs

module _ (c lo hi : ℕ) (l : lo ≤ c) (u : c ≤ hi) where
  same_range : (a b : ℕ) → T (ltb hi a || (ltb b lo || (leb a lo && leb hi b))) → between a b c ≡ between a b lo
  same_range a b t =
      by (ltb hi a)
      (λ e. let h = ltb→lt hi a (rw e tt) in simp (lt-leb a c (omega arith), lt-leb a lo (omega arith)))
      (λ e.
      by (ltb b lo)
      (λ f. let h = ltb→lt b lo (rw f tt) in simp (lt-leb c b (omega arith), lt-leb lo b (omega arith), and_false))
      (λ f.
      let s : T (leb a lo && leb hi b) = rw (e, f) at t in
      let v = and_true (leb a lo) (leb hi b) s in
      let h = leb→le a lo v.0 in
      let h' = leb→le hi b v.1 in
      simp (le-leb a c (omega arith), le-leb c b (omega arith), le-leb a lo h, le-leb lo b (omega arith))))

  same_in : (rs : List Range) → T (solid_ranges lo hi rs) → in_ranges c rs ≡ in_ranges lo rs
  same_in [] t = refl
  same_in ((a – b) ∷ rs) t =
      let v = and_true (ltb hi a || (ltb b lo || (leb a lo && leb hi b))) (solid_ranges lo hi rs) t in
      ap₂ ◌||◌ (same_range a b v.0) (same_in rs v.1)

  alike_re : (r : Re) → T (solid_re lo hi r) → Alike c lo r
  alike_re eps t = tt
  alike_re (set true rs) t = same_in rs t
  alike_re (set false rs) t = ap not (same_in rs t)
  alike_re (seq p q) t = let v = and_true (solid_re lo hi p) (solid_re lo hi q) t in (alike_re p v.0, alike_re q v.1)
  alike_re (alt p q) t = let v = and_true (solid_re lo hi p) (solid_re lo hi q) t in (alike_re p v.0, alike_re q v.1)
  alike_re (star p) t = alike_re p t

  pub step_solid : (q : List Item) → T (solid lo hi q) → step c q ≡ step lo q
  step_solid [] t = refl
  step_solid (item k r ∷ xs) t =
      let v = and_true (solid_re lo hi r) (solid lo hi xs) t in
      ap₂ (λ (x : List Re) (y : List Item). of_kind k x ++ y) (after_alike c lo r (alike_re r v.0)) (step_solid xs v.1)
