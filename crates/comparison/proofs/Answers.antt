-- The answers, as the routines come by them.
use mathlib.Core.Path.{◌≡◌, sym, ap, ap₂, ◌∙◌}
use mathlib.Core.Bool.{Bool, true, ◌&&◌, ◌||◌}
use mathlib.Core.List.{List}
use Prim.Native.Nat.{ℕ, ◌≤◌, ◌<◌}
use native.Mathlib.Omega.{arith}
use borrow.Author.Tests.{lt-ltb, le-ltb}
use lib.Dec.{eqb, ltb}
use lib.ListN.{length}
use Rattle.text.specs.Text.{empty}
use Rattle.text.specs.Slice.{over}
use Rattle.text.proofs.Compare.{by}
use Rattle.text.proofs.Over.{over_fits}
use Rattle.table.specs.Layout.{Slices}
use Rattle.table.specs.Usable.{for_long_form, usable}
use Rattle.usable.specs.Lent.{SoundRows}
use Rattle.dataset.specs.Terms.{Quad}
use Rattle.comparison.specs.Comparison.{carries, lefts, rights, listed, only, legal, Comparison, refused, compare}
use Rattle.std.proofs.Common.{Result, Ok, Err}
use Rattle.limits.specs.Refusal.{number}
use Rattle.limits.specs.declared.Refusal.{Refusal}
use Rattle.limits.specs.declared.Refusal.TheVariants.{Tables, Pairing}
use Rattle.usable.proofs.Standing.{sound_rows}
use Rattle.comparison.specs.Code.{in_both, refusal, listing}
use Rattle.comparison.specs.declared.edition.Edition.{Edition}
use Rattle.comparison.specs.declared.edition.Edition.TheVariants.{Left, Right}
use Rattle.comparison.proofs.Any.{empty_length}
use Rattle.comparison.proofs.Listing.{picked_short}

-- ---- 18, then 25

module _ (l r : Slices) (p : List ℕ) where
  -- What follows where none is refused.
  pub both_usable : Ok tt ≡ refusal l r p → (usable for_long_form l ≡ true) × (usable for_long_form r ≡ true)
  unfolding refusal
  both_usable e =
      by (usable for_long_form l)
      (λ a.
      by (usable for_long_form r) (λ b. (a, b)) (λ b. let z : Ok tt ≡ Err Tables = rw (a, b) at e in cc))
      (λ a. let z : Ok tt ≡ Err Tables = rw a at e in cc)

  pub is_legal : Ok tt ≡ refusal l r p → legal l r p ≡ true
  unfolding refusal
  is_legal e =
      let u = both_usable e in
      by (legal l r p) (λ a. a) (λ a. let z : Ok tt ≡ Err Pairing = rw (u.0, u.1, a) at e in cc)

  module _ (out_left out_right : List ℕ) where
    after : Result (Unit {0}) Refusal → Comparison
    after (Ok x) = listing l r p out_left out_right
    after (Err e) = refused (number e) out_left out_right

    compare_after : after (refusal l r p) ≡ compare l r p out_left out_right
    unfolding refusal listing compare after
    compare_after =
        by (usable for_long_form l)
        (λ a.
        by (usable for_long_form r)
        (λ b.
        by (legal l r p) (λ c. rw (a, b, c)) (λ c. rw (a, b, c)))
        (λ b. rw (a, b)))
        (λ a. rw a)

    pub compare_refused : (e : Refusal) → Err e ≡ refusal l r p → refused (number e) out_left out_right ≡ compare l r p out_left out_right
    unfolding after
    compare_refused e q = ap after q ∙ compare_after

    pub compare_listing : Ok tt ≡ refusal l r p → listing l r p out_left out_right ≡ compare l r p out_left out_right
    unfolding after
    compare_listing q = ap after q ∙ compare_after

-- The rows of tables that the writer takes are sound.
pub sound_of : (s : Slices) → usable for_long_form s ≡ true → SoundRows s s.row_count
sound_of s u i h =
    let r = sound_rows for_long_form s u i h in
    record { stands = r.stands; graph = r.graph; subject = r.subject; predicate = r.predicate; object = r.object }

-- What is listed, by the edition.
module _ (e : Edition) (l r : Slices) (p : List ℕ) where
  pub as_lefts : e ≡ Left → only (in_both e p) l r ≡ lefts l r p
  as_lefts z = rw z

  pub as_rights : e ≡ Right → only (in_both e p) r l ≡ rights l r p
  as_rights z = rw z

-- ---- 26, or the two lists

module _ (l r : Slices) (p out_left out_right : List ℕ) where
  pub left_full : (n : ℕ) → n ≡ length (lefts l r p) → length out_left < n → refused 26 out_left out_right ≡ listing l r p out_left out_right
  unfolding listing
  left_full n e h = let q = lt-ltb (length out_left) (length (lefts l r p)) (omega arith) in rw q

  module _ (n : ℕ) (e : n ≡ length (lefts l r p)) (h : n ≤ length out_left) where
    pub right_full : (m : ℕ) → m ≡ length (rights l r p) → length out_right < m → refused 26 out_left out_right ≡ listing l r p out_left out_right
    unfolding listing
    right_full m f k =
        let a = le-ltb (length out_left) (length (lefts l r p)) (omega arith) in
        let b = lt-ltb (length out_right) (length (rights l r p)) (omega arith) in
        rw (a, b)

    pub both_told : (m : ℕ) → m ≡ length (rights l r p) → m ≤ length out_right → (ls rs : List ℕ) → ls ≡ over (lefts l r p) out_left → rs ≡ over (rights l r p) out_right → (same : Bool) → same ≡ (eqb n 0 && eqb m 0)
        → ◌≡◌ {A = Comparison} (record { number = 0; left_count = n; right_count = m; same = same; left_list = ls; right_list = rs }) (listing l r p out_left out_right)
    unfolding listing
    both_told m f k ls rs u v same s =
        let a = le-ltb (length out_left) (length (lefts l r p)) (omega arith) in
        let b = le-ltb (length out_right) (length (rights l r p)) (omega arith) in
        let c = u ∙ over_fits (lefts l r p) out_left (omega arith) in
        let d = v ∙ over_fits (rights l r p) out_right (omega arith) in
        let x : same ≡ (empty (lefts l r p) && empty (rights l r p)) =
        s ∙ ap₂ ◌&&◌ (ap (λ (i : ℕ). eqb i 0) e ∙ sym (empty_length (lefts l r p))) (ap (λ (i : ℕ). eqb i 0) f ∙ sym (empty_length (rights l r p))) in
        rw (a, b, c, d, x, e, f)

-- ---- No more are listed than there are rows

module _ (l r : Slices) (p out_left out_right : List ℕ) where
  only_low : (f : Quad → Quad → Bool) (s t : Slices) → length (only f s t) ≤ s.row_count
  unfolding only
  only_low f s t = picked_short (listed f s t) s.row_count

  pub left_low : (compare l r p out_left out_right).left_count ≤ l.row_count
  unfolding compare
  left_low =
      by (usable for_long_form l && usable for_long_form r)
      (λ a.
      by (legal l r p)
      (λ b.
      by (ltb (length out_left) (length (lefts l r p)) || ltb (length out_right) (length (rights l r p))) (λ c. rw (a, b, c) (omega arith))
      (λ c. rw (a, b, c) (only_low (carries p) l r)))
      (λ b. rw (a, b) (omega arith)))
      (λ a. rw a (omega arith))

  pub right_low : (compare l r p out_left out_right).right_count ≤ r.row_count
  unfolding compare
  right_low =
      by (usable for_long_form l && usable for_long_form r)
      (λ a.
      by (legal l r p)
      (λ b.
      by (ltb (length out_left) (length (lefts l r p)) || ltb (length out_right) (length (rights l r p))) (λ c. rw (a, b, c) (omega arith))
      (λ c. rw (a, b, c) (only_low (λ q t. carries p t q) r l)))
      (λ b. rw (a, b) (omega arith)))
      (λ a. rw a (omega arith))
