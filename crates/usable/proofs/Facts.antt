-- What usable tables have.
use mathlib.Core.Path.{◌≡◌, refl, sym, ◌∙◌, subst}
use mathlib.Core.Bool.{Bool, true, ◌&&◌}
use mathlib.Core.List.{List}
use Prim.Native.Nat.{ℕ, zero, suc, ◌+◌, ◌*◌, ◌-◌, ◌≤◌, ◌<◌}
use native.Mathlib.Nat.{suc-add, add-suc, add-zero}
use native.Mathlib.Omega.{arith}
use borrow.Author.Tests.{leb-true}
use lib.ListN.{length}
use lib.Dec.{leb}
use Rattle.text.specs.Text.{Text}
use Rattle.text.proofs.Compare.{and_left, and_right}
use Rattle.table.specs.Layout.{Slices, row_size, row_at, term_size}
use Rattle.table.specs.Usable.{each, Takes, counts_fit, good_term, good_row, usable}
use Rattle.usable.specs.Lent.{slices, lent, row_test}

-- ---- Each number passes

pub each_at : (p : ℕ → Bool) (from n : ℕ) → each p from n ≡ true → (i : ℕ) → i < n → p (from + i) ≡ true
unfolding each
each_at p from zero e i h = absurd (omega arith)
each_at p from (suc n) e zero h = rw (add-zero from) (and_left (p from) (each p (suc from) n) e)
each_at p from (suc n) e (suc i) h =
    subst (λ (m : ℕ). p m ≡ true) (suc-add from i ∙ sym (add-suc from i)) (each_at p (suc from) n (and_right (p from) (each p (suc from) n) e) i (omega arith))

-- ---- The counts go past no slice

pub record Fits (s : Slices) : Type 0 where
  pub rows : row_size * s.row_count ≤ length s.rows
  pub terms : term_size * s.term_count ≤ length s.terms
  pub store : s.store_count ≤ length s.store

pub counts_in : (s : Slices) → counts_fit s ≡ true → Fits s
unfolding counts_fit
counts_in s e =
    let a = leb (row_size * s.row_count) (length s.rows) in
    let b = leb (term_size * s.term_count) (length s.terms) in
    let c = leb s.store_count (length s.store) in
    record {
      rows = leb-true (row_size * s.row_count) (length s.rows) (and_left a b (and_left (a && b) c e));
      terms = leb-true (term_size * s.term_count) (length s.terms) (and_right a b (and_left (a && b) c e));
      store = leb-true s.store_count (length s.store) (and_right (a && b) c e);
    }

-- ---- The parts of the check

-- A test of terms does not look at rows, and one of rows not at the store.
pub terms_alone : (w : Takes) (rows : List ℕ) (rc : ℕ) (terms : List ℕ) (tc : ℕ) (store : Text) (sc : ℕ)
    → each (good_term w (lent terms 0 store sc)) 1 tc ≡ each (good_term w (slices rows rc terms tc store sc)) 1 tc
unfolding good_term
terms_alone w rows rc terms tc store sc = refl

pub rows_alone : (rows : List ℕ) (rc : ℕ) (terms : List ℕ) (tc : ℕ) (store : Text) (sc : ℕ)
    → each (row_test rows terms tc) 0 rc ≡ each (λ i. good_row (slices rows rc terms tc store sc) (row_at rows i)) 0 rc
unfolding good_row
rows_alone rows rc terms tc store sc = refl

module _ (w : Takes) (s : Slices) (e : usable w s ≡ true) where
  terms_good : Bool
  terms_good = each (good_term w s) 1 s.term_count

  rows_good : Bool
  rows_good = each (λ i. good_row s (row_at s.rows i)) 0 s.row_count

  pub usable_fits : Fits s
  unfolding usable terms_good rows_good
  usable_fits = counts_in s (and_left (counts_fit s) terms_good (and_left (counts_fit s && terms_good) rows_good e))

  pub usable_term : (n : ℕ) → 1 ≤ n → n ≤ s.term_count → good_term w s n ≡ true
  unfolding usable terms_good rows_good
  usable_term n h l =
      let i : 1 + (n - 1) ≡ n = omega arith in
      subst (λ (m : ℕ). good_term w s m ≡ true) i
      (each_at (good_term w s) 1 s.term_count (and_right (counts_fit s) terms_good (and_left (counts_fit s && terms_good) rows_good e)) (n - 1) (omega arith))

  pub usable_row : (i : ℕ) → i < s.row_count → good_row s (row_at s.rows i) ≡ true
  unfolding usable terms_good rows_good
  usable_row i h =
      let z : 0 + i ≡ i = omega arith in
      subst (λ (m : ℕ). good_row s (row_at s.rows m) ≡ true) z
      (each_at (λ i. good_row s (row_at s.rows i)) 0 s.row_count (and_right (counts_fit s && terms_good) rows_good e) i h)
