-- What the two lists say of the two sets of statements, whatever the slices hold.
use mathlib.Core.Path.{◌≡◌, refl, sym, ap, ◌∙◌}
use mathlib.Core.Bool.{Bool, true, false, not, ◌&&◌, ◌||◌}
use mathlib.Core.List.{List, [], ◌∷◌}
use Prim.Native.Nat.{ℕ, zero, suc, ◌≤◌, ◌<◌}
use native.Mathlib.Omega.{arith}
use borrow.Author.Tests.{not-true, not-false, ltb-false, le-ltb}
use lib.Dec.{eqb, ltb}
use lib.ListN.{length}
use Rattle.text.specs.Text.{empty, member}
use Rattle.text.proofs.Compare.{by, contrary, and_left, and_right, or_left, or_right}
use Rattle.dataset.specs.Terms.{Quad}
use Rattle.table.specs.Layout.{Slices}
use Rattle.table.specs.Usable.{for_long_form, usable}
use Rattle.comparison.specs.Comparison.{any, carries, same, statement, listed, only, lefts, rights, legal, Comparison, refused, told, compare}
use Rattle.comparison.proofs.Any.{any_none, any_one, Passes, any_found, picked_passes, picked_all, picked_empty, Rising, picked_rising, empty_length}
use Rattle.comparison.proofs.Alike.{same_equal, same_refl}

-- ---- "the number of its first row (from 0)"

module _ (s : Slices) where
  -- No row before has the statement.
  abbrev pub First : ℕ → Type 0
  First i = (j : ℕ) → j < i → statement s j ≡ statement s i → ⊥

  abbrev earlier : ℕ → ℕ → Bool
  earlier i j = same (statement s i) (statement s j)

  none_first : (i : ℕ) → not (any (earlier i) i) ≡ true → First i
  none_first i e j h q = contrary (sym (rw q (same_refl (statement s i))) ∙ any_none (earlier i) i (not-true (any (earlier i) i) e) j h)

  first_none : (i : ℕ) → First i → not (any (earlier i) i) ≡ true
  first_none i f =
      by (any (earlier i) i) (λ t. let b = any_found (earlier i) i t in absurd (f b.at b.below (sym (same_equal (statement s i) (statement s b.at) b.passes)))) (λ t. rw t)

  pub record FirstOf (i : ℕ) : Type 0 where
    pub at : ℕ
    pub not_later : at ≤ i
    pub equal : statement s at ≡ statement s i
    pub first : First at

  -- Every statement has a first row.
  pub first_of : (i : ℕ) → FirstOf i
  first_of i = among (suc i) i (omega arith)
    where
      among : (n k : ℕ) → k < n → FirstOf k
      among zero k h = absurd (omega arith)
      among (suc n) k h =
          by (not (any (earlier k) k)) (λ t. record { at = k; not_later = omega arith; equal = refl; first = none_first k t })
          (λ t.
          let f = any_found (earlier k) k (not-false (any (earlier k) k) t) in
          let b = f.below in
          let r = among n f.at (omega arith) in
          record { at = r.at; not_later = (let c = r.not_later in omega arith); equal = r.equal ∙ sym (same_equal (statement s k) (statement s f.at) f.passes); first = r.first })

-- ---- What is only in one of them

module _ (in_both : Quad → Quad → Bool) (mine other : Slices) where
  -- A row of the other edition makes the statement of the row i be in both.
  abbrev pub InBoth : ℕ → Type 0
  InBoth i = Passes (λ j. in_both (statement mine i) (statement other j)) other.row_count

  pub record Only (i : ℕ) : Type 0 where
    pub row : i < mine.row_count
    pub first : First mine i
    pub absent : InBoth i → ⊥

  -- Just these rows are listed,
  pub listed_only : (i : ℕ) → member i (only in_both mine other) ≡ true → Only i
  unfolding only listed
  listed_only i e =
      let (l, t) = picked_passes (listed in_both mine other) mine.row_count i e in
      let both : ℕ → Bool = λ j. in_both (statement mine i) (statement other j) in
      let a = not (any (earlier mine i) i) in
      let b = not (any both other.row_count) in
      record {
        row = l;
        first = none_first mine i (and_left a b t);
        absent = λ f. contrary (sym (any_one both other.row_count f.at f.below f.passes) ∙ not-true (any both other.row_count) (and_right a b t));
      }

  pub only_listed : (i : ℕ) → Only i → member i (only in_both mine other) ≡ true
  unfolding only listed
  only_listed i o =
      let both : ℕ → Bool = λ j. in_both (statement mine i) (statement other j) in
      let none : any both other.row_count ≡ false = by (any both other.row_count) (λ t. absurd (o.absent (any_found both other.row_count t))) (λ t. t) in
      picked_all (listed in_both mine other) mine.row_count i o.row (rw (first_none mine i o.first, none))

  -- "in row order .. each once",
  pub only_rising : Rising 0 mine.row_count (only in_both mine other)
  unfolding only
  only_rising = picked_rising (listed in_both mine other) mine.row_count

  -- and of each statement that is not in both its first row.
  pub first_listed : (i : ℕ) → i < mine.row_count → (InBoth i → ⊥) → member (first_of mine i).at (only in_both mine other) ≡ true
  first_listed i h n =
      let f = first_of mine i in
      let k = f.not_later in
      only_listed f.at
      (record { row = omega arith; first = f.first; absent = λ b. n (record { at = b.at; below = b.below; passes = rw (← f.equal) b.passes }) })

  -- None is listed exactly when each is in both.
  pub empty_both : empty (only in_both mine other) ≡ true → (i : ℕ) → i < mine.row_count → InBoth i
  empty_both e i h =
      let both : ℕ → Bool = λ j. in_both (statement mine i) (statement other j) in
      by (any both other.row_count) (any_found both other.row_count)
      (λ t.
      no_member (first_of mine i).at (only in_both mine other) e
      (first_listed i h (λ b. contrary (sym (any_one both other.row_count b.at b.below b.passes) ∙ t))))
    where
      no_member : {X : Type 0} (k : ℕ) (xs : List ℕ) → empty xs ≡ true → member k xs ≡ true → X
      no_member k [] e m = contrary (sym m)
      no_member k (x ∷ xs) e m = contrary (sym e)

  pub both_empty : ((i : ℕ) → i < mine.row_count → InBoth i) → empty (only in_both mine other) ≡ true
  unfolding only
  both_empty b =
      let test = listed in_both mine other in
      let n = mine.row_count in
      picked_empty test n
      ∙ by (any test n) (λ t. let f = any_found test n t in absurd ((listed_only f.at (picked_all test n f.at f.below f.passes)).absent (b f.at f.below))) (λ t. rw t)

-- ---- "yes exactly when both lists are empty"

module _ (l r : Slices) (p : List ℕ) where
  -- The pairing carries each statement of the left to one of the right, and to each of the right one of the left.
  pub record Correspond : Type 0 where
    pub from_left : (i : ℕ) → i < l.row_count → Passes (λ j. carries p (statement l i) (statement r j)) r.row_count
    pub from_right : (j : ℕ) → j < r.row_count → Passes (λ i. carries p (statement l i) (statement r j)) l.row_count

  pub yes_correspond : (empty (lefts l r p) && empty (rights l r p)) ≡ true → Correspond
  yes_correspond e =
      record {
        from_left = empty_both (carries p) l r (and_left (empty (lefts l r p)) (empty (rights l r p)) e);
        from_right = empty_both (λ q t. carries p t q) r l (and_right (empty (lefts l r p)) (empty (rights l r p)) e);
      }

  pub correspond_yes : Correspond → (empty (lefts l r p) && empty (rights l r p)) ≡ true
  correspond_yes c = rw (both_empty (carries p) l r c.from_left, both_empty (λ q t. carries p t q) r l c.from_right)

-- ---- The answer

module _ (l r : Slices) (p left_list right_list : List ℕ) where
  abbrev answer : Comparison
  answer = compare l r p left_list right_list

  -- Nothing is refused.
  pub record Taken : Type 0 where
    pub left_usable : usable for_long_form l ≡ true
    pub right_usable : usable for_long_form r ≡ true
    pub legal : legal l r p ≡ true
    pub left_room : length (lefts l r p) ≤ length left_list
    pub right_room : length (rights l r p) ≤ length right_list

  pub taken_told : Taken → answer ≡ told (lefts l r p) (rights l r p) left_list right_list
  unfolding compare
  taken_told t =
      rw (
        t.left_usable,
        t.right_usable,
        t.legal,
        le-ltb (length left_list) (length (lefts l r p)) t.left_room,
        le-ltb (length right_list) (length (rights l r p)) t.right_room,
      )

  outcome : {X : Type 0} → (Taken → X) → ((n : ℕ) → 0 < n → answer ≡ refused n left_list right_list → X) → X
  unfolding compare
  outcome f g =
      let a = ltb (length left_list) (length (lefts l r p)) in
      let b = ltb (length right_list) (length (rights l r p)) in
      by (usable for_long_form l && usable for_long_form r)
      (λ u. by (legal l r p)
      (λ k. by (a || b) (λ m. g 26 (omega arith) (rw (u, k, m)))
      (λ m.
      f
      (record {
        left_usable = and_left (usable for_long_form l) (usable for_long_form r) u;
        right_usable = and_right (usable for_long_form l) (usable for_long_form r) u;
        legal = k;
        left_room = ltb-false (length left_list) (length (lefts l r p)) (or_left a b m);
        right_room = ltb-false (length right_list) (length (rights l r p)) (or_right a b m);
      })))
      (λ k. g 25 (omega arith) (rw (u, k))))
      (λ u. g 18 (omega arith) (rw u))

  pub zero_taken : answer.number ≡ 0 → Taken
  zero_taken e = outcome (λ t. t) (λ n h q. absurd (let z : n ≡ 0 = sym (ap (λ (c : Comparison). c.number) q) ∙ e in omega arith))

  -- After 0 it is yes exactly when both counts are 0,
  pub zero_counts : answer.number ≡ 0 → answer.same ≡ (eqb answer.left_count 0 && eqb answer.right_count 0)
  zero_counts e = rw (taken_told (zero_taken e), empty_length (lefts l r p), empty_length (rights l r p))

  -- which is where the statements correspond; yes is never said with another number.
  pub yes_only : answer.same ≡ true → (answer.number ≡ 0) × Correspond l r p
  yes_only e =
      outcome (λ t. let q = taken_told t in (rw q, yes_correspond l r p (rw q at e))) (λ n h q. contrary (sym e ∙ rw q))

  pub zero_yes : answer.number ≡ 0 → Correspond l r p → answer.same ≡ true
  zero_yes e c = rw (taken_told (zero_taken e)) (correspond_yes l r p c)
