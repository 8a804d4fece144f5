-- "What did the office change?" (C-21): two editions of one file, compared statement by statement.
use Rattle.std.specs.Prelude.{List, [], ◌∷◌, ◌++◌, Bool, true, false, not, ◌&&◌, ◌||◌, ℕ, zero, suc, ◌+◌, ◌*◌, ◌/◌, eqb, ltb, length, get_or, drop}
use Rattle.std.proofs.Math.Option.{Option, none, some}
use Rattle.text.specs.Text.{cond, empty}
use Rattle.dataset.specs.Terms.{Blank, label, bracket, cell, numbered, Term, iri, blank, literal, tagged, Quad}
use Rattle.table.specs.Layout.{Slices, row_at, blank_kind}
use Rattle.table.specs.Tables.{same_term}
use Rattle.table.specs.Usable.{for_long_form, each, the, has_kind, usable, quad}
use Rattle.table.specs.LongForm.{computing as table_computing}

-- Some number below n passes the test; those that pass, in order.
unfoldable pub any : (ℕ → Bool) → ℕ → Bool
any p zero = false
any p (suc n) = let r = any p n in p n || r

unfoldable pub picked : (ℕ → Bool) → ℕ → List ℕ
picked p zero = []
picked p (suc n) = picked p n ++ cond (p n) (n ∷ []) []

-- ---- The pairing: "32-bit words with a left and a right blank number in turn"

abbrev pub pairs : List ℕ → ℕ
pairs p = length p / 2

abbrev pub left_of : List ℕ → ℕ → ℕ
left_of p i = get_or p (2 * i) 0

abbrev pub right_of : List ℕ → ℕ → ℕ
right_of p i = get_or p (2 * i + 1) 0

-- Some pair has this left and this right number.
unfoldable pub paired : List ℕ → ℕ → ℕ → Bool
paired p m n = any (λ i. eqb (left_of p i) m && eqb (right_of p i) n) (pairs p)

-- ---- Statements

-- A blank node by its number; none for another term.
abbrev pub number_of : Blank → Option ℕ
number_of (label s) = none
number_of (bracket p) = none
number_of (cell p) = none
number_of (numbered n) = some n

abbrev pub node : Term → Option ℕ
node (iri s) = none
node (blank b) = number_of b
node (literal s d) = none
node (tagged s g) = none

-- Terms of two editions are alike: blank nodes as f says of their numbers, others where they are equal.
abbrev pub alike_by : (ℕ → ℕ → Bool) → Bool → Option ℕ → Option ℕ → Bool
alike_by f equal none none = equal
alike_by f equal none (some n) = false
alike_by f equal (some m) none = false
alike_by f equal (some m) (some n) = f m n

unfoldable pub alike : (ℕ → ℕ → Bool) → Term → Term → Bool
alike f t u = alike_by f (same_term t u) (node t) (node u)

-- "graph 0 is the default graph": it is not any label.
unfoldable pub alike_graph : (ℕ → ℕ → Bool) → Option Term → Option Term → Bool
alike_graph f none none = true
alike_graph f none (some u) = false
alike_graph f (some t) none = false
alike_graph f (some t) (some u) = alike f t u

unfoldable pub alike_quad : (ℕ → ℕ → Bool) → Quad → Quad → Bool
alike_quad f q r =
    alike_graph f q.graph r.graph && alike f q.triple.subject r.triple.subject
    && alike f q.triple.predicate r.triple.predicate && alike f q.triple.object r.triple.object

-- "the pairing carries one to the other": blank nodes by the pairing alone.
abbrev pub carries : List ℕ → Quad → Quad → Bool
carries p q r = alike_quad (paired p) q r

-- One statement, within one edition.
abbrev pub same : Quad → Quad → Bool
same q r = alike_quad eqb q r

-- The statement of the row i, from 0 on.
abbrev pub statement : Slices → ℕ → Quad
statement s i = quad s (row_at s.rows i)

-- ---- What is only in one of them

module _ (in_both : Quad → Quad → Bool) (mine other : Slices) where
  -- "each once, as the number of its first row": no row before has the statement, and none of the other edition one that makes it be in both.
  unfoldable pub listed : ℕ → Bool
  listed i =
      not (any (λ j. same (statement mine i) (statement mine j)) i)
      && not (any (λ j. in_both (statement mine i) (statement other j)) other.row_count)

  -- "the statements only in the left, in row order"
  unfoldable pub only : List ℕ
  only = picked listed mine.row_count

abbrev pub lefts : Slices → Slices → List ℕ → List ℕ
lefts l r p = only (carries p) l r

abbrev pub rights : Slices → Slices → List ℕ → List ℕ
rights l r p = only (λ q t. carries p t q) r l

-- ---- 25: "an odd word, a blank number missing from its table or paired twice"

-- The table has a term that is the blank node of this number.
unfoldable pub has_node : Slices → ℕ → Bool
has_node s n = any (λ k. has_kind s blank_kind (suc k) && eqb (the s (suc k)).fourth n) s.term_count

-- Of the numbers on one side, each is in its table, and none stands there before.
unfoldable pub known : Slices → (ℕ → ℕ) → ℕ → Bool
known s of n = each (λ i. has_node s (of i)) 0 n

unfoldable pub once : (ℕ → ℕ) → ℕ → Bool
once of n = each (λ i. not (any (λ j. eqb (of j) (of i)) i)) 0 n

unfoldable pub legal : Slices → Slices → List ℕ → Bool
legal l r p =
    eqb (2 * pairs p) (length p) && (once (left_of p) (pairs p) && once (right_of p) (pairs p))
    && (known l (left_of p) (pairs p) && known r (right_of p) (pairs p))

-- ---- The answer: its number, how many are listed, yes or no, and what the two lists then hold

pub record Comparison : Type 0 where
  pub number : ℕ
  pub left_count : ℕ
  pub right_count : ℕ
  pub same : Bool
  pub left_list : List ℕ
  pub right_list : List ℕ

-- "lists unchanged, counts 0, answer no"
abbrev pub refused : ℕ → List ℕ → List ℕ → Comparison
refused number left_list right_list = record { number = number; left_count = 0; right_count = 0; same = false; left_list = left_list; right_list = right_list }

-- The numbers over the front of each list; "yes exactly when both lists are empty".
abbrev pub told : List ℕ → List ℕ → List ℕ → List ℕ → Comparison
told ls rs left_list right_list =
    record {
      number = 0;
      left_count = length ls;
      right_count = length rs;
      same = empty ls && empty rs;
      left_list = ls ++ drop (length ls) left_list;
      right_list = rs ++ drop (length rs) right_list;
    }

-- "Refusals: 18 for either side, then 25, .. then 26, a list too small"
unfoldable pub compare : Slices → Slices → List ℕ → List ℕ → List ℕ → Comparison
compare l r p left_list right_list =
    let ls = lefts l r p in
    let rs = rights l r p in
    cond (not (usable for_long_form l && usable for_long_form r)) (refused 18 left_list right_list)
    (cond (not (legal l r p)) (refused 25 left_list right_list)
    (cond (ltb (length left_list) (length ls) || ltb (length right_list) (length rs)) (refused 26 left_list right_list) (told ls rs left_list right_list)))

-- All that computes here; an example that is checked by evaluation names it.
unfoldable pub computing : ℕ
unfolding table_computing any picked paired alike alike_graph alike_quad listed only has_node known once legal compare
computing = 0
