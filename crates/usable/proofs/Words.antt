-- The words of terms and rows by their places, and the tests of a term's kind.
use mathlib.Core.Path.{◌≡◌, refl, ◌∙◌}
use mathlib.Core.Bool.{Bool, true, false, ◌&&◌, ◌||◌}
use mathlib.Core.List.{List}
use Prim.Native.Nat.{ℕ, pred, ◌+◌, ◌*◌, ◌≤◌}
use native.Mathlib.Nat.{add-zero}
use native.Mathlib.Omega.{arith}
use borrow.Author.Tests.{leb-true}
use lib.Dec.{eqb}
use lib.ListN.{length, get_or}
use Rattle.text.specs.Text.{is_none}
use Rattle.text.proofs.Compare.{and_left}
use Rattle.table.specs.Layout.{Slices, row_size, row_at, term_size, entry_at, iri_kind, blank_kind, literal_kind, tagged_kind}
use Rattle.utf8.specs.Utf8.{first_bad}
use Rattle.table.specs.Usable.{the, text, inside}
use Rattle.usable.specs.Lent.{readable, SpanIn}

module _ (w : List ℕ) (n r : ℕ) where
  pub kind_word : r ≡ get_or w (term_size * pred n + 0) 0 → r ≡ (entry_at w n).kind
  unfolding entry_at
  kind_word e = rw add-zero at e

  pub start_word : r ≡ get_or w (term_size * pred n + 1) 0 → r ≡ (entry_at w n).start
  unfolding entry_at
  start_word e = e

  pub size_word : r ≡ get_or w (term_size * pred n + 2) 0 → r ≡ (entry_at w n).size
  unfolding entry_at
  size_word e = e

  pub fourth_word : r ≡ get_or w (term_size * pred n + 3) 0 → r ≡ (entry_at w n).fourth
  unfolding entry_at
  fourth_word e = e

  pub fifth_word : r ≡ get_or w (term_size * pred n + 4) 0 → r ≡ (entry_at w n).fifth
  unfolding entry_at
  fifth_word e = e

module _ (w : List ℕ) (i r : ℕ) where
  pub graph_word : r ≡ get_or w (row_size * i + 0) 0 → r ≡ (row_at w i).graph
  unfolding row_at
  graph_word e = rw add-zero at e

  pub subject_word : r ≡ get_or w (row_size * i + 1) 0 → r ≡ (row_at w i).subject
  unfolding row_at
  subject_word e = e

  pub predicate_word : r ≡ get_or w (row_size * i + 2) 0 → r ≡ (row_at w i).predicate
  unfolding row_at
  predicate_word e = e

  pub object_word : r ≡ get_or w (row_size * i + 3) 0 → r ≡ (row_at w i).object
  unfolding row_at
  object_word e = e

or_none : (x : Bool) → x ≡ (x || false)
or_none true = refl
or_none false = refl

-- A test for each kind, where the kind is known.
module _ (k : ℕ) (a b c : Bool) where
  abbrev pub by_kind : Bool
  by_kind = (eqb k iri_kind && a) || eqb k blank_kind || (eqb k literal_kind && b) || (eqb k tagged_kind && c)

  pub of_iri : k ≡ iri_kind → a ≡ by_kind
  of_iri e = rw e (or_none a ∙ or_none (a || false) ∙ or_none ((a || false) || false))

  pub of_blank : k ≡ blank_kind → true ≡ by_kind
  of_blank e = rw e

  pub of_literal : k ≡ literal_kind → b ≡ by_kind
  of_literal e = rw e (or_none b)

  pub of_tagged : k ≡ tagged_kind → c ≡ by_kind
  of_tagged e = rw e

pub and_true : (b : Bool) → (b && true) ≡ b
and_true true = refl
and_true false = refl

pub text_in : (s : Slices) (n : ℕ) → s.store_count ≤ length s.store → readable s n ≡ true → SpanIn s n
text_in s n h e =
    omega (arith, leb-true ((the s n).start + (the s n).size) s.store_count (and_left (inside s (the s n).start (the s n).size) (is_none (first_bad (text s n))) e))
