-- The renaming of blank nodes is undone by reading the number in a label, so that it keeps nodes apart.
use mathlib.Core.Path.{◌≡◌, refl, sym, ap, ◌∙◌}
use mathlib.Core.List.{List, [], ◌∷◌, ◌++◌}
use Prim.Native.Nat.{ℕ, zero, suc, pred, ◌+◌, ◌*◌, ◌-◌, ◌/◌, ◌%◌, ◌<◌}
use native.Mathlib.Omega.{arith}
use lib.Dec.{ltb}
use lib.ListN.{get_or, drop}
use Rattle.text.specs.Text.{Text}
use Rattle.utf8.proofs.Tests.{by}
use Rattle.dataset.specs.Terms.{Blank, label, bracket, cell, numbered, Term, iri, blank, literal, tagged}
use Rattle.table.specs.Layout.{term_size, entry_at, iri_kind, blank_kind, literal_kind, word_limit, Slices}
use Rattle.table.specs.Usable.{the, has_kind, term}
use Rattle.table.specs.LongForm.{digits}
use Rattle.readback.specs.ReadBack.{label_of_number, renamed_term, Words, KeepsApart}

-- ---- Decimal digits

-- The number that decimal digits stand for, after a number so far.
abbrev number_from : ℕ → Text → ℕ
number_from v [] = v
number_from v (c ∷ cs) = number_from (v * 10 + (c - 48)) cs

number_last : (v c : ℕ) (cs : Text) → number_from v (cs ++ c ∷ []) ≡ number_from v cs * 10 + (c - 48)
number_last v c [] = refl
number_last v c (d ∷ cs) = number_last (v * 10 + (d - 48)) c cs

-- How many numbers so many digits tell apart.
abbrev numbers : ℕ → ℕ
numbers zero = 1
numbers (suc most) = 10 * numbers most

digits_number : (most n : ℕ) → n < numbers most → number_from 0 (digits most n) ≡ n
unfolding digits
digits_number zero n h = omega arith
digits_number (suc most) n h =
    by (ltb n 10) (λ e. rw e (omega arith))
    (λ e.
    let r = digits_number most (n / 10) (omega arith) in
    rw e (number_last 0 (48 + n % 10) (digits most (n / 10)) ∙ rw r (omega arith)))

pub labels_apart : (m n : ℕ) → m < word_limit → n < word_limit → label_of_number m ≡ label_of_number n → m ≡ n
labels_apart m n h l e = sym (digits_number 10 m (omega arith)) ∙ ap (λ (s : Text). number_from 0 (drop 1 s)) e ∙ digits_number 10 n (omega arith)

-- ---- Terms

-- A blank node with the number that stands behind the b of its label.
abbrev numbered_again : Blank → Blank
numbered_again (label s) = numbered (number_from 0 (drop 1 s))
numbered_again (bracket p) = bracket p
numbered_again (cell p) = cell p
numbered_again (numbered n) = numbered n

abbrev renamed_again : Term → Term
renamed_again (iri s) = iri s
renamed_again (blank b) = blank (numbered_again b)
renamed_again (literal s d) = literal s d
renamed_again (tagged s g) = tagged s g

word_at : (ws : List ℕ) → Words ws → (i : ℕ) → get_or ws i 0 < word_limit
word_at [] h i = omega arith
word_at (w ∷ ws) h zero = h.0
word_at (w ∷ ws) h (suc i) = word_at ws h.1 i

module _ (s : Slices) (w : Words s.terms) where
  undone : (n : ℕ) → renamed_again (renamed_term (term s n)) ≡ term s n
  unfolding entry_at
  undone n =
      let h = word_at s.terms w (term_size * pred n + 3) in
      by (has_kind s iri_kind n) (λ a. rw a refl)
      (λ a.
      by (has_kind s blank_kind n) (λ b. rw (a, b) (ap (λ (x : ℕ). blank (numbered x)) (digits_number 10 (the s n).fourth (omega arith))))
      (λ b. by (has_kind s literal_kind n) (λ c. rw (a, b, c) refl) (λ c. rw (a, b, c) refl)))

  pub keeps_apart : KeepsApart s
  keeps_apart = record { apart = λ m n e. sym (undone m) ∙ ap renamed_again e ∙ undone n }
