-- Laws of lines and places.
use mathlib.Core.Path.{◌≡◌, refl, ap, ◌∙◌}
use mathlib.Core.Bool.{Bool, true, false, not}
use mathlib.Core.List.{[], ◌∷◌}
use Prim.Native.Nat.{ℕ, zero, suc, ◌+◌, ◌-◌, ◌<◌, ◌≤◌, min}
use native.Mathlib.Numerals.{add-one}
use native.Mathlib.Omega.{arith}
use lib.Dec.{ltb}
use lib.ListN.{length, get_or, take, drop, drop_of_length-le, length-drop}
use lib.Seq.{take_all}
use borrow.Author.Tests.{ltb-true, ltb-false}
use Rattle.std.proofs.lemmas.List.Folds.{length-prefix_len}
use Rattle.std.specs.List.{prefix_len, take_while}
use Rattle.text.specs.Text.{Text, cond}
use Rattle.text.proofs.Compare.{by}
use Rattle.documents.specs.declared.places.Place.{Place}
use Rattle.documents.specs.Places.{ends_line, continues, passed, place, breaks, left_in_line, within, line_end}

-- ---- Places

-- Lines and columns are not more than the bytes.
abbrev pub Bounded : ℕ → Place → Type 0
Bounded i p = (p.line ≤ i + 1) × (p.column ≤ i + 1)

bounded_passed : (i b : ℕ) (e : Bool) (p : Place) → Bounded i p → Bounded (suc i) (passed i b e p)
unfolding passed
bounded_passed i b true p (l, c) = (omega arith, omega arith)
bounded_passed i b false p (l, c) = go (continues b)
  where
    go : (t : Bool) → Bounded (suc i) (cond t p (record { line = p.line; column = p.column + 1; start = p.start }))
    go true = (omega arith, omega arith)
    go false = (omega arith, omega arith)

pub bounded : (doc : Text) (i : ℕ) → Bounded i (place doc i)
unfolding place
bounded doc zero = (omega arith, omega arith)
bounded doc (suc i) = bounded_passed i (get_or doc i 0) (ends_line doc i) (place doc i) (bounded doc i)

pub bounded_place : (doc : Text) (i : ℕ) (p : Place) → p ≡ place doc i → Bounded i p
bounded_place doc i p e = rw e (bounded doc i)

pub next_place : (doc : Text) (i : ℕ) (p q : Place) (b : Bool) → p ≡ place doc i → b ≡ ends_line doc i → q ≡ passed i (get_or doc i 0) b p → q ≡ place doc (i + 1)
unfolding place
next_place doc i p q b e h k = rw (add-one i) (k ∙ rw (e, h))

-- What is read is the part up to the place, or the document.
pub place_read : (doc : Text) (at i : ℕ) → i ≡ min at (length doc) → place doc i ≡ place doc (within doc at)
place_read doc at i e =
    by (ltb (length doc) at) (λ q. let h = ltb-true (length doc) at q in rw q (ap (place doc) (omega (arith, e, h))))
    (λ q. let h = ltb-false (length doc) at q in rw q (ap (place doc) (omega (arith, e, h))))

-- ---- The end of a line

left_is : (s : Text) → left_in_line s ≡ prefix_len (λ b. not (breaks b)) s
unfolding left_in_line
left_is [] = refl
left_is (b ∷ s) = by (breaks b) (λ e. rw e) (λ e. rw (e, left_is s) (omega arith))

pub end_taken : (doc : Text) (at n : ℕ) → at ≤ length doc → n ≡ length (take_while (λ b. not (breaks b)) (take (length doc - at) (drop at doc))) → at + n ≡ line_end doc at
end_taken doc at n h e =
    let z = length-drop at doc in
    let rest : take (length doc - at) (drop at doc) ≡ drop at doc = take_all (length doc - at) (drop at doc) (omega arith) in
    rw (e, rest, length-prefix_len (λ b. not (breaks b)) (drop at doc), left_is (drop at doc))

pub end_past : (doc : Text) (at : ℕ) → length doc < at → at ≡ line_end doc at
unfolding left_in_line
end_past doc at h = rw (drop_of_length-le doc {i = at} (omega arith)) (omega arith)
