-- Writing into a slice from a place on.
use mathlib.Core.Path.{◌≡◌, sym, ap, ◌∙◌}
use mathlib.Core.List.{[], ◌∷◌, ◌++◌, append_assoc}
use Prim.Native.Nat.{ℕ, zero, suc, ◌+◌, ◌-◌, ◌≤◌}
use native.Mathlib.Nat.{suc-add, zero-add}
use native.Mathlib.Omega.{arith}
use lib.ListN.{length, take, drop, length-append, length-drop}
use lib.Seq.{take_at, drop_at, drop-drop, length-take-le}
use Rattle.text.specs.Text.{Text}
use Rattle.text.specs.Slice.{over, over_at}
use Rattle.text.proofs.Over.{over_fits, over_append, over_nothing, rest_all}
use Rattle.spelling.proofs.Forms.{given_back}

-- The front of a slice, up to the end of what was written into it.
pub take_over_at : (at : ℕ) (s x : Text) → at + length s ≤ length x → take (at + length s) (over_at at s x) ≡ take at x ++ s
unfolding over_at
take_over_at at s x h =
    let front : length (take at x) ≡ at = length-take-le at x (omega arith) in
    rw (over_fits s (drop at x) (omega (arith, length-drop at x)), ← append_assoc (take at x) s (drop (length s) (drop at x)))
    (take_at (take at x ++ s) (drop (length s) (drop at x)) (at + length s) (length-append (take at x) s ∙ omega (arith, front)))

-- The part of the slice from a place on was lent, and came back as w.
pub part_over : (at : ℕ) (s x w : Text) → w ≡ over s (take (length x - at) (drop at x)) → take at x ++ (w ++ drop (length x - at) (drop at x)) ≡ over_at at s x
unfolding over_at
part_over at s x w e =
    let k : w ≡ over s (drop at x) = e ∙ ap (over s) (rest_all x at) in
    given_back x w at ∙ rw k

-- One text behind another.
pub over_at_append : (at : ℕ) (s t x : Text) → over_at at (s ++ t) x ≡ over_at (at + length s) t (over_at at s x)
unfolding over_at
over_at_append zero s t x = over_append s t x ∙ rw (zero-add (length s))
over_at_append (suc at) s t [] = rw (suc-add at (length s), over_nothing (s ++ t), over_nothing s, over_nothing t)
over_at_append (suc at) s t (b ∷ x) = rw (suc-add at (length s)) (ap (λ (l : Text). b ∷ l) (over_at_append at s t x))

pub over_behind : (at end : ℕ) (s t x y : Text) → y ≡ over_at at s x → end ≡ at + length s → over_at end t y ≡ over_at at (s ++ t) x
over_behind at end s t x y e h = rw (e, h) (sym (over_at_append at s t x))

-- What lies past the place is as it was at first, in x₀; then so is what lies past what was written there.
pub past_over_at : (at : ℕ) (s x x₀ : Text) → at + length s ≤ length x → drop at x ≡ drop at x₀ → drop (at + length s) (over_at at s x) ≡ drop (at + length s) x₀
unfolding over_at
past_over_at at s x x₀ h e =
    let front : length (take at x) ≡ at = length-take-le at x (omega arith) in
    rw (over_fits s (drop at x) (omega (arith, length-drop at x)), ← append_assoc (take at x) s (drop (length s) (drop at x)))
    (drop_at (take at x ++ s) (drop (length s) (drop at x)) (at + length s) (length-append (take at x) s ∙ omega (arith, front))
    ∙ (ap (drop (length s)) e ∙ drop-drop (length s) at x₀))
