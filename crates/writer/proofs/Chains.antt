-- Texts written one after the other.
use mathlib.Core.Path.{◌≡◌, refl, ap, sym, ◌∙◌}
use mathlib.Core.List.{[], ◌∷◌, ◌++◌}
use Prim.Native.Nat.{ℕ, zero, suc, ◌+◌, ◌≤◌}
use native.Mathlib.Nat.{zero-add, add-zero, suc-add}
use native.Mathlib.Omega.{arith}
use lib.ListN.{length, set, length-append}
use Rattle.text.specs.Text.{Text}
use Rattle.text.specs.Slice.{over_at}
use Rattle.text.proofs.Over.{over_nothing, over_append, over_at_none, over_at_more, over_at_enough, over_at_length}
use Rattle.writer.specs.Writing.{Countable, Wrote}

over_at_append : (at : ℕ) (s t x : Text) → over_at at (s ++ t) x ≡ over_at (at + length s) t (over_at at s x)
unfolding over_at
over_at_append zero s t x = rw (zero-add (length s)) (over_append s t x)
over_at_append (suc at) s t [] = over_nothing (s ++ t) ∙ sym (rw (over_nothing s, suc-add at (length s)) (over_nothing t))
over_at_append (suc at) s t (b ∷ x) = rw (suc-add at (length s)) (ap (λ (l : Text). b ∷ l) (over_at_append at s t x))

-- ---- Two texts

module _ {at m : ℕ} {a b x y : Text} (v : Wrote at a x y m) where
  pub both : {z : Text} {n : ℕ} → Wrote m b y z n → Wrote at (a ++ b) x z n
  both w = record {
    end = let e = v.end in let f = w.end in let g = length-append a b in omega arith;
    out = w.out ∙ rw (v.end, v.out) (sym (over_at_append at a b x));
  }

  pub room_after : Countable at (a ++ b) → Countable m b
  room_after r = record { fits = let e = v.end in let f = r.fits in let g = length-append a b in omega arith }

pub room_before : {at : ℕ} (a b : Text) → Countable at (a ++ b) → Countable at a
room_before a b r = record { fits = let f = r.fits in let g = length-append a b in omega arith }

-- ---- Nothing, and one byte

pub wrote_nothing : (at : ℕ) (x : Text) → Wrote at [] x x at
wrote_nothing at x = record { end = sym (add-zero at); out = sym (over_at_none at x) }

module _ (at c : ℕ) (x : Text) where
  pub wrote_byte : Wrote at (c ∷ []) x (set x at c) (at + 1)
  wrote_byte = record {
    end = refl;
    out = sym (over_at_more at (c ∷ []) x 0 (omega arith) ∙ rw (over_at_none at x, add-zero at));
  }

  pub wrote_past : length x ≤ at → Wrote at (c ∷ []) x x (at + 1)
  wrote_past h = record { end = refl; out = sym (over_at_none at x) ∙ over_at_enough at (c ∷ []) x 0 (omega arith) }

pub wrote_length : {at : ℕ} {s x y : Text} {r : ℕ} → Wrote at s x y r → length y ≡ length x
wrote_length {at} {s} {x} w = ap length w.out ∙ over_at_length at s x
