-- Comparing and writing a text in its two parts.
use Prim.Native.Nat.{ℕ, ◌+◌, ◌-◌, ◌≤◌, ◌<◌}
use mathlib.Core.Path.{◌≡◌, refl, ap, sym, ◌∙◌}
use mathlib.Core.List.{[], ◌∷◌, ◌++◌, append-nil}
use mathlib.Core.Bool.{Bool, true, false, ◌&&◌}
use native.Mathlib.Omega.{arith}
use lib.ListN.{length, take, drop, length-append, length-drop, drop_of_length-le}
use lib.Seq.{length-take-le}
use lib.Dec.{eqb}
use Rattle.text.specs.Text.{Text, is, same_text, begins, some_byte}
use Rattle.text.specs.Slice.{over, over_at}
use Rattle.text.proofs.Compare.{by, begins_short, same_append, and_false}
use Rattle.text.proofs.Over.{over_length, over_append, rest_all}
use Rattle.escape.specs.Code.{Written}
use Rattle.escape.proofs.Walk.{plain_text, plain_name, plain_good}
use Rattle.spelling.specs.Form.{undo, bad, joined}
use Rattle.spelling.specs.declared.Form.{Form}
use Rattle.spelling.specs.declared.Form.TheVariants.{Plain, Escaped, Reserved}

-- A text begins with another if its front of that length is the same.
begins_take : (s t : Text) → begins s t ≡ same_text s (take (length s) t)
unfolding begins same_text
begins_take [] [] = refl
begins_take [] (b ∷ t) = refl
begins_take (a ∷ s) [] = refl
begins_take (a ∷ s) (b ∷ t) = by (eqb a b) (λ e. rw e (begins_take s t)) (λ e. rw e)

and_true : (b : Bool) → (b && true) ≡ b
and_true true = refl
and_true false = refl

-- Without a backslash every form is the plain one.
pub plain_form : (form : Form) (s : Text) → some_byte (is "\\") s ≡ false → (s ≡ undo form s) × (false ≡ bad form s)
unfolding undo bad
plain_form Plain s e = (refl, refl)
plain_form Escaped s e = (sym (plain_text s e), plain_good s e)
plain_form Reserved s e = (sym (plain_name s e), refl)

module _ (front : Text) (form : Form) (back t : Text) where
  pub joined_short : length t < length front → false ≡ same_text (joined front form back) t
  unfolding joined
  joined_short h = sym (same_append front (undo form back) t ∙ rw (begins_short front t h))

  abbrev end_of : Text
  end_of = take (length t - length front) (drop (length front) t)

  pub joined_not : same_text (undo form back) end_of ≡ false → false ≡ same_text (joined front form back) t
  unfolding joined
  joined_not e = sym (same_append front (undo form back) t ∙ rw (← rest_all t (length front), e, and_false (begins front t)))

  pub joined_same : (r : Bool) → same_text (undo form back) end_of ≡ true → r ≡ same_text front (take (length front) t) → r ≡ same_text (joined front form back) t
  unfolding joined
  joined_same r e h = h ∙ sym (same_append front (undo form back) t ∙ rw (← rest_all t (length front), e, and_true (begins front t)) (begins_take front t))

-- What a part of a slice, given back, leaves in the slice.
pub given_back : (x y : Text) (n : ℕ) → take n x ++ (y ++ drop (length x - n) (drop n x)) ≡ take n x ++ y
given_back x y n = rw (drop_of_length-le (drop n x) {i = length x - n} (omega (arith, length-drop n x)), append-nil)

pub joined_length : (front : Text) (form : Form) (back : Text) → length (joined front form back) ≡ length front + length (undo form back)
unfolding joined
joined_length front form back = length-append front (undo form back)

-- The front was written, which made y of x, and then the back behind it.
module _ (front : Text) (form : Form) (back x y : Text) (e : y ≡ over front x) (room : length (joined front form back) ≤ length x) where
  pub joined_room : length front + length (undo form back) ≤ length y
  joined_room = omega (arith, joined_length front form back, ap length e, over_length front x)

  behind : (w : Text) → w ≡ over (undo form back) (drop (length front) y) → take (length front) y ++ w ≡ over (joined front form back) x
  unfolding joined over_at
  behind w k = rw (k, e) (sym (over_append front (undo form back) x))

  pub joined_written : (w : Text) (r : ℕ) → Written (bad form back ≡ false) (undo form back) (take (length y - length front) (drop (length front) y)) w r
      → Written (bad form back ≡ false) (joined front form back) x (take (length front) y ++ (w ++ drop (length y - length front) (drop (length front) y))) (length front + r)
  joined_written w r h =
      let rest : take (length y - length front) (drop (length front) y) ≡ drop (length front) y = rest_all y (length front) in
      let same : length w ≡ length (drop (length front) y) = h.size ∙ ap length rest in
      record {
        long = ap (λ (n : ℕ). length front + n) h.long ∙ sym (joined_length front form back);
        size =
            ap length (given_back y w (length front))
            ∙ (length-append (take (length front) y) w ∙ omega (arith, same, joined_room, length-drop (length front) y, length-take-le (length front) y (omega (arith, joined_room)), ap length e, over_length front x));
        text = λ g. given_back y w (length front) ∙ behind w (h.text g ∙ ap (over (undo form back)) rest);
      }
