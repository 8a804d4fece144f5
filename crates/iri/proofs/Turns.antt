-- The turns of 5.2.4's loop: by the first bytes; each shortens the input; one more turn.
use Prim.Native.Nat.{ℕ, zero, suc, ◌+◌, ◌≤◌, ◌<◌}
use mathlib.Core.Path.{◌≡◌, refl, ap, sym, subst, ◌∙◌}
use mathlib.Core.List.{[], ◌∷◌, ◌++◌, append-nil}
use mathlib.Core.Bool.{Bool, true, false, ◌&&◌, ◌||◌}
use native.Mathlib.Omega.{arith}
use lib.ListN.{length, get_or, take, drop, length-drop}
use lib.Dec.{eqb}
use borrow.Author.Tests.{eq-eqb, ne_eqb, eqb-true, eqb-false}
use Rattle.text.specs.Text.{Text, ascii, cond, is, begins, same_text}
use Rattle.text.proofs.Compare.{by, begins_length, same_eq, and_false}
use Rattle.iri.specs.Dots.{Buffers, buffers, without_last_segment, first_segment, after_first_segment, turn, turns}
use Rattle.iri.specs.Code.{before, rule, rule_by, segment, clean}
use Rattle.iri.specs.declared.Rule.{Rule}
use Rattle.iri.specs.declared.Rule.TheVariants.{UpSlash, HereSlash, SlashHere, SlashHereEnd, SlashUp, SlashUpEnd, Dots, Segment}
use Rattle.iri.proofs.Places.{before_most, before_more, before_here, before_end, until_take, from_drop}

pub eqb_sym : (a b : ℕ) → eqb a b ≡ eqb b a
eqb_sym a b = by (eqb a b) (λ e. e ∙ sym (eq-eqb b a (sym (eqb-true a b e)))) (λ e. e ∙ sym (ne_eqb b a (λ q. eqb-false a b e (sym q))))

pub and_true : (b : Bool) → (b && true) ≡ b
and_true true = refl
and_true false = refl

pub rule_bytes : (s : Text) → rule s ≡ rule_by (length s) (get_or s 0 0) (get_or s 1 0) (get_or s 2 0) (get_or s 3 0)
unfolding rule rule_by begins same_text
rule_bytes [] = refl
rule_bytes (a ∷ []) = simp (eqb_sym 46 a, eqb_sym 47 a, and_true, and_false)
rule_bytes (a ∷ b ∷ []) = simp (eqb_sym 46 a, eqb_sym 47 a, eqb_sym 46 b, eqb_sym 47 b, and_true, and_false)
rule_bytes (a ∷ b ∷ c ∷ []) = simp (eqb_sym 46 a, eqb_sym 47 a, eqb_sym 46 b, eqb_sym 47 b, eqb_sym 46 c, eqb_sym 47 c, and_true, and_false)
rule_bytes (a ∷ b ∷ c ∷ d ∷ s) =
    simp (
      eqb_sym 46 a,
      eqb_sym 47 a,
      eqb_sym 46 b,
      eqb_sym 47 b,
      eqb_sym 46 c,
      eqb_sym 47 c,
      eqb_sym 47 d,
      and_true,
      and_false,
      ne_eqb (length (a ∷ b ∷ c ∷ d ∷ s)) 1 (λ e. omega arith),
      ne_eqb (length (a ∷ b ∷ c ∷ d ∷ s)) 2 (λ e. omega arith),
      ne_eqb (length (a ∷ b ∷ c ∷ d ∷ s)) 3 (λ e. omega arith),
    )

-- The buffers after the step of a rule.
unfoldable pub in_after : Rule → Text → Text
in_after UpSlash i = drop 3 i
in_after HereSlash i = drop 2 i
in_after SlashHere i = drop 2 i
in_after SlashHereEnd i = 47 ∷ []
in_after SlashUp i = drop 3 i
in_after SlashUpEnd i = 47 ∷ []
in_after Dots i = []
in_after Segment i = drop (segment i) i

unfoldable pub out_after : Rule → Text → Text → Text
out_after UpSlash i o = o
out_after HereSlash i o = o
out_after SlashHere i o = o
out_after SlashHereEnd i o = o
out_after SlashUp i o = without_last_segment o
out_after SlashUpEnd i o = without_last_segment o
out_after Dots i o = o
out_after Segment i o = o ++ take (segment i) i

first_is : (i : Text) → first_segment i ≡ take (segment i) i
unfolding first_segment segment
first_is [] = refl
first_is (c ∷ s) = ap (λ (l : Text). c ∷ l) (until_take (is "/") s)

after_is : (i : Text) → after_first_segment i ≡ drop (segment i) i
unfolding after_first_segment segment
after_is [] = refl
after_is (c ∷ s) = from_drop (is "/") s

pub turn_rule : (o i : Text) → turn (buffers o i) ≡ buffers (out_after (rule i) i o) (in_after (rule i) i)
unfolding turn rule in_after out_after
turn_rule o i =
    by (begins (ascii "../") i) (λ a. rw a)
    (λ a. by (begins (ascii "./") i) (λ b. rw (a, b))
    (λ b. by (begins (ascii "/./") i) (λ c. rw (a, b, c))
    (λ c. by (same_text i (ascii "/.")) (λ d. rw (a, b, c, d))
    (λ d. by (begins (ascii "/../") i) (λ e. rw (a, b, c, d, e))
    (λ e. by (same_text i (ascii "/..")) (λ f. rw (a, b, c, d, e, f))
    (λ f. by (same_text i (ascii ".") || same_text i (ascii "..")) (λ g. rw (a, b, c, d, e, f, g))
    (λ g. rw (a, b, c, d, e, f, g, first_is i, after_is i))))))))

-- What each step finds in front.
abbrev pub Found : Text → Rule → Type 0
Found i UpSlash = 3 ≤ length i
Found i HereSlash = 2 ≤ length i
Found i SlashHere = 3 ≤ length i
Found i SlashHereEnd = i ≡ 47 ∷ 46 ∷ []
Found i SlashUp = 4 ≤ length i
Found i SlashUpEnd = i ≡ 47 ∷ 46 ∷ 46 ∷ []
Found i Dots = Unit {0}
Found i Segment = Unit {0}

cond_case : {A : Type 0} (P : A → Type 0) (t : Bool) (a b : A) → (t ≡ true → P a) → P b → P (cond t a b)
cond_case P true a b f g = f refl
cond_case P false a b f g = g

pub found : (i : Text) → Found i (rule i)
unfolding rule
found i =
    cond_case (Found i) _ _ _ (begins_length _ i)
    (cond_case (Found i) _ _ _ (begins_length _ i)
    (cond_case (Found i) _ _ _ (begins_length _ i)
    (cond_case (Found i) _ _ _ (same_eq i _)
    (cond_case (Found i) _ _ _ (begins_length _ i)
    (cond_case (Found i) _ _ _ (same_eq i _)
    (cond_case (Found i) (same_text i (ascii ".") || same_text i (ascii "..")) Dots Segment (λ e. tt) tt))))))

pub segment_least : (s : Text) → 0 < length s → 0 < segment s
unfolding segment
segment_least [] h = h
segment_least (b ∷ s) h = omega arith

pub segment_most : (s : Text) → segment s ≤ length s
unfolding segment
segment_most [] = omega arith
segment_most (b ∷ s) = omega (arith, before_most (is "/") s)

shorter_by : (r : Rule) (i : Text) → Found i r → 0 < length i → length (in_after r i) < length i
unfolding in_after
shorter_by UpSlash i f h = simp length-drop (omega arith)
shorter_by HereSlash i f h = simp length-drop (omega arith)
shorter_by SlashHere i f h = simp length-drop (omega arith)
shorter_by SlashHereEnd i f h = omega (arith, ap length f)
shorter_by SlashUp i f h = simp length-drop (omega arith)
shorter_by SlashUpEnd i f h = omega (arith, ap length f)
shorter_by Dots i f h = h
shorter_by Segment i f h = omega (arith, length-drop (segment i) i, segment_least i h)

-- Each turn shortens the input, and an empty one stays empty.
shorter : (o i : Text) → 0 < length i → length (turn (buffers o i)).input < length i
shorter o i h = rw (turn_rule o i) (shorter_by (rule i) i (found i) h)

turn_none : (o : Text) → turn (buffers o []) ≡ buffers o []
unfolding turn begins same_text first_segment after_first_segment
turn_none o = rw append-nil

turns_none : (n : ℕ) (o : Text) → turns n (buffers o []) ≡ buffers o []
unfolding turns
turns_none zero o = refl
turns_none (suc n) o = rw (turn_none o) (turns_none n o)

pub nil_of : (s : Text) → length s ≤ 0 → s ≡ []
nil_of [] h = refl
nil_of (b ∷ s) h = absurd (omega arith)

fewer : (n : ℕ) (o i : Text) → length i ≤ suc n → length (turn (buffers o i)).input ≤ n
fewer n o [] h = rw (turn_none o) (omega arith)
fewer n o (b ∷ i) h = omega (arith, shorter o (b ∷ i) (omega arith))

-- More turns than bytes change nothing.
enough : (n m : ℕ) (o i : Text) → length i ≤ n → length i ≤ m → turns n (buffers o i) ≡ turns m (buffers o i)
unfolding turns
enough zero m o i h g = rw (nil_of i h) (sym (turns_none m o))
enough (suc n) zero o i h g = rw (nil_of i g) (turns_none (suc n) o)
enough (suc n) (suc m) o i h g = enough n m (turn (buffers o i)).out (turn (buffers o i)).input (fewer n o i h) (fewer m o i g)

pub clean_none : (o : Text) → clean [] o ≡ o
unfolding clean turns
clean_none o = refl

-- While anything is left: one turn, and on.
pub clean_turn : (o i o' i' : Text) → 0 < length i → turn (buffers o i) ≡ buffers o' i' → clean i o ≡ clean i' o'
unfolding clean turns
clean_turn o [] o' i' h e = absurd (omega arith)
clean_turn o (b ∷ i) o' i' h e =
    subst (λ (x : Buffers). (turns (length i) x).out ≡ (turns (length i') (buffers o' i')).out) (sym e)
    (ap (λ (x : Buffers). x.out)
    (enough (length i) (length i') o' i' (omega (arith, shorter o (b ∷ i) (omega arith), ap (λ (x : Buffers). length x.input) e)) (omega arith)))

-- A byte further in a segment.
pub segment_more : (s : Text) (n : ℕ) → n < length s → (0 < n → segment s ≡ n + before (is "/") (drop n s)) → (get_or s n 0 ≡ 47 → n ≡ 0)
    → segment s ≡ n + 1 + before (is "/") (drop (n + 1) s)
unfolding segment
segment_more [] n h f g = absurd (omega arith)
segment_more (b ∷ s) zero h f g = omega arith
segment_more (b ∷ s) (suc n) h f g =
    omega (arith, f (omega arith), before_more (is "/") (b ∷ s) (suc n) h (ne_eqb (get_or (b ∷ s) (suc n) 0) 47 (λ e. let q = g e in omega arith)))

pub segment_end : (s : Text) (n : ℕ) → length s ≤ n → 0 < n → (0 < n → segment s ≡ n + before (is "/") (drop n s)) → segment s ≡ n
segment_end s n h g f = omega (arith, f g, before_end (is "/") s n h)

pub segment_stop : (s : Text) (n : ℕ) → n < length s → 0 < n → (0 < n → segment s ≡ n + before (is "/") (drop n s)) → get_or s n 0 ≡ 47 → n ≡ segment s
segment_stop s n h g f e = omega (arith, f g, before_here (is "/") s n h (eq-eqb (get_or s n 0) 47 e))
