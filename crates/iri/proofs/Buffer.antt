-- The turns of 5.2.4's loop in one buffer: the output is its front, the input a window behind it.
use Prim.Native.Nat.{ℕ, zero, suc, ◌+◌, ◌-◌, ◌≤◌, ◌<◌}
use mathlib.Core.Path.{◌≡◌, refl, ap, sym, subst, ◌∙◌}
use mathlib.Core.List.{[], ◌∷◌, ◌++◌}
use native.Mathlib.Omega.{arith}
use lib.ListN.{length, get_or, take, drop}
use lib.Seq.{drop-drop, take-take, take-nil, drop-nil, length-take-le}
use Rattle.text.specs.Text.{Text}
use Rattle.iri.specs.Dots.{buffers, without_last_segment, turn, remove_dot_segments}
use Rattle.iri.specs.Code.{slash_end, window, rule, rule_by, segment, clean, Moved, Turned, Removed}
use Rattle.iri.specs.declared.Rule.{Rule}
use Rattle.iri.specs.declared.Rule.TheVariants.{UpSlash, HereSlash, SlashHere, SlashHereEnd, SlashUp, SlashUpEnd, Dots, Segment}
use Rattle.iri.specs.declared.Turn.{Turn}
use Rattle.iri.proofs.Places.{window_length, window_drop, window_one, window_get, slash_end_take, slash_end_most, without_last_is}
use Rattle.iri.proofs.Turns.{rule_bytes, in_after, out_after, turn_rule, Found, found, segment_least, segment_most, nil_of, clean_none, clean_turn}

-- The step by the bytes that were read.
pub rule_read : (l : Text) (at end : ℕ) (n c0 c1 c2 c3 : ℕ) (r : Rule) → end ≤ length l → n ≡ end - at
    → c0 ≡ get_or (window l at end) 0 0 → c1 ≡ get_or (window l at end) 1 0 → c2 ≡ get_or (window l at end) 2 0 → c3 ≡ get_or (window l at end) 3 0
    → r ≡ rule_by n c0 c1 c2 c3 → r ≡ rule (window l at end)
rule_read l at end n c0 c1 c2 c3 r h en e0 e1 e2 e3 er =
    let k : n ≡ length (window l at end) = en ∙ sym (window_length l at end h) in
    er ∙ rw (k, e0, e1, e2, e3) (sym (rule_bytes (window l at end)))

drop_more : (a b : Text) (n m : ℕ) → n ≤ m → drop n a ≡ drop n b → drop m a ≡ drop m b
drop_more a b n m h e =
    let k : m ≡ n + (m - n) = omega arith in
    rw k (sym (drop-drop (m - n) n a) ∙ ap (drop (m - n)) e ∙ drop-drop (m - n) n b)

-- How long what a step finds is.
abbrev pub least : Rule → ℕ
least UpSlash = 3
least HereSlash = 2
least SlashHere = 3
least SlashHereEnd = 2
least SlashUp = 4
least SlashUpEnd = 3
least Dots = 0
least Segment = 0

least_found : (i : Text) (r : Rule) → Found i r → least r ≤ length i
least_found i UpSlash f = f
least_found i HereSlash f = f
least_found i SlashHere f = f
least_found i SlashHereEnd f = omega (arith, ap length f)
least_found i SlashUp f = f
least_found i SlashUpEnd f = omega (arith, ap length f)
least_found i Dots f = omega arith
least_found i Segment f = omega arith

-- The output without its last segment is a shorter front of the buffer.
cut_front : (l : Text) (w : ℕ) → w ≤ length l → without_last_segment (take w l) ≡ take (slash_end l w - 1) l
cut_front l w h =
    without_last_is (take w l)
    ∙ rw (length-take-le w l h, slash_end_take l w w (omega arith)) (take-take (slash_end l w - 1) w l (omega (arith, slash_end_most l w)))

-- A window, cut the other way round.
pub window_as : (l : Text) (at end : ℕ) → window l at end ≡ take (end - at) (drop at l)
window_as [] at end = rw (take-nil end, drop-nil at, take-nil (end - at))
window_as (b ∷ l) zero zero = refl
window_as (b ∷ l) (suc at) zero = let k : 0 - suc at ≡ 0 = omega arith in rw k
window_as (b ∷ l) zero (suc end) = let k : suc end - 0 ≡ suc end = omega arith in rw k
window_as (b ∷ l) (suc at) (suc end) = let k : suc end - suc at ≡ end - at = omega arith in rw k (window_as l at end)

take_window : (l : Text) (at end n : ℕ) → n ≤ end - at → take n (window l at end) ≡ take n (drop at l)
take_window l at end n h = rw (window_as l at end) (take-take n (end - at) (drop at l) h)

window_same : (a b : Text) (at end : ℕ) → drop at a ≡ drop at b → window a at end ≡ window b at end
window_same a b at end e = window_as a at end ∙ ap (take (end - at)) e ∙ sym (window_as b at end)

module _ (x : Text) (at end w : ℕ) (fits : end ≤ length x) (some : at < end) (back : w ≤ at) (kind : Rule) (is_rule : kind ≡ rule (window x at end)) where
  abbrev left : Text
  left = window x at end

  left_length : length left ≡ end - at
  left_length = window_length x at end fits

  found_as : (k : Rule) → kind ≡ k → Found left k
  found_as k e = subst (Found left) (sym is_rule ∙ e) (found left)

  pub long : (k : Rule) → kind ≡ k → least k ≤ end - at
  long k e = subst (λ (n : ℕ). least k ≤ n) left_length (least_found left k (found_as k e))

  turned_as : (k : Rule) → kind ≡ k → (o i : Text) → out_after k left (take w x) ≡ o → in_after k left ≡ i → turn (buffers (take w x) left) ≡ buffers o i
  turned_as k e o i eo ei = turn_rule (take w x) left ∙ rw (← is_rule, e, eo, ei)

  -- A step that leaves the buffer as it is.
  stays : (k : Rule) → kind ≡ k → (t : Turn) → in_after k left ≡ window x t.at t.end → out_after k left (take w x) ≡ take t.w x
      → t.w ≤ t.at → t.at ≤ t.end → t.end ≤ end → t.w + t.end + at ≤ w + end + t.at → t.end - t.at < end - at → Turned x x at end w t
  stays k e t ei eo h1 h2 h3 h4 h5 = record {
    size = refl;
    turned = turned_as k e _ _ eo ei;
    back = refl;
    behind = h1;
    inside = h2;
    within = h3;
    short = h4;
    less = h5;
  }

  pub turned_up : kind ≡ UpSlash → Turned x x at end w (record { at = at + 3; end = end; w = w })
  unfolding in_after out_after
  turned_up e =
      let l = long UpSlash e in
      stays UpSlash e (record { at = at + 3; end = end; w = w }) (window_drop x at end 3) refl (omega arith) (omega arith) (omega arith) (omega arith) (omega arith)

  pub turned_here : kind ≡ HereSlash → Turned x x at end w (record { at = at + 2; end = end; w = w })
  unfolding in_after out_after
  turned_here e =
      let l = long HereSlash e in
      stays HereSlash e (record { at = at + 2; end = end; w = w }) (window_drop x at end 2) refl (omega arith) (omega arith) (omega arith) (omega arith) (omega arith)

  pub turned_stay : kind ≡ SlashHere → Turned x x at end w (record { at = at + 2; end = end; w = w })
  unfolding in_after out_after
  turned_stay e =
      let l = long SlashHere e in
      stays SlashHere e (record { at = at + 2; end = end; w = w }) (window_drop x at end 2) refl (omega arith) (omega arith) (omega arith) (omega arith) (omega arith)

  -- The slash that is left.
  left_slash : (t : Text) → left ≡ 47 ∷ t → 47 ∷ [] ≡ window x at (at + 1)
  left_slash t e =
      let k : at + 0 ≡ at = omega arith in
      let g : get_or x at 0 ≡ 47 = subst (λ (i : ℕ). get_or x i 0 ≡ 47) k (window_get x at end 0 (omega arith) ∙ ap (λ (l : Text). get_or l 0 0) e) in
      sym (window_one x at (omega arith) ∙ rw g)

  pub turned_stay_end : kind ≡ SlashHereEnd → Turned x x at end w (record { at = at; end = at + 1; w = w })
  unfolding in_after out_after
  turned_stay_end e =
      let l = long SlashHereEnd e in
      stays SlashHereEnd e (record { at = at; end = at + 1; w = w }) (left_slash (46 ∷ []) (found_as SlashHereEnd e)) refl (omega arith) (omega arith) (omega arith) (omega arith) (omega arith)

  pub turned_dots : kind ≡ Dots → Turned x x at end w (record { at = end; end = end; w = w })
  unfolding in_after out_after
  turned_dots e =
      let none : [] ≡ window x end end = sym (nil_of (window x end end) (omega (arith, window_length x end end fits))) in
      stays Dots e (record { at = end; end = end; w = w }) none refl (omega arith) (omega arith) (omega arith) (omega arith) (omega arith)

  -- The output loses its last segment: v bytes of it stay.
  module _ (v : ℕ) (cut : v ≡ slash_end x w - 1) where
    short_out : without_last_segment (take w x) ≡ take v x
    short_out = cut_front x w (omega arith) ∙ ap (λ (n : ℕ). take n x) (sym cut)

    cut_most : v ≤ w
    cut_most = omega (arith, slash_end_most x w)

    pub turned_back : kind ≡ SlashUp → Turned x x at end w (record { at = at + 3; end = end; w = v })
    unfolding in_after out_after
    turned_back e =
        let l = long SlashUp e in
        let m = cut_most in
        stays SlashUp e (record { at = at + 3; end = end; w = v }) (window_drop x at end 3) short_out (omega arith) (omega arith) (omega arith) (omega arith) (omega arith)

    pub turned_back_end : kind ≡ SlashUpEnd → Turned x x at end w (record { at = at; end = at + 1; w = v })
    unfolding in_after out_after
    turned_back_end e =
        let l = long SlashUpEnd e in
        let m = cut_most in
        stays SlashUpEnd e (record { at = at; end = at + 1; w = v }) (left_slash (46 ∷ 46 ∷ []) (found_as SlashUpEnd e)) short_out (omega arith) (omega arith) (omega arith) (omega arith) (omega arith)

  -- The first segment has moved to the output.
  module _ (n : ℕ) (en : n ≡ segment left) where
    pub segment_some : 0 < n
    segment_some = omega (arith, segment_least left (omega (arith, left_length)))

    pub segment_fits : n ≤ end - at
    segment_fits = omega (arith, segment_most left, left_length)

    pub turned_segment : kind ≡ Segment → (y : Text) → Moved x y at w n → Turned x y at end w (record { at = at + n; end = end; w = w + n })
    unfolding in_after out_after
    turned_segment e y m =
        let some_bytes = segment_some in
        let most = segment_fits in
        record {
          size = m.size;
          turned =
              turned_as Segment e _ _ (rw (← en) (ap (λ (l : Text). take w x ++ l) (take_window x at end n most) ∙ sym m.front))
              (rw (← en) (window_drop x at end n ∙ sym (window_same y x (at + n) end m.back)));
          back = drop_more y x (at + n) end (omega arith) m.back;
          behind = omega arith;
          inside = omega arith;
          within = omega arith;
          short = omega arith;
          less = omega arith;
        }

-- Where the loop stands after some turns: what is left gives the same path, and nothing past the path has changed.
pub record Turning (x y : Text) (n : ℕ) (t : Turn) : Type 0 where
  pub size : length y ≡ length x
  pub path : clean (window y t.at t.end) (take t.w y) ≡ remove_dot_segments (take n x)
  pub back : drop n y ≡ drop n x
  pub behind : t.w ≤ t.at
  pub inside : t.at ≤ t.end
  pub within : t.end ≤ n
  pub short : t.w + t.end ≤ n + t.at

pub turning_start : (x : Text) (n : ℕ) → Turning x x n (record { at = 0; end = n; w = 0 })
unfolding remove_dot_segments clean
turning_start x n = record {
  size = refl;
  path = refl;
  back = refl;
  behind = omega arith;
  inside = omega arith;
  within = omega arith;
  short = omega arith;
}

pub turning_more : (x y z : Text) (n : ℕ) (s t : Turn) → n ≤ length x → Turning x y n s → s.at < s.end → Turned y z s.at s.end s.w t → Turning x z n t
turning_more x y z n s t fits k some m = record {
  size = m.size ∙ k.size;
  path = sym (clean_turn (take s.w y) (window y s.at s.end) (take t.w z) (window z t.at t.end) (omega (arith, window_length y s.at s.end (omega (arith, k.size, k.within)))) m.turned) ∙ k.path;
  back = drop_more z y s.end n k.within m.back ∙ k.back;
  behind = m.behind;
  inside = m.inside;
  within = omega (arith, m.within, k.within);
  short = omega (arith, m.short, k.short);
}

pub turning_end : (x y : Text) (n : ℕ) (t : Turn) → n ≤ length x → Turning x y n t → t.end ≤ t.at → Removed x y n t.w
turning_end x y n t fits k h =
    let none : window y t.at t.end ≡ [] = nil_of (window y t.at t.end) (omega (arith, window_length y t.at t.end (omega (arith, k.size, k.within)))) in
    record {
      size = k.size;
      front = sym (clean_none (take t.w y)) ∙ (rw none at k.path);
      back = k.back;
      short = omega (arith, k.short, k.inside);
    }
