-- The first byte: which routine goes on, and in which state.
use mathlib.Core.Path.{◌≡◌, subst, sym, ap, ◌∙◌}
use mathlib.Core.Logic.{◌⊎◌, inl, inr}
use mathlib.Core.Bool.{Bool, true, false, not, ◌&&◌, ◌||◌}
use mathlib.Core.List.{List, [], ◌∷◌}
use Prim.Native.Nat.{ℕ, ◌≤◌, ◌<◌}
use native.Mathlib.Omega.{arith}
use borrow.Author.Tests.{eq-eqb, ne_eqb, le-leb}
use lib.Dec.{T, eqb, ltb, ltb→lt}
use lib.ListN.{length, get_or}
use Rattle.std.specs.Prelude.{Option, Some, None, is_some}
use Rattle.text.specs.Text.{Text, cond}
use Rattle.utf8.specs.Utf8.{Range, ◌–◌}
use Rattle.utf8.proofs.Tests.{by, below, below_at, and_true}
use Rattle.token.specs.Regular.{in_ranges, step}
use Rattle.automaton.specs.Levels.{intervals}
use Rattle.automaton.specs.States.{start, dead, after_sign, in_integer, after_dot, after_at, after_underscore, after_colon, after_caret, after_carets, open_states}
use Rattle.automaton.specs.Run.{tok, At, TokenAt}
use Rattle.automaton.proofs.Steps.{only, always, never, sends, high_sends, Sent, Ends, begin, pass, gain, done, stop, at_end}
use Rattle.characters.specs.Bytes.{digit, sign}
use Rattle.characters.proofs.Sets.{take_pass, take_gain}
use Rattle.lexer_words.specs.Front.{mark}
use Rattle.lexer.specs.Marks.{mark_code}

-- A mark is a token of its kind, and nothing leads on from it.
abbrev mark_is : ℕ → Option ℕ → Bool
mark_is b None = true
mark_is b (Some k) = ltb b 128 && ltb 0 k && sends start (only b) (step b start) k && sends (step b start) (λ x. not (never x)) dead 0 && high_sends (step b start) always dead

abbrev mark_test : ℕ → Bool
mark_test b = mark_is b (mark_code b)

-- The bytes of `mark` that are none of these.
abbrev pub other_mark : List Range
other_mark = (34 – 34) ∷ (39 – 39) ∷ (43 – 43) ∷ (45 – 46) ∷ (48 – 58) ∷ (60 – 60) ∷ (64 – 64) ∷ (94 – 95) ∷ []

abbrev split_test : ℕ → Bool
split_test b = cond (in_ranges b mark) (in_ranges b other_mark || is_some (mark_code b)) true

record Moves : Type 0 where
  sign_first : Sent start (λ b. in_ranges b sign) after_sign 0
  digit_first : Sent start (λ b. in_ranges b digit) in_integer 8
  dot_first : Sent start (only 46) after_dot 19
  at_first : Sent start (only 64) after_at 0
  under_first : Sent start (only 95) after_underscore 0
  colon_first : Sent start (only 58) after_colon 2
  caret_first : Sent start (only 94) after_caret 0
  caret_second : Sent after_caret (only 94) after_carets 28
  caret_none : Ends after_caret (only 94)
  caret_end : Ends after_carets never
  marks : T (below mark_test 256)
  parts : T (below split_test 256)

moves : Moves
unfolding open_states sends high_sends intervals
moves = record {
  sign_first = record { test = tt };
  digit_first = record { test = tt };
  dot_first = record { test = tt };
  at_first = record { test = tt };
  under_first = record { test = tt };
  colon_first = record { test = tt };
  caret_first = record { test = tt };
  caret_second = record { test = tt };
  caret_none = record { low = record { test = tt }; high = record { test = tt } };
  caret_end = record { low = record { test = tt }; high = record { test = tt } };
  marks = tt;
  parts = tt;
}

-- Nothing else than marks and what `other_mark` has stands in `mark`.
pub no_mark : (b : ℕ) → b < 256 → mark_code b ≡ None → false ≡ in_ranges b other_mark → in_ranges b mark ≡ false
no_mark b h z o =
    by (in_ranges b mark)
    (λ e.
    let t : T (in_ranges b other_mark || is_some (mark_code b)) = rw e at (below_at split_test 256 moves.parts b h) in
    absurd (fin (in_ranges b other_mark) (is_some (mark_code b)) (sym o) (ap is_some z) t))
    (λ e. e)
  where
    fin : (a c : Bool) → a ≡ false → c ≡ false → T (a || c) → ⊥
    fin true c e f t = subst T e tt
    fin false true e f t = subst T f tt
    fin false false e f t = t

module _ (s : Text) (h : 0 < length s) where
  from_start : (b : ℕ) → T (not (eqb b 34) && not (eqb b 39)) → get_or s 0 0 ≡ b → At s start 0 None
  from_start b t e =
      let v = and_true (not (eqb b 34)) (not (eqb b 39)) t in
      begin s (λ x. subst T (ap not (eq-eqb b 34 (sym e ∙ x))) v.0) (λ x. subst T (ap not (eq-eqb b 39 (sym e ∙ x))) v.1)

  pub to_dot : get_or s 0 0 ≡ 46 → At s after_dot 1 (Some (tok 19 1))
  to_dot e = gain (from_start 46 tt e) h (omega arith) (eq-eqb _ _ e) (omega arith) moves.dot_first

  pub to_at : get_or s 0 0 ≡ 64 → At s after_at 1 None
  to_at e = pass (from_start 64 tt e) h (omega arith) (eq-eqb _ _ e) moves.at_first

  pub to_label : get_or s 0 0 ≡ 95 → At s after_underscore 1 None
  to_label e = pass (from_start 95 tt e) h (omega arith) (eq-eqb _ _ e) moves.under_first

  pub to_local : get_or s 0 0 ≡ 58 → At s after_colon 1 (Some (tok 2 1))
  to_local e = gain (from_start 58 tt e) h (omega arith) (eq-eqb _ _ e) (omega arith) moves.colon_first

  pub to_signed : (get_or s 0 0 ≡ 43) ⊎ (get_or s 0 0 ≡ 45) → At s after_sign 1 None
  to_signed (inl e) = take_pass sign (from_start 43 tt e) h tt (rw e) moves.sign_first
  to_signed (inr e) = take_pass sign (from_start 45 tt e) h tt (rw e) moves.sign_first

  pub to_integer : 48 ≤ get_or s 0 0 → get_or s 0 0 < 58 → At s in_integer 1 (Some (tok 8 1))
  to_integer l u =
      take_gain digit (begin s (λ x. absurd (omega arith)) (λ x. absurd (omega arith))) h tt (simp (le-leb 48 (get_or s 0 0) l, le-leb (get_or s 0 0) 57 (omega arith)))
      (omega arith) moves.digit_first

  module _ (e : get_or s 0 0 ≡ 94) where
    caret : At s after_caret 1 None
    caret = pass (from_start 94 tt e) h (omega arith) (eq-eqb _ _ e) moves.caret_first

    pub carets_end : length s ≤ 1 → TokenAt s None
    carets_end l = at_end caret l

    pub carets_none : (get_or s 1 0 ≡ 94 → ⊥) → TokenAt s None
    carets_none n = done caret moves.caret_none (λ _. ne_eqb _ _ n)

    pub carets_yes : 1 < length s → get_or s 1 0 ≡ 94 → TokenAt s (Some (tok 28 2))
    carets_yes l f = stop (gain caret l (omega arith) (eq-eqb _ _ f) (omega arith) moves.caret_second) moves.caret_end

  pub to_mark : (b : ℕ) → get_or s 0 0 ≡ b → b < 256 → (k : ℕ) → mark_code b ≡ Some k → TokenAt s (Some (tok k 1))
  to_mark b e l k f =
      let t = subst (λ (m : Option ℕ). T (mark_is b m)) f (below_at mark_test 256 moves.marks b l) in
      let t3 = and_true (ltb b 128 && ltb 0 k && sends start (only b) (step b start) k && sends (step b start) (λ x. not (never x)) dead 0) (high_sends (step b start) always dead) t in
      let t2 = and_true (ltb b 128 && ltb 0 k && sends start (only b) (step b start) k) (sends (step b start) (λ x. not (never x)) dead 0) t3.0 in
      let t1 = and_true (ltb b 128 && ltb 0 k) (sends start (only b) (step b start) k) t2.0 in
      let t0 = and_true (ltb b 128) (ltb 0 k) t1.0 in
      let u = ltb→lt b 128 t0.0 in
      let g = begin s (λ x. no_code (sym f ∙ ap mark_code (sym e ∙ x))) (λ x. no_code (sym f ∙ ap mark_code (sym e ∙ x))) in
      stop (gain g h (omega arith) (eq-eqb _ _ e) (ltb→lt 0 k t0.1) (record { test = t1.1 })) (record { low = record { test = t2.1 }; high = record { test = t3.1 } })
    where
      no_code : Some k ≡ None → ⊥
      no_code y = let z : ◌≡◌ {A = ℕ} 0 1 = cc in omega arith

pub to_nothing : (s : Text) → length s ≡ 0 → TokenAt s None
to_nothing [] e = at_end (begin [] (λ x. absurd (omega arith)) (λ x. absurd (omega arith))) (omega arith)
to_nothing (b ∷ s) e = absurd (omega arith)
