-- Language tags, @prefix and @base: after the @, within the letters, after a dash, within a subtag.
use mathlib.Core.Path.{◌≡◌, refl, subst, sym, ap, ◌∙◌}
use mathlib.Core.Bool.{Bool, true, false, not, ◌&&◌, ◌||◌}
use Prim.Native.Nat.{ℕ, ◌+◌, ◌≤◌, ◌<◌}
use native.Mathlib.Omega.{arith}
use borrow.Author.Tests.{eq-eqb, ne_eqb}
use lib.Dec.{T, eqb}
use lib.ListN.{length, get_or}
use Rattle.std.specs.Prelude.{Some, None}
use Rattle.text.specs.Text.{Text, ascii}
use Rattle.utf8.proofs.Tests.{or_false, nor}
use Rattle.token.specs.Regular.{in_ranges, step}
use Rattle.automaton.specs.Levels.{intervals}
use Rattle.automaton.specs.States.{after_at, in_tag, tag_dash, in_subtag, open_states}
use Rattle.automaton.specs.Run.{tok, At, TokenAt}
use Rattle.automaton.proofs.Steps.{only, sends, high_sends, mimics, Sent, Ends, Alias, pass, gain, done, at_end, as_other}
use Rattle.characters.specs.Bytes.{digit, letter, letter_or_digit}
use Rattle.characters.specs.Runs.{Span}
use Rattle.characters.proofs.Sets.{set_low}
use Rattle.characters.proofs.Spans.{enter}
use Rattle.lexer_words.specs.Agree.{Word, TagAt}
use Rattle.lexer_words.proofs.Agreeing.{one_of, narrow, spells, word_first}

abbrev is_letter : ℕ → Bool
is_letter b = in_ranges b letter

abbrev is_subtag : ℕ → Bool
is_subtag b = in_ranges b letter_or_digit

-- A letter that begins nor `prefix` nor `base`.
abbrev other_letter : ℕ → Bool
other_letter b = is_letter b && not (one_of 112 98 b)

record Moves : Type 0 where
  first : Sent after_at other_letter in_tag 7
  first_end : Ends after_at is_letter
  more : Sent in_tag is_letter in_tag 7
  dash : Sent in_tag (only 45) tag_dash 0
  end : Ends in_tag (λ b. is_letter b || eqb b 45)
  sub_first : Sent tag_dash is_subtag in_subtag 7
  dash_end : Ends tag_dash is_subtag
  sub_more : Sent in_subtag is_subtag in_subtag 7
  sub_like : Alias in_subtag in_tag is_subtag
  prefix : T (narrow 112 112 && sends after_at (one_of 112 112) (step 112 after_at) 7 && spells (step 112 after_at) (ascii "refix") (ascii "refix") in_tag 5 7)
  base : T (narrow 98 98 && sends after_at (one_of 98 98) (step 98 after_at) 7 && spells (step 98 after_at) (ascii "ase") (ascii "ase") in_tag 6 7)

moves : Moves
unfolding open_states sends high_sends mimics intervals
moves = record {
  first = record { test = tt };
  first_end = record { low = record { test = tt }; high = record { test = tt } };
  more = record { test = tt };
  dash = record { test = tt };
  end = record { low = record { test = tt }; high = record { test = tt } };
  sub_first = record { test = tt };
  dash_end = record { low = record { test = tt }; high = record { test = tt } };
  sub_more = record { test = tt };
  sub_like = record { test = tt };
  prefix = tt;
  base = tt;
}

module _ (s : Text) where
  -- subtags
  module _ (i k : ℕ) (g : TagAt s i k) where
    pub sub_end : length s ≤ i → TokenAt s (Some (tok k i))
    sub_end h = at_end g.at h

    module _ (h : i < length s) where
      pub sub_stop : (get_or s i 0 ≡ 45 → ⊥) → TokenAt s (Some (tok k i))
      sub_stop n = done g.at moves.end (λ _. nor (is_letter (get_or s i 0)) (eqb (get_or s i 0) 45) (g.end h) (ne_eqb _ _ n))

      module _ (e : get_or s i 0 ≡ 45) (j : ℕ) (sp : Span letter_or_digit s (i + 1) j) where
        dashed : At s tag_dash (i + 1) (Some (tok k i))
        dashed = pass g.at h (omega arith) (eq-eqb _ _ e) moves.dash

        pub sub_none : j ≡ i + 1 → TokenAt s (Some (tok k i))
        sub_none z = done dashed moves.dash_end (subst (λ (n : ℕ). n < length s → is_subtag (get_or s n 0) ≡ false) z sp.stop)

        pub sub_next : (j ≡ i + 1 → ⊥) → TagAt s j 7
        sub_next z =
            let f = sp.from in
            record {
              at = as_other (enter letter_or_digit tt (omega arith) moves.sub_first moves.sub_more sp (omega arith) dashed) moves.sub_like sp.stop;
              end = λ l. letter_no (get_or s j 0) (sp.stop l);
            }
          where
            letter_no : (b : ℕ) → is_subtag b ≡ false → is_letter b ≡ false
            letter_no b e = (or_false (in_ranges b digit) (is_letter b) (sym (split_or b) ∙ e)).1
              where
                split_or : (b : ℕ) → is_subtag b ≡ (in_ranges b digit || is_letter b)
                split_or b = simp or_assoc
                  where
                    or_assoc : (x y : Bool) → ((x || false) || y) ≡ (x || y)
                    or_assoc true y = refl
                    or_assoc false y = refl

  -- tag
  module _ (at kind i : ℕ) (g : At s in_tag at (Some (tok kind at))) (sp : Span letter s at i) where
    pub tag_same : i ≡ at → TagAt s at kind
    tag_same z = record { at = g; end = subst (λ (n : ℕ). n < length s → is_letter (get_or s n 0) ≡ false) z sp.stop }

    pub tag_more : (i ≡ at → ⊥) → TagAt s i 7
    tag_more z =
        let f = sp.from in
        record { at = enter letter tt (omega arith) moves.more moves.more sp (omega arith) g; end = sp.stop }

  -- at_sign
  module _ (g : At s after_at 1 None) where
    pub sign_end : length s < 2 → TokenAt s None
    sign_end h = at_end g (omega arith)

    module _ (h : 2 ≤ length s) where
      pub sign_prefix : get_or s 1 0 ≡ 112 → Word s 1 (ascii "prefix") (ascii "prefix") in_tag 5 7
      sign_prefix e = word_first s in_tag 5 7 112 112 (ascii "refix") (ascii "refix") after_at 1 moves.prefix (omega arith) (simp (eq-eqb _ _ e)) g

      pub sign_base : get_or s 1 0 ≡ 98 → Word s 1 (ascii "base") (ascii "base") in_tag 6 7
      sign_base e = word_first s in_tag 6 7 98 98 (ascii "ase") (ascii "ase") after_at 1 moves.base (omega arith) (simp (eq-eqb _ _ e)) g

      pub sign_none : is_letter (get_or s 1 0) ≡ false → TokenAt s None
      sign_none e = done g moves.first_end (λ _. e)

      pub sign_letter : (get_or s 1 0 ≡ 112 → ⊥) → (get_or s 1 0 ≡ 98 → ⊥) → is_letter (get_or s 1 0) ≡ true → At s in_tag 2 (Some (tok 7 2))
      sign_letter n m e =
          gain g (omega arith) (set_low letter tt (get_or s 1 0) e)
          (ap (λ (b : Bool). b && not (one_of 112 98 (get_or s 1 0))) e ∙ simp (ne_eqb _ _ n, ne_eqb _ _ m)) (omega arith) moves.first
