-- The first letters of a word: a keyword, or a name that begins as it does.
use mathlib.Core.Path.{◌≡◌, refl, subst, sym, ap, ◌∙◌}
use mathlib.Core.Logic.{◌⊎◌, inl, inr, ⊎_elim}
use mathlib.Core.Bool.{Bool, true, false, ◌&&◌, ◌||◌}
use mathlib.Core.List.{List, [], ◌∷◌}
use Prim.Native.Nat.{ℕ, ◌<◌}
use native.Mathlib.Omega.{arith}
use native.Mathlib.Nat.{zero-add}
use borrow.Author.Tests.{eq-eqb, lt-ltb, le-ltb}
use lib.Dec.{T, eqb}
use lib.ListN.{length, get_or, drop}
use Rattle.std.specs.Prelude.{Option, Some, None}
use Rattle.text.specs.Text.{Text, ascii, cond}
use Rattle.utf8.specs.Utf8.{Range, ◌–◌, width}
use Rattle.utf8.proofs.Tests.{by, below, below_at, same, same_eq}
use Rattle.token.specs.Regular.{in_ranges, step}
use Rattle.automaton.specs.Levels.{intervals}
use Rattle.automaton.specs.States.{start, first_letter, in_prefix, open_states}
use Rattle.automaton.specs.Run.{tok, At, TokenAt}
use Rattle.automaton.proofs.Steps.{only, never, sends, high_sends, mimics, Sent, Alias, begin, gain, as_other}
use Rattle.characters.specs.Bytes.{letter}
use Rattle.characters.specs.Names.{base, passes, CharAt}
use Rattle.characters.proofs.Points.{first, CharSent, CharEnds, char_on, char_off}
use Rattle.lexer_words.specs.Agree.{agreeing, Word}
use Rattle.lexer_words.specs.Front.{mark}
use Rattle.lexer_words.proofs.Agreeing.{one_of, narrow, spells, word_first}

-- The first letters of keywords, and the other letters.
abbrev pub key_letter : List Range
key_letter = (66 – 66) ∷ (71 – 71) ∷ (80 – 80) ∷ (97 – 98) ∷ (102 – 103) ∷ (112 – 112) ∷ (116 – 116) ∷ []

abbrev other_letter : List Range
other_letter = (65 – 65) ∷ (67 – 70) ∷ (72 – 79) ∷ (81 – 90) ∷ (99 – 101) ∷ (104 – 111) ∷ (113 – 115) ∷ (117 – 122) ∷ []

-- A word, in two cases, of the kind k leads from the beginning on as a prefix does.
abbrev leads : Text → Text → ℕ → Bool
leads [] up k = false
leads (x ∷ low) [] k = false
leads (x ∷ low) (y ∷ up) k = narrow x y && sends start (one_of x y) (step x start) 0 && spells (step x start) low up in_prefix k 0

record Moves : Type 0 where
  a : Sent start (only 97) (step 97 start) 13
  a_like : Alias (step 97 start) in_prefix never
  true_leads : T (leads (ascii "true") (ascii "true") 14)
  false_leads : T (leads (ascii "false") (ascii "false") 15)
  prefix_leads : T (leads (ascii "prefix") (ascii "PREFIX") 16)
  base_leads : T (leads (ascii "base") (ascii "BASE") 17)
  graph_leads : T (leads (ascii "graph") (ascii "GRAPH") 18)
  other : CharSent start other_letter base first_letter 0
  other_like : Alias first_letter in_prefix never
  none : CharEnds start letter base (λ b. in_ranges b mark)
  letters : T (below (λ b. in_ranges b key_letter || same (in_ranges b letter) (in_ranges b other_letter)) 128)

moves : Moves
unfolding open_states sends high_sends mimics intervals
moves = record {
  a = record { test = tt };
  a_like = record { test = tt };
  true_leads = tt;
  false_leads = tt;
  prefix_leads = tt;
  base_leads = tt;
  graph_leads = tt;
  other = record { low = record { test = tt }; high = record { test = tt } };
  other_like = record { test = tt };
  none = record { low = record { test = tt }; high = record { test = tt } };
  letters = tt;
}

module _ (s : Text) (h : 0 < length s) where
  -- A keyword whose first letter stands there; neither letter is a quote or a colon.
  word_at : (x y : ℕ) (low up : Text) (k : ℕ) → T (leads (x ∷ low) (y ∷ up) k) → (get_or s 0 0 ≡ 34 → ⊥) → (get_or s 0 0 ≡ 39 → ⊥)
      → one_of x y (get_or s 0 0) ≡ true → Word s 0 (x ∷ low) (y ∷ up) in_prefix k 0
  word_at x y low up k t n m p = word_first s in_prefix k 0 x y low up start 0 t h p (begin s n m)

  pub name_a : get_or s 0 0 ≡ 97 → At s in_prefix 1 (Some (tok 13 1))
  name_a e =
      as_other (gain (begin s (λ x. absurd (omega arith)) (λ x. absurd (omega arith))) h (omega arith) (eq-eqb _ _ e) (omega arith) moves.a) moves.a_like
      (λ _. refl)

  pub name_true : get_or s 0 0 ≡ 116 → Word s 0 (ascii "true") (ascii "true") in_prefix 14 0
  name_true e = word_at 116 116 (ascii "rue") (ascii "rue") 14 moves.true_leads (λ x. absurd (omega arith)) (λ x. absurd (omega arith)) (simp (eq-eqb _ _ e))

  pub name_false : get_or s 0 0 ≡ 102 → Word s 0 (ascii "false") (ascii "false") in_prefix 15 0
  name_false e = word_at 102 102 (ascii "alse") (ascii "alse") 15 moves.false_leads (λ x. absurd (omega arith)) (λ x. absurd (omega arith)) (simp (eq-eqb _ _ e))

  -- One of two letters.
  either : (x y : ℕ) → (get_or s 0 0 ≡ y) ⊎ (get_or s 0 0 ≡ x) → one_of x y (get_or s 0 0) ≡ true
  either x y (inr e) = simp (eq-eqb _ _ e)
  either x y (inl e) = by (eqb (get_or s 0 0) x) (λ p. simp p) (λ p. simp (p, eq-eqb _ _ e))

  apart : (x y k : ℕ) → (x ≡ k → ⊥) → (y ≡ k → ⊥) → (get_or s 0 0 ≡ y) ⊎ (get_or s 0 0 ≡ x) → get_or s 0 0 ≡ k → ⊥
  apart x y k n m (inl e) f = m (sym e ∙ f)
  apart x y k n m (inr e) f = n (sym e ∙ f)

  pub name_prefix : (get_or s 0 0 ≡ 80) ⊎ (get_or s 0 0 ≡ 112) → Word s 0 (ascii "prefix") (ascii "PREFIX") in_prefix 16 0
  name_prefix e =
      word_at 112 80 (ascii "refix") (ascii "REFIX") 16 moves.prefix_leads (apart 112 80 34 (λ x. omega arith) (λ x. omega arith) e)
      (apart 112 80 39 (λ x. omega arith) (λ x. omega arith) e) (either 112 80 e)

  pub name_base : (get_or s 0 0 ≡ 66) ⊎ (get_or s 0 0 ≡ 98) → Word s 0 (ascii "base") (ascii "BASE") in_prefix 17 0
  name_base e =
      word_at 98 66 (ascii "ase") (ascii "ASE") 17 moves.base_leads (apart 98 66 34 (λ x. omega arith) (λ x. omega arith) e)
      (apart 98 66 39 (λ x. omega arith) (λ x. omega arith) e) (either 98 66 e)

  pub name_graph : (get_or s 0 0 ≡ 71) ⊎ (get_or s 0 0 ≡ 103) → Word s 0 (ascii "graph") (ascii "GRAPH") in_prefix 18 0
  name_graph e =
      word_at 103 71 (ascii "raph") (ascii "RAPH") 18 moves.graph_leads (apart 103 71 34 (λ x. omega arith) (λ x. omega arith) e)
      (apart 103 71 39 (λ x. omega arith) (λ x. omega arith) e) (either 103 71 e)

  pub no_colon : (x y : ℕ) → (x ≡ 58 → ⊥) → (y ≡ 58 → ⊥) → (get_or s 0 0 ≡ y) ⊎ (get_or s 0 0 ≡ x) → get_or s 0 0 ≡ 58 → ⊥
  no_colon x y n m e = apart x y 58 n m e

  -- No mark stands there.
  module _ (m : in_ranges (get_or s 0 0) mark ≡ false) where
    no_mark : (k : ℕ) → in_ranges k mark ≡ true → get_or s 0 0 ≡ k → ⊥
    no_mark k t e = let z : true ≡ false = sym t ∙ sym (ap (λ (b : ℕ). in_ranges b mark) e) ∙ m in subst T z tt

    pub no_colon_mark : get_or s 0 0 ≡ 58 → ⊥
    no_colon_mark = no_mark 58 refl

    front : At s start 0 None
    front = begin s (no_mark 34 refl) (no_mark 39 refl)

    module _ (r : Option ℕ) (c : CharAt letter base s 0 r) where
      pub name_none : r ≡ None → TokenAt s None
      name_none z = char_off front c moves.none z (λ _. m)

      -- The first character begins no keyword.
      other : in_ranges (get_or s 0 0) key_letter ≡ false → CharAt other_letter base s 0 r
      other k = record {
        within = c.within;
        right = λ d u z y.
            let a : passes letter base d ≡ passes other_letter base d =
            ⊎_elim
            (λ v.
            let w : T (in_ranges d key_letter || same (in_ranges d letter) (in_ranges d other_letter)) =
            below_at (λ b. in_ranges b key_letter || same (in_ranges b letter) (in_ranges b other_letter)) 128 moves.letters d v.0 in
            let k' : in_ranges d key_letter ≡ false = ap (λ (b : ℕ). in_ranges b key_letter) (sym v.1) ∙ k in
            rw (lt-ltb d 128 v.0) (same_eq (in_ranges d letter) (in_ranges d other_letter) (rw k' at w)))
            (λ v. rw (le-ltb d 128 v.0))
            (first s 0 d u y) in
            c.right d u z y ∙ ap (λ (b : Bool). cond b (Some (width d)) None) a;
      }

      pub name_more : in_ranges (get_or s 0 0) key_letter ≡ false → (n : ℕ) → r ≡ Some n → At s in_prefix n None
      name_more k n z =
          as_other (subst (λ (i : ℕ). At s first_letter i None) (zero-add n) (char_on front (other k) moves.other z)) moves.other_like (λ _. refl)

-- ---- The routine `keyword`: the word begins at 0

module _ {s low up : Text} {k m : ℕ} (w : Word s 0 low up in_prefix k 0) (e : m ≡ agreeing (drop 0 s) low up) where
  pub key_whole : m ≡ length low → At s in_prefix m (Some (tok k m))
  key_whole f = subst (λ (i : ℕ). At s in_prefix i (Some (tok k i))) (zero-add m) ((w.read m e).whole f)

  pub key_part : (m ≡ length low → ⊥) → At s in_prefix m None
  key_part f = subst (λ (i : ℕ). At s in_prefix i None) (zero-add m) ((w.read m e).part f)
