-- Words: what the routine `agree` computes, and the automaton over a word, whatever part of it agrees.
use mathlib.Core.Path.{◌≡◌, refl, sym, ap, ◌∙◌}
use mathlib.Core.Logic.{⊎_elim}
use mathlib.Core.Bool.{Bool, true, false, ◌&&◌, ◌||◌}
use mathlib.Core.List.{[], ◌∷◌}
use Prim.Native.Nat.{ℕ, zero, suc, ◌+◌, ◌-◌, ◌≤◌, ◌<◌}
use native.Mathlib.Omega.{arith}
use native.Mathlib.Nat.{add-zero, zero-add}
use native.Mathlib.Numerals.{add-one}
use borrow.Author.Tests.{eqb-true}
use lib.Dec.{T, eqb, ltb, ltb→lt}
use lib.ListN.{length, get_or, drop, drop_of_length-le}
use lib.Seq.{drop-cons}
use Rattle.std.specs.Prelude.{Option, None}
use Rattle.automaton.specs.declared.Token.{Token}
use Rattle.text.specs.Text.{Text, cond}
use Rattle.utf8.proofs.Tests.{by, split, and_true, or_true}
use Rattle.token.specs.Regular.{step}
use Rattle.automaton.specs.States.{State}
use Rattle.automaton.specs.Run.{At}
use Rattle.automaton.proofs.Steps.{never, sends, mimics, Sent, Alias, pass, gain, as_other}
use Rattle.lexer_words.specs.Agree.{agreeing, end_at, WordAt, Word}

-- ---- The routine `agree`

none_agree : (s up : Text) → agreeing s [] up ≡ 0
unfolding agreeing
none_agree [] up = refl
none_agree (b ∷ s) up = refl

module _ (s : Text) (at : ℕ) (low up : Text) where
  -- The first k bytes agree.
  abbrev pub Agrees : ℕ → Type 0
  Agrees k = agreeing (drop at s) low up ≡ k + agreeing (drop (at + k) s) (drop k low) (drop k up)

  pub agree_begin : Agrees 0
  agree_begin =
      let e : at + 0 ≡ at = omega arith in
      sym (zero-add (agreeing (drop at s) low up)) ∙ sym (ap (λ (n : ℕ). 0 + agreeing (drop n s) low up) e)

  module _ (k : ℕ) (g : Agrees k) where
    pub agree_short : length s - at ≤ k → k ≡ agreeing (drop at s) low up
    unfolding agreeing
    agree_short h =
        sym (g ∙ ap (λ (x : Text). k + agreeing x (drop k low) (drop k up)) (drop_of_length-le s {i = at + k} (omega arith)) ∙ add-zero k)

    pub agree_whole : length low ≤ k → k ≡ agreeing (drop at s) low up
    agree_whole h =
        sym
        (g ∙ ap (λ (x : Text). k + agreeing (drop (at + k) s) x (drop k up)) (drop_of_length-le low {i = k} h)
        ∙ ap (λ (n : ℕ). k + n) (none_agree (drop (at + k) s) (drop k up)) ∙ add-zero k)

    module _ (h : k < length low) (p : length low ≡ length up) (l : k < length s - at) (v : Bool) (e : v ≡ eqb (get_or s (at + k) 0) (get_or low k 0) || eqb (get_or s (at + k) 0) (get_or up k 0)) where
      next : agreeing (drop (at + k) s) (drop k low) (drop k up) ≡ cond v (suc (agreeing (drop (suc (at + k)) s) (drop (suc k) low) (drop (suc k) up))) 0
      unfolding agreeing
      next = rw (e, drop-cons s (at + k) 0 (omega arith), drop-cons low k 0 h, drop-cons up k 0 (omega arith))

      pub agree_stop : v ≡ false → k ≡ agreeing (drop at s) low up
      agree_stop f =
          sym
          (g ∙ ap (λ (n : ℕ). k + n) (next ∙ ap (λ (b : Bool). cond b (suc (agreeing (drop (suc (at + k)) s) (drop (suc k) low) (drop (suc k) up))) 0) f) ∙ add-zero k)

      pub agree_more : v ≡ true → Agrees (k + 1)
      agree_more f =
          let n = next ∙ ap (λ (b : Bool). cond b (suc (agreeing (drop (suc (at + k)) s) (drop (suc k) low) (drop (suc k) up))) 0) f in
          let a : at + (k + 1) ≡ suc (at + k) = omega arith in
          let c : k + 1 ≡ suc k = omega arith in
          g ∙ ap (λ (n : ℕ). k + n) n ∙ rw (a, c) (omega arith)

-- ---- A word of the automaton: each of its states does as z does, but for the next letter

abbrev pub one_of : ℕ → ℕ → ℕ → Bool
one_of x y b = eqb b x || eqb b y

abbrev pub narrow : ℕ → ℕ → Bool
narrow x y = ltb x 128 && ltb y 128

-- From q the word leads on to a token of the kind k; before its end, one of the kind j ends (0: none).
abbrev pub spells : State → Text → Text → State → ℕ → ℕ → Bool
spells q [] up z k j = false
spells q (x ∷ low) [] z k j = false
spells q (x ∷ []) (y ∷ []) z k j =
    let q1 = step x q in narrow x y && ltb 0 k && sends q (one_of x y) q1 k && mimics q z (one_of x y) && mimics q1 z never
spells q (x ∷ []) (y ∷ y' ∷ up) z k j = false
spells q (x ∷ x' ∷ low) (y ∷ up) z k j =
    let q1 = step x q in narrow x y && sends q (one_of x y) q1 j && mimics q z (one_of x y) && spells q1 (x' ∷ low) up z k j

one_low : (x y b : ℕ) → T (narrow x y) → one_of x y b ≡ true → b < 128
one_low x y b t e =
    let u = and_true (ltb x 128) (ltb y 128) t in
    ⊎_elim (λ p. let m = eqb-true b x p in let n = ltb→lt x 128 u.0 in omega arith)
    (λ p. let m = eqb-true b y p in let n = ltb→lt y 128 u.1 in omega arith)
    (or_true (eqb b x) (eqb b y) e)

-- A letter that leads on, where a token of the kind j ends or none has ended.
letter_on : {s : Text} {q q1 : State} {i : ℕ} {seen : Option Token} {f : ℕ → Bool} (j : ℕ) → Sent q f q1 j → i < length s → get_or s i 0 < 128 → f (get_or s i 0) ≡ true
    → (j ≡ 0 → seen ≡ None) → At s q i seen → At s q1 (i + 1) (end_at j (i + 1))
letter_on zero t h l e n g = rw (n refl) at (pass g h l e t)
letter_on (suc j) t h l e n g = gain g h l e (omega arith) t

module _ (s : Text) (z : State) (k j : ℕ) where
  -- No letter more agrees.
  word_none : (size : ℕ) {q : State} {i : ℕ} {f : ℕ → Bool} → Alias q z f → At s q i (end_at j i) → (i < length s → f (get_or s i 0) ≡ false)
      → (m : ℕ) → m ≡ 0 → WordAt s i m (suc size) z k j
  word_none size {q} {i} t g n m e =
      let a : i + m ≡ i = omega arith in
      record { short = omega arith; whole = λ p. absurd (omega arith); part = λ p. rw a (as_other g t n) }

  -- One letter more, and then what is known of the rest of the word.
  word_more : (size i m n : ℕ) → WordAt s (i + 1) n size z k j → m ≡ suc n → WordAt s i m (suc size) z k j
  word_more size i m n r f =
      let a : i + m ≡ i + 1 + n = omega arith in
      let o = r.short in
      record { short = omega arith; whole = λ p. rw a (r.whole (omega arith)); part = λ p. rw a (r.part (λ o. p (omega arith))) }

  pub word_on : (low up : Text) (q : State) (i : ℕ) → T (spells q low up z k j) → At s q i (end_at j i) → (m : ℕ) → m ≡ agreeing (drop i s) low up
      → WordAt s i m (length low) z k j
  unfolding agreeing
  word_on [] up q i t g m e = absurd t
  word_on (x ∷ low) [] q i t g m e = absurd t
  word_on (x ∷ []) (y ∷ y' ∷ up) q i t g m e = absurd t
  word_on (x ∷ []) (y ∷ []) q i t g m e =
      ⊎_elim
      (λ l.
      let d : agreeing (drop i s) (x ∷ []) (y ∷ []) ≡ cond (one_of x y (get_or s i 0)) (suc (agreeing (drop (i + 1) s) [] [])) 0 = rw (add-one, drop-cons s i 0 l) in
      by (one_of x y (get_or s i 0))
      (λ p.
      let a : m ≡ suc (agreeing (drop (i + 1) s) [] []) = e ∙ d ∙ ap (λ (b : Bool). cond b (suc (agreeing (drop (i + 1) s) [] [])) 0) p in
      let c = none_agree (drop (i + 1) s) [] in
      let m1 : m ≡ 1 = omega arith in
      let w = gain g l (one_low x y (get_or s i 0) u0.0 p) p (ltb→lt 0 k u0.1) (record { test = u1.1 }) in
      record { short = omega arith; whole = λ _. rw m1 (as_other w (record { test = u3.1 }) (λ _. refl)); part = λ n. absurd (n m1) })
      (λ p.
      word_none 0 (record { test = u2.1 }) g (λ _. p) m (e ∙ d ∙ ap (λ (b : Bool). cond b (suc (agreeing (drop (i + 1) s) [] [])) 0) p)))
      (λ l. word_none 0 (record { test = u2.1 }) g (λ o. absurd (omega arith)) m (e ∙ ap (λ (d : Text). agreeing d (x ∷ []) (y ∷ [])) (drop_of_length-le s {i = i} l)))
      (split i (length s))
    where
      q1 : State
      q1 = step x q

      u3 : T (narrow x y && ltb 0 k && sends q (one_of x y) q1 k && mimics q z (one_of x y)) × T (mimics q1 z never)
      u3 = and_true (narrow x y && ltb 0 k && sends q (one_of x y) q1 k && mimics q z (one_of x y)) (mimics q1 z never) t

      u2 : T (narrow x y && ltb 0 k && sends q (one_of x y) q1 k) × T (mimics q z (one_of x y))
      u2 = and_true (narrow x y && ltb 0 k && sends q (one_of x y) q1 k) (mimics q z (one_of x y)) u3.0

      u1 : T (narrow x y && ltb 0 k) × T (sends q (one_of x y) q1 k)
      u1 = and_true (narrow x y && ltb 0 k) (sends q (one_of x y) q1 k) u2.0

      u0 : T (narrow x y) × T (ltb 0 k)
      u0 = and_true (narrow x y) (ltb 0 k) u1.0
  word_on (x ∷ x' ∷ low) (y ∷ up) q i t g m e =
      ⊎_elim
      (λ l.
      let d : agreeing (drop i s) (x ∷ x' ∷ low) (y ∷ up) ≡ cond (one_of x y (get_or s i 0)) (suc (agreeing (drop (i + 1) s) (x' ∷ low) up)) 0 = rw (add-one, drop-cons s i 0 l) in
      by (one_of x y (get_or s i 0))
      (λ p.
      word_more (suc (length low)) i m (agreeing (drop (i + 1) s) (x' ∷ low) up)
      (word_on (x' ∷ low) up (step x q) (i + 1) u2.1
      (letter_on j (record { test = u0.1 }) l (one_low x y (get_or s i 0) u0.0 p) p (λ o. ap (λ (n : ℕ). end_at n i) o) g)
      (agreeing (drop (i + 1) s) (x' ∷ low) up) refl)
      (e ∙ d ∙ ap (λ (b : Bool). cond b (suc (agreeing (drop (i + 1) s) (x' ∷ low) up)) 0) p))
      (λ p.
      word_none (suc (length low)) (record { test = u1.1 }) g (λ _. p) m (e ∙ d ∙ ap (λ (b : Bool). cond b (suc (agreeing (drop (i + 1) s) (x' ∷ low) up)) 0) p)))
      (λ l.
      word_none (suc (length low)) (record { test = u1.1 }) g (λ o. absurd (omega arith)) m
      (e ∙ ap (λ (d : Text). agreeing d (x ∷ x' ∷ low) (y ∷ up)) (drop_of_length-le s {i = i} l)))
      (split i (length s))
    where
      q1 : State
      q1 = step x q

      u2 : T (narrow x y && sends q (one_of x y) q1 j && mimics q z (one_of x y)) × T (spells q1 (x' ∷ low) up z k j)
      u2 = and_true (narrow x y && sends q (one_of x y) q1 j && mimics q z (one_of x y)) (spells q1 (x' ∷ low) up z k j) t

      u1 : T (narrow x y && sends q (one_of x y) q1 j) × T (mimics q z (one_of x y))
      u1 = and_true (narrow x y && sends q (one_of x y) q1 j) (mimics q z (one_of x y)) u2.0

      u0 : T (narrow x y) × T (sends q (one_of x y) q1 j)
      u0 = and_true (narrow x y) (sends q (one_of x y) q1 j) u1.0

  -- A word whose first letter stands there.
  pub word_first : (x y : ℕ) (low up : Text) (q : State) (i : ℕ) → T (narrow x y && sends q (one_of x y) (step x q) j && spells (step x q) low up z k j)
      → i < length s → one_of x y (get_or s i 0) ≡ true → At s q i None → Word s i (x ∷ low) (y ∷ up) z k j
  unfolding agreeing
  word_first x y low up q i t h p g = record {
    from = omega arith;
    read = λ m e.
        let d : agreeing (drop i s) (x ∷ low) (y ∷ up) ≡ cond (one_of x y (get_or s i 0)) (suc (agreeing (drop (i + 1) s) low up)) 0 = rw (add-one, drop-cons s i 0 h) in
        word_more (length low) i m (agreeing (drop (i + 1) s) low up)
        (word_on low up (step x q) (i + 1) u.1
        (letter_on j (record { test = u0.1 }) h (one_low x y (get_or s i 0) u0.0 p) p (λ _. refl) g) (agreeing (drop (i + 1) s) low up) refl)
        (e ∙ d ∙ ap (λ (b : Bool). cond b (suc (agreeing (drop (i + 1) s) low up)) 0) p);
  }
    where
      u : T (narrow x y && sends q (one_of x y) (step x q) j) × T (spells (step x q) low up z k j)
      u = and_true (narrow x y && sends q (one_of x y) (step x q) j) (spells (step x q) low up z k j) t

      u0 : T (narrow x y) × T (sends q (one_of x y) (step x q) j)
      u0 = and_true (narrow x y) (sends q (one_of x y) (step x q) j) u.0
