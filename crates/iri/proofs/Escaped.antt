-- A scheme, looked for in an escaped text piece by piece.
use Prim.Native.Nat.{ℕ, zero, suc, ◌+◌, ◌/◌, ◌≤◌, ◌<◌}
use mathlib.Core.Path.{◌≡◌, refl, ap, sym, ◌∙◌}
use mathlib.Core.Logic.{◌⊎◌, inl, inr}
use native.Mathlib.Numerals.{add-one}
use mathlib.Core.List.{[], ◌∷◌, ◌++◌}
use mathlib.Core.Bool.{Bool, true, false, not, ◌&&◌, ◌||◌}
use native.Mathlib.Omega.{arith}
use lib.ListN.{length, get_or, drop, drop_of_length-le}
use lib.Seq.{drop-cons}
use lib.Dec.{leb}
use borrow.Author.Tests.{ne_eqb, le-ltb, lt-leb}
use Rattle.text.specs.Text.{Text, is, from}
use Rattle.text.proofs.Compare.{by, contrary}
use Rattle.escape.specs.Escape.{unescape}
use Rattle.std.specs.Prelude.{Option, Some, None, is_some}
use Rattle.escape.specs.Code.{undone, four, encoded, shown, Yields}
use Rattle.escape.specs.declared.Escapes.TheVariants.{Quoted}
use Rattle.escape.specs.declared.Character.{Character}
use Rattle.escape.specs.declared.Stretch.{Stretch}
use Rattle.iri.specs.Iri.{letter, scheme_byte, first_is, has_scheme}
use Rattle.iri.specs.Code.{scheme_from, verdict, told, Judges}

later_from : (s : Text) → first_is (is ":") (from (λ c. not (scheme_byte c)) s) ≡ scheme_from false s
unfolding from scheme_from
later_from [] = refl
later_from (c ∷ s) = by (scheme_byte c) (λ e. rw e (later_from s)) (λ e. rw e)

-- The definition, byte by byte.
pub byte_by_byte : (s : Text) → has_scheme s ≡ scheme_from true s
unfolding has_scheme from scheme_from
byte_by_byte [] = refl
byte_by_byte (c ∷ s) = by (letter c) (λ e. rw e (later_from s)) (λ e. rw e)

high_letter : (c : ℕ) → 122 < c → letter c ≡ false
high_letter c h = rw (lt-leb c 90 (omega arith), lt-leb c 122 h) (both (leb 65 c) (leb 97 c))
  where
    both : (a b : Bool) → ((a && false) || (b && false)) ≡ false
    both true true = refl
    both true false = refl
    both false true = refl
    both false false = refl

high_scheme : (c : ℕ) → 122 < c → scheme_byte c ≡ false
high_scheme c h = rw (high_letter c h, lt-leb c 57 (omega arith), ne_eqb c 43 (λ e. omega arith), ne_eqb c 45 (λ e. omega arith), ne_eqb c 46 (λ e. omega arith)) (low (leb 48 c))
  where
    low : (a : Bool) → ((a && false) || false) ≡ false
    low true = refl
    low false = refl

high_none : (first : Bool) (c : ℕ) (s : Text) → 122 < c → scheme_from first (c ∷ s) ≡ false
unfolding scheme_from
high_none true c s h = rw (high_letter c h)
high_none false c s h = rw (high_scheme c h, ne_eqb c 58 (λ e. omega arith))

pub one_byte : (first : Bool) (v : ℕ) (s : Text) → scheme_from first (v ∷ s) ≡ told (verdict first v) (scheme_from false s)
unfolding scheme_from verdict
one_byte true v s = by (letter v) (λ e. rw e) (λ e. rw e)
one_byte false v s = by (scheme_byte v) (λ e. rw e) (λ e. rw e)

-- A run of bytes: they are judged one by one.
module _ (s : Text) (first : Bool) where
  pub record Judging (i : ℕ) (start : Bool) : Type 0 where
    pub later : 0 < i → start ≡ false
    pub same : (t : Text) → scheme_from first (s ++ t) ≡ scheme_from start (drop i s ++ t)

  pub judging_start : Judging 0 first
  judging_start = record { later = λ h. absurd (omega arith); same = λ t. refl }

  module _ (i : ℕ) (start : Bool) (h : i < length s) (j : Judging i start) (v : Option Bool) (ev : v ≡ verdict start (get_or s i 0)) where
    judged : (t : Text) → scheme_from first (s ++ t) ≡ told v (scheme_from false (drop (i + 1) s ++ t))
    judged t = j.same t ∙ rw (drop-cons s i 0 h, add-one i, ev) (one_byte start (get_or s i 0) (drop (suc i) s ++ t))

    pub judging_known : is_some v ≡ true → Judges first s v
    unfolding Judges
    judging_known e = λ t. judged t ∙ any v e (scheme_from false (drop (i + 1) s ++ t)) (scheme_from false t)
      where
        any : (v : Option Bool) → is_some v ≡ true → (a b : Bool) → told v a ≡ told v b
        any None e a b = contrary (sym e)
        any (Some k) e a b = refl

    pub judging_more : is_some v ≡ false → Judging (i + 1) false
    judging_more e = record { later = λ k. refl; same = λ t. judged t ∙ none v e (scheme_from false (drop (i + 1) s ++ t)) }
      where
        none : (v : Option Bool) → is_some v ≡ false → (a : Bool) → told v a ≡ a
        none None e a = refl
        none (Some k) e a = contrary e

  pub judging_end : (i : ℕ) (start : Bool) → 0 < length s → length s ≤ i → Judging i start → Judges first s None
  unfolding Judges
  judging_end i start some h j = λ t. j.same t ∙ rw (j.later (omega arith), drop_of_length-le s {i = i} h)

-- An escape.
module _ (first : Bool) (c : Character) where
  pub escape_long : 0 < c.width → (1 < c.width) ⊎ (255 < c.value) → Judges first (encoded c) (Some false)
  unfolding Judges encoded four
  escape_long some long = λ t. go c.width refl some long t
    where
      go : (n : ℕ) → c.width ≡ n → 0 < n → (1 < n) ⊎ (255 < c.value) → (t : Text) → scheme_from first (encoded c ++ t) ≡ false
      go zero e h k t = absurd (omega arith)
      go (suc zero) e h (inl k) t = absurd (omega arith)
      go (suc zero) e h (inr k) t = rw e (high_none first c.value t (omega arith))
      go (suc (suc zero)) e h k t = rw e (high_none first (0xC0 + c.value / 64) _ (omega arith))
      go (suc (suc (suc zero))) e h k t = rw e (high_none first (0xE0 + c.value / 4096) _ (omega arith))
      go (suc (suc (suc (suc zero)))) e h k t = rw e (high_none first (0xF0 + c.value / 262144) _ (omega arith))
      go (suc (suc (suc (suc (suc n))))) e h k t =
          let w : ℕ = suc (suc (suc (suc (suc n)))) in
          rw (e, le-ltb w 2 (omega arith), ne_eqb w 2 (λ q. omega arith), ne_eqb w 3 (λ q. omega arith)) (high_none first (0xF0 + c.value / 262144) _ (omega arith))

  pub escape_byte : c.width ≡ 1 → (v : Option Bool) → v ≡ verdict first c.value → Judges first (encoded c) v
  unfolding Judges encoded four
  escape_byte e v ev = λ t. rw (e, ev) (one_byte first c.value t)

-- A part more.
module _ (s t : Text) (p : Stretch) (y : Yields Quoted s t p) (first : Bool) (v : Option Bool) (j : Judges first (shown p) v) where
  walked : scheme_from first (undone Quoted s) ≡ told v (scheme_from false (undone Quoted t))
  unfolding Judges
  walked = ap (scheme_from first) y.text ∙ j (undone Quoted t)

  pub walk_known : (k : Bool) → v ≡ Some k → scheme_from first (undone Quoted s) ≡ k
  walk_known k e = walked ∙ rw e

  pub walk_more : v ≡ None → scheme_from first (undone Quoted s) ≡ scheme_from false (undone Quoted t)
  walk_more e = walked ∙ rw e

pub walk_end : (s : Text) (first : Bool) → undone Quoted s ≡ [] → scheme_from first (undone Quoted s) ≡ false
unfolding scheme_from
walk_end s first e = rw e

pub walk_start : (s : Text) → has_scheme (unescape s) ≡ scheme_from true (undone Quoted s)
unfolding undone
walk_start s = byte_by_byte (unescape s)
