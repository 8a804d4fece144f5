-- The code points of names: what a routine shows of the one at a place, and what the automaton does over it.
use mathlib.Core.Path.{◌≡◌, refl, subst, sym, ap, ◌∙◌}
use mathlib.Core.Logic.{◌⊎◌, inl, inr, ⊎_elim}
use mathlib.Core.Bool.{Bool, true, false, not, ◌||◌}
use mathlib.Core.List.{List, [], ◌++◌}
use Prim.Native.Nat.{ℕ, zero, suc, ◌+◌, ◌-◌, ◌≤◌, ◌<◌}
use native.Mathlib.Omega.{arith}
use native.Mathlib.Nat.{add-zero}
use borrow.Author.Tests.{lt-ltb, le-ltb, le-leb, lt-leb}
use lib.Dec.{leb}
use lib.ListN.{length, get_or, take, drop, length-drop}
use lib.Seq.{get_or-drop, take_at}
use Rattle.std.specs.Prelude.{Option, Some, None}
use Rattle.automaton.specs.declared.Token.{Token}
use Rattle.text.specs.Text.{Text, cond}
use Rattle.utf8.specs.Utf8.{Range, sequence_size, code_point, encode, width}
use Rattle.utf8.specs.Scalar.{Scalar}
use Rattle.utf8.proofs.Tests.{split}
use Rattle.utf8.proofs.Encoding.{head, length_encode, width_pos, size_encode, size_reads}
use Rattle.utf8.proofs.Decoding.{tail_eq, size_within, code_encode}
use Rattle.token.specs.Regular.{in_ranges, step}
use Rattle.automaton.specs.States.{State, ending, dead}
use Rattle.automaton.specs.Levels.{level}
use Rattle.automaton.specs.Run.{see, At, TokenAt}
use Rattle.automaton.proofs.Steps.{Sent, HighSent, sent_to, sent_kind, high_to, by_code_point, by_nothing, at_first, some_left}
use Rattle.characters.specs.Names.{passes, CharAt}

front : (s : Text) (i : ℕ) → get_or (drop i s) 0 0 ≡ get_or s i 0
front s i = get_or-drop i s 0 0 ∙ ap (λ (n : ℕ). get_or s n 0) (add-zero i)

pub first : (s : Text) (i c : ℕ) (t : Text) → drop i s ≡ encode c ++ t → ((c < 0x80) × (get_or s i 0 ≡ c)) ⊎ ((0x80 ≤ c) × (0x80 ≤ get_or s i 0))
first s i c t d =
    let f = sym (front s i) ∙ ap (λ (x : Text). get_or x 0 0) d in
    ⊎_elim (λ v. inl (v.0, f ∙ v.1)) (λ v. inr (v.0, subst (λ (n : ℕ). 0x80 ≤ n) (sym f) v.1)) (head c t)

-- ---- The routine `wide_char`

-- A code point was read at a place where a byte from 128 on stands.
module _ (s : Text) (at n c : ℕ) (h : at < length s) (l : 128 ≤ get_or s at 0) (e : n ≡ sequence_size (take (length s - at) (drop at s))) (f : c ≡ code_point (take (sequence_size (take (length s - at) (drop at s))) (take (length s - at) (drop at s)))) where
  size_is : n ≡ sequence_size (drop at s)
  size_is = e ∙ ap sequence_size (tail_eq s at)

  code_is : c ≡ code_point (take n (drop at s))
  code_is = f ∙ rw (← e, tail_eq s at)

  -- It is the one that stands there.
  same_char : (d : ℕ) (t : Text) → Scalar d → drop at s ≡ encode d ++ t → (n ≡ width d) × (c ≡ d)
  same_char d t z y =
      let p : n ≡ width d = size_is ∙ ap sequence_size y ∙ size_encode d t z in
      (p, code_is ∙ ap (λ (x : Text). code_point (take n x)) y ∙ ap code_point (take_at (encode d) t n (length_encode d ∙ sym p)) ∙ code_encode d z)

  pub wide_none : (rs : List Range) (least : ℕ) → n ≡ 0 → CharAt rs least s at None
  wide_none rs least z = record {
    within = λ m y. let w : ◌≡◌ {A = ℕ} 0 1 = cc in absurd (omega arith);
    right = λ d t y w. let p = (same_char d t y w).0 in let o = width_pos d in absurd (omega arith);
  }

  module _ (z : n ≡ 0 → ⊥) where
    pub wide_needs : (128 ≤ c) × (c < 0x110000)
    wide_needs = go n refl
      where
        go : (k : ℕ) → n ≡ k → (128 ≤ c) × (c < 0x110000)
        go zero w = absurd (z w)
        go (suc k) w =
            let r = size_reads (drop at s) k (sym size_is ∙ w) in
            let c' : c ≡ code_point (take (suc k) (drop at s)) = code_is ∙ ap (λ (m : ℕ). code_point (take m (drop at s))) w in
            let o = r.scalar.0 in (
              ⊎_elim (λ v. let p = v.1 in let q = v.0 in absurd (omega arith)) (λ v. let p = v.0 in omega arith)
                  (first s at (code_point (take (suc k) (drop at s))) r.rest r.whole),
              omega arith,
            )

    module _ (least k : ℕ) (g : k ≡ level c) where
      pub wide_no : k < least → CharAt [] least s at None
      wide_no m = record {
        within = λ o y. let w : ◌≡◌ {A = ℕ} 0 1 = cc in absurd (omega arith);
        right = λ d t y w.
            let p = same_char d t y w in
            let j : level d < least = (let o = g ∙ ap level p.1 in omega arith) in
            ⊎_elim (λ x. let q = x.0 in let q' = x.1 in absurd (omega arith)) (λ x. rw (le-ltb d 128 x.0, lt-leb least (level d) j)) (first s at d t w);
      }

      pub wide_yes : least ≤ k → CharAt [] least s at (Some n)
      wide_yes m = record {
        within = λ j y.
            let o = (size_within (drop at s)).0 in
            let p = length-drop at s in
            let q = size_is in
            let w : n ≡ j = cc in
            (omega arith, omega arith);
        right = λ d t y w.
            let p = same_char d t y w in
            let j : least ≤ level d = (let o = g ∙ ap level p.1 in omega arith) in
            let u : passes [] least d ≡ true =
            ⊎_elim (λ x. let q = x.0 in let q' = x.1 in absurd (omega arith)) (λ x. rw (le-ltb d 128 x.0, le-leb least (level d) j)) (first s at d t w) in
            ap (λ (x : ℕ). Some x) p.0 ∙ sym (ap (λ (b : Bool). cond b (Some (width d)) None) u);
      }

-- ---- The routine `char_at`

module _ (rs : List Range) (least : ℕ) (s : Text) (i : ℕ) (h : i < length s) where
  pub char_low : (v : Bool) → get_or s i 0 < 128 → v ≡ in_ranges (get_or s i 0) rs → CharAt rs least s i (cond v (Some 1) None)
  char_low v l e = record {
    within = small v;
    right = λ c t z d.
        ⊎_elim
        (λ w. ap (λ (b : Bool). cond b (Some 1) None) (e ∙ ap (λ (x : ℕ). in_ranges x rs) w.1) ∙ rw (lt-ltb c 0x80 w.0))
        (λ w. let y = w.1 in absurd (omega arith))
        (first s i c t d);
  }
    where
      small : (v : Bool) (n : ℕ) → cond v (Some 1) None ≡ Some n → (0 < n) × (i + n ≤ length s)
      small true n f = let w : 1 ≡ n = cc in (omega arith, omega arith)
      small false n f = let w : ◌≡◌ {A = ℕ} 0 1 = cc in absurd (omega arith)

  pub char_high : 128 ≤ get_or s i 0 → (r : Option ℕ) → CharAt [] least s i r → CharAt rs least s i r
  char_high l r w = record {
    within = w.within;
    right = λ c t z d.
        ⊎_elim (λ v. let x = v.0 in let y = v.1 in absurd (omega arith))
        (λ v. w.right c t z d ∙ rw (le-ltb c 0x80 v.0))
        (first s i c t d);
  }

-- ---- The automaton over such a code point

-- What passes leads from q to q2, where a token of the kind k ends.
pub record CharSent (q : State) (rs : List Range) (least : ℕ) (q2 : State) (k : ℕ) : Type 0 where
  pub low : Sent q (λ b. in_ranges b rs) q2 k
  pub high : HighSent q (leb least) q2

-- What does not pass leads nowhere, but for bytes that pass f.
pub record CharEnds (q : State) (rs : List Range) (least : ℕ) (f : ℕ → Bool) : Type 0 where
  pub low : Sent q (λ b. not (in_ranges b rs || f b)) dead 0
  pub high : HighSent q (λ k. not (leb least k)) dead

-- The move with one code point.
pub point_to : {q : State} {rs : List Range} {least : ℕ} {q2 : State} {k : ℕ} → CharSent q rs least q2 k → (c : ℕ) → Scalar c → passes rs least c ≡ true
    → step c q ≡ q2
point_to t c sc e =
    ⊎_elim (λ l. sent_to t.low c l (rw (lt-ltb c 128 l) at e)) (λ l. high_to t.high c l sc.0 (rw (le-ltb c 128 l) at e)) (split c 128)

pub point_dead : {q : State} {rs : List Range} {least : ℕ} {f : ℕ → Bool} → CharEnds q rs least f → (c : ℕ) → Scalar c → passes rs least c ≡ false
    → (c < 128 → f c ≡ false) → step c q ≡ dead
point_dead {q} {rs} {least} {f} t c sc e n =
    ⊎_elim
    (λ l. let b : in_ranges c rs ≡ false = rw (lt-ltb c 128 l) at e in let b' = n l in sent_to t.low c l (rw (b, b')))
    (λ l. high_to t.high c l sc.0 (ap not (rw (le-ltb c 128 l) at e)))
    (split c 128)

pub some_passes : (b : Bool) (w n : ℕ) → Some n ≡ cond b (Some w) None → (b ≡ true) × (n ≡ w)
some_passes true w n e = (refl, cc)
some_passes false w n e = let z : ◌≡◌ {A = ℕ} 0 1 = cc in absurd (omega arith)

pub none_passes : (b : Bool) (w : ℕ) → None ≡ cond b (Some w) None → b ≡ false
none_passes true w e = let z : ◌≡◌ {A = ℕ} 0 1 = cc in absurd (omega arith)
none_passes false w e = refl

module _ {s : Text} {q : State} {i : ℕ} {seen : Option Token} {rs : List Range} {least : ℕ} {r : Option ℕ} (g : At s q i seen) (ch : CharAt rs least s i r) where
  pub char_on : {q2 : State} {k n : ℕ} → CharSent q rs least q2 k → r ≡ Some n → At s q2 (i + n) (see (ending k) (i + n) seen)
  char_on {q2} {k} {n} t e =
      rw (sent_kind t.low) at
      (by_code_point g q2 n (ch.within n e).1 (ch.within n e).0
      (λ c u sc d.
      let v = some_passes (passes rs least c) (width c) n (sym e ∙ ch.right c u sc d) in
      (v.1, point_to t c sc v.0)))

  pub char_off : {f : ℕ → Bool} → CharEnds q rs least f → r ≡ None → (i < length s → f (get_or s i 0) ≡ false) → TokenAt s seen
  char_off {f} t e no' =
      by_nothing g
      (λ c u sc d.
      let v : passes rs least c ≡ false = none_passes (passes rs least c) (width c) (sym e ∙ ch.right c u sc d) in
      point_dead t c sc v
      (λ l. ⊎_elim (λ x. ap f (sym x.1) ∙ no' (some_left s i c u d)) (λ x. let y = x.0 in absurd (omega arith)) (at_first s i c u d)))
