-- The sequences of the table are the encodings of the scalar values.
use mathlib.Core.Path.{◌≡◌, refl, subst, sym, ap₂, ◌∙◌}
use mathlib.Core.Logic.{◌⊎◌, inl, inr, ⊎_elim}
use mathlib.Core.Bool.{Bool, true, false}
use mathlib.Core.List.{List, [], ◌∷◌, ◌++◌}
use Prim.Native.Nat.{ℕ, zero, suc, ◌+◌, ◌*◌, ◌-◌, ◌/◌, ◌%◌, ◌≤◌, ◌<◌}
use native.Mathlib.Omega.{arith}
use native.Mathlib.Nat.{div-div-eq-div-mul}
use borrow.Author.Tests.{eqb-true, eq-eqb, ne_eqb, le-leb, lt-ltb, le-ltb}
use lib.Dec.{T, eqb, eqb→eq}
use lib.ListN.{length, get_or, take}
use lib.Count.{count_leading_zeros}
use Rattle.text.specs.Text.{Text, cond, between}
use Rattle.utf8.specs.Utf8.{Range, ◌–◌, sequences, fits, first_fit, sequence_size, lead_bits, more_bits, code_point, encode, width}
use Rattle.utf8.specs.Scalar.{Scalar, Highs}
use Rattle.utf8.specs.Code.{lead_size, second_low, second_high}
use Rattle.utf8.proofs.Tests.{by, split, below, below_at, between_true}
use Rattle.utf8.proofs.Size.{first_tail, rows_of, more_tails, size_rows, lead_small, size_sized, no_byte}

-- ---- Encodings by their length

-- A code point is of one of the four lengths.
pub by_width : {X : Type 0} (c : ℕ) → (c < 0x80 → X) → (0x80 ≤ c → c < 0x800 → X) → (0x800 ≤ c → c < 0x10000 → X) → (0x10000 ≤ c → X) → X
by_width c one two three four =
    ⊎_elim one (λ h. ⊎_elim (two h) (λ h'. ⊎_elim (three h') four (split c 0x10000)) (split c 0x800)) (split c 0x80)

pub length_encode : (c : ℕ) → length (encode c) ≡ width c
length_encode c =
    by_width c
    (λ h. simp (lt-ltb c 0x80 h))
    (λ h h'. simp (le-ltb c 0x80 h, lt-ltb c 0x800 h'))
    (λ h h'. simp (le-ltb c 0x80 (omega arith), le-ltb c 0x800 h, lt-ltb c 0x10000 h'))
    (λ h. simp (le-ltb c 0x80 (omega arith), le-ltb c 0x800 (omega arith), le-ltb c 0x10000 h))

pub width_pos : (c : ℕ) → 0 < width c
width_pos c =
    by_width c
    (λ h. simp (lt-ltb c 0x80 h) (omega arith))
    (λ h h'. simp (le-ltb c 0x80 h, lt-ltb c 0x800 h') (omega arith))
    (λ h h'. simp (le-ltb c 0x80 (omega arith), le-ltb c 0x800 h, lt-ltb c 0x10000 h') (omega arith))
    (λ h. simp (le-ltb c 0x80 (omega arith), le-ltb c 0x800 (omega arith), le-ltb c 0x10000 h) (omega arith))

pub width_most : (c : ℕ) → width c ≤ 4
width_most c =
    by_width c
    (λ h. simp (lt-ltb c 0x80 h) (omega arith))
    (λ h h'. simp (le-ltb c 0x80 h, lt-ltb c 0x800 h') (omega arith))
    (λ h h'. simp (le-ltb c 0x80 (omega arith), le-ltb c 0x800 h, lt-ltb c 0x10000 h') (omega arith))
    (λ h. simp (le-ltb c 0x80 (omega arith), le-ltb c 0x800 (omega arith), le-ltb c 0x10000 h) (omega arith))

-- The first byte is below 128 for a code point below 128 alone, and is that.
abbrev pub Head : ℕ → Text → Type 0
Head c t = ((c < 0x80) × (get_or (encode c ++ t) 0 0 ≡ c)) ⊎ ((0x80 ≤ c) × (0x80 ≤ get_or (encode c ++ t) 0 0))

pub head : (c : ℕ) (t : Text) → Head c t
head c t =
    by_width c
    (λ h. inl (h, simp (lt-ltb c 0x80 h)))
    (λ h h'. inr (h, simp (le-ltb c 0x80 h, lt-ltb c 0x800 h') (omega arith)))
    (λ h h'. inr (omega arith, simp (le-ltb c 0x80 (omega arith), le-ltb c 0x800 h, lt-ltb c 0x10000 h') (omega arith)))
    (λ h. inr (omega arith, simp (le-ltb c 0x80 (omega arith), le-ltb c 0x800 (omega arith), le-ltb c 0x10000 h) (omega arith)))

pub highs_encode : (c : ℕ) → 128 ≤ c → Highs (encode c)
highs_encode c h =
    by_width c
    (λ l. absurd (omega arith))
    (λ l u. simp (le-ltb c 0x80 h, lt-ltb c 0x800 u) (omega arith, (omega arith, tt)))
    (λ l u. simp (le-ltb c 0x80 h, le-ltb c 0x800 l, lt-ltb c 0x10000 u) (omega arith, (omega arith, (omega arith, tt))))
    (λ l. simp (le-ltb c 0x80 h, le-ltb c 0x800 (omega arith), le-ltb c 0x10000 l) (omega arith, (omega arith, (omega arith, (omega arith, tt)))))

-- ---- First bytes by the size that they say

says_range : (n lo hi : ℕ) → T (below (λ b. cond (eqb (lead_size b) n) (between lo hi b) true) 256) → (b : ℕ) → b < 256 → lead_size b ≡ n
    → (lo ≤ b) × (b ≤ hi)
says_range n lo hi t b h e =
    let u : T (between lo hi b) = simp (eq-eqb (lead_size b) n e) at (below_at (λ b. cond (eqb (lead_size b) n) (between lo hi b) true) 256 t b h) in
    between_true lo hi b (true_eq (between lo hi b) u)
  where
    true_eq : (v : Bool) → T v → v ≡ true
    true_eq true t = refl
    true_eq false t = absurd t

range_says : (n lo hi : ℕ) → T (below (λ b. cond (between lo hi b) (eqb (lead_size b) n) true) 256) → (b : ℕ) → lo ≤ b → b ≤ hi → hi < 256
    → lead_size b ≡ n
range_says n lo hi t b l u h =
    eqb→eq (lead_size b) n
    (simp (le-leb lo b l, le-leb b hi u) at (below_at (λ b. cond (between lo hi b) (eqb (lead_size b) n) true) 256 t b (omega arith)))

-- The second byte, by numbers.
pub record Second (b x : ℕ) : Type 0 where
  pub low : 0x80 ≤ x
  pub high : x ≤ 0xBF
  pub long_three : b ≡ 0xE0 → 0xA0 ≤ x
  pub no_surrogate : b ≡ 0xED → x ≤ 0x9F
  pub long_four : b ≡ 0xF0 → 0x90 ≤ x
  pub last : b ≡ 0xF4 → x ≤ 0x8F

second_in : (b x : ℕ) → Second b x → between (second_low b) (second_high b) x ≡ true
second_in b x r = simp (le-leb (second_low b) x lo, le-leb x (second_high b) hi)
  where
    lo : second_low b ≤ x
    lo =
        by (eqb b 0xE0) (λ e. rw e (r.long_three (eqb-true b 0xE0 e)))
        (λ e. by (eqb b 0xF0) (λ f. rw (e, f) (r.long_four (eqb-true b 0xF0 f))) (λ f. rw (e, f) r.low))

    hi : x ≤ second_high b
    hi =
        by (eqb b 0xED) (λ e. rw e (r.no_surrogate (eqb-true b 0xED e)))
        (λ e. by (eqb b 0xF4) (λ f. rw (e, f) (r.last (eqb-true b 0xF4 f))) (λ f. rw (e, f) r.high))

second_out : (b x : ℕ) → second_low b ≤ x → x ≤ second_high b → Second b x
second_out b x l u = record {
  low =
      by (eqb b 0xE0) (λ e. let m : 0xA0 ≤ x = rw e at l in omega arith)
      (λ e. by (eqb b 0xF0) (λ f. let m : 0x90 ≤ x = rw (e, f) at l in omega arith) (λ f. rw (e, f) at l));
  high =
      by (eqb b 0xED) (λ e. let m : x ≤ 0x9F = rw e at u in omega arith)
      (λ e. by (eqb b 0xF4) (λ f. let m : x ≤ 0x8F = rw (e, f) at u in omega arith) (λ f. rw (e, f) at u));
  long_three = λ e. rw (eq-eqb b 0xE0 e) at l;
  no_surrogate = λ e. rw (eq-eqb b 0xED e) at u;
  long_four = λ e. rw (ne_eqb b 0xE0 (λ f. let z = sym e ∙ f in omega arith), eq-eqb b 0xF0 e) at l;
  last = λ e. rw (ne_eqb b 0xED (λ f. let z = sym e ∙ f in omega arith), eq-eqb b 0xF4 e) at u;
}

-- ---- Each encoding is a sequence

module _ (b x : ℕ) (t : Text) (r : Second b x) where
  size_two : 0xC2 ≤ b → b ≤ 0xDF → sequence_size (b ∷ x ∷ t) ≡ 2
  unfolding count_leading_zeros
  size_two l u =
      size_sized b (x ∷ t) (omega arith)
      ∙ simp (range_says 2 0xC2 0xDF tt b l u (omega arith), le-ltb (suc (suc (length t))) 2 (omega arith), second_in b x r)

  size_three : (y : ℕ) → 0xE0 ≤ b → b ≤ 0xEF → 0x80 ≤ y → y ≤ 0xBF → sequence_size (b ∷ x ∷ y ∷ t) ≡ 3
  unfolding count_leading_zeros
  size_three y l u ly uy =
      size_sized b (x ∷ y ∷ t) (omega arith)
      ∙ simp (
        range_says 3 0xE0 0xEF tt b l u (omega arith),
        le-ltb (suc (suc (suc (length t)))) 3 (omega arith),
        second_in b x r,
        le-leb 0x80 y ly,
        le-leb y 0xBF uy,
      )

  size_four : (y z : ℕ) → 0xF0 ≤ b → b ≤ 0xF4 → 0x80 ≤ y → y ≤ 0xBF → 0x80 ≤ z → z ≤ 0xBF → sequence_size (b ∷ x ∷ y ∷ z ∷ t) ≡ 4
  unfolding count_leading_zeros
  size_four y z l u ly uy lz uz =
      size_sized b (x ∷ y ∷ z ∷ t) (omega arith)
      ∙ simp (
        range_says 4 0xF0 0xF4 tt b l u (omega arith),
        le-ltb (suc (suc (suc (suc (length t))))) 4 (omega arith),
        second_in b x r,
        le-leb 0x80 y ly,
        le-leb y 0xBF uy,
        le-leb 0x80 z lz,
        le-leb z 0xBF uz,
      )

pub size_one : (b : ℕ) (t : Text) → b < 0x80 → sequence_size (b ∷ t) ≡ 1
unfolding count_leading_zeros
size_one b t h = size_sized b t (omega arith) ∙ simp (range_says 1 0 0x7F tt b (omega arith) (omega arith) (omega arith))

pub size_encode : (c : ℕ) (t : Text) → Scalar c → sequence_size (encode c ++ t) ≡ width c
size_encode c t s =
    by_width c
    (λ h. simp (lt-ltb c 0x80 h) (size_one c t h))
    (λ h h'.
    simp (le-ltb c 0x80 h, lt-ltb c 0x800 h')
    (size_two (0xC0 + c / 64) (0x80 + c % 64) t
    (record {
      low = omega arith;
      high = omega arith;
      long_three = λ e. absurd (omega arith);
      no_surrogate = λ e. absurd (omega arith);
      long_four = λ e. absurd (omega arith);
      last = λ e. absurd (omega arith);
    }) (omega arith) (omega arith)))
    (λ h h'.
    let v = s.1 in
    simp (le-ltb c 0x80 (omega arith), le-ltb c 0x800 h, lt-ltb c 0x10000 h')
    (size_three (0xE0 + c / 4096) (0x80 + c / 64 % 64) t
    (record {
      low = omega arith;
      high = omega arith;
      long_three = λ e. omega arith;
      no_surrogate = λ e. ⊎_elim (λ x. omega arith) (λ x. absurd (omega arith)) v;
      long_four = λ e. absurd (omega arith);
      last = λ e. absurd (omega arith);
    }) (0x80 + c % 64) (omega arith) (omega arith) (omega arith) (omega arith)))
    (λ h.
    let v = s.0 in
    simp (le-ltb c 0x80 (omega arith), le-ltb c 0x800 (omega arith), le-ltb c 0x10000 h)
    (size_four (0xF0 + c / 262144) (0x80 + c / 4096 % 64) t
    (record {
      low = omega arith;
      high = omega arith;
      long_three = λ e. absurd (omega arith);
      no_surrogate = λ e. absurd (omega arith);
      long_four = λ e. omega arith;
      last = λ e. omega arith;
    }) (0x80 + c / 64 % 64) (0x80 + c % 64) (omega arith) (omega arith) (omega arith) (omega arith) (omega arith) (omega arith)))

-- ---- Each sequence is the encoding of its code point

-- A scalar value stands at the front, in n bytes.
pub record Reads (s : Text) (c n : ℕ) : Type 0 where
  pub rest : Text
  pub scalar : Scalar c
  pub size : n ≡ width c
  pub whole : s ≡ encode c ++ rest

-- The last of the digits by 64, and the rest.
digit : (q r c : ℕ) → q * 64 + r ≡ c → r < 64 → (c / 64 ≡ q) × (c % 64 ≡ r)
digit q r c e h = (omega arith, omega arith)

back : (k b m : ℕ) → k ≤ b → m ≡ b - k → b ≡ k + m
back k b m h e = omega arith

read_one : (b c : ℕ) (t : Text) → b < 0x80 → c ≡ b → Reads (b ∷ t) c 1
read_one b c t h e = record {
  rest = t;
  scalar = (omega arith, inl (omega arith));
  size = simp (lt-ltb c 0x80 (omega arith));
  whole = simp (lt-ltb c 0x80 (omega arith)) (cc);
}

read_two : (b x c : ℕ) (t : Text) → 0xC2 ≤ b → b ≤ 0xDF → 0x80 ≤ x → x ≤ 0xBF → c ≡ (b - 0xC0) * 64 + (x - 0x80) → Reads (b ∷ x ∷ t) c 2
read_two b x c t l u lx ux e =
    let hb : b ≡ 0xC0 + c / 64 = omega arith in
    let hx : x ≡ 0x80 + c % 64 = omega arith in
    record {
      rest = t;
      scalar = (omega arith, inl (omega arith));
      size = simp (le-ltb c 0x80 (omega arith), lt-ltb c 0x800 (omega arith));
      whole = simp (le-ltb c 0x80 (omega arith), lt-ltb c 0x800 (omega arith)) (ap₂ (λ (p q : ℕ). p ∷ q ∷ t) hb hx);
    }

read_three : (b x y c : ℕ) (t : Text) → 0xE0 ≤ b → b ≤ 0xEF → Second b x → 0x80 ≤ y → y ≤ 0xBF
    → c ≡ (b - 0xE0) * 4096 + (x - 0x80) * 64 + (y - 0x80) → Reads (b ∷ x ∷ y ∷ t) c 3
read_three b x y c t l u r ly uy e =
    fin r.low r.high
    (⊎_elim (λ h. omega arith) (λ h. let k = r.long_three (omega arith) in omega arith) (split 0xE0 b))
    (⊎_elim (λ h. inl (let p = r.high in omega arith))
    (λ h. ⊎_elim (λ g. inr (let p = r.low in omega arith)) (λ g. inl (let k = r.no_surrogate (omega arith) in omega arith)) (split 0xED b)) (split b 0xED))
  where
    fin : 0x80 ≤ x → x ≤ 0xBF → 0x800 ≤ c → (c < 0xD800) ⊎ (0xDFFF < c) → Reads (b ∷ x ∷ y ∷ t) c 3
    fin lx ux lc sc =
        let p = digit ((b - 0xE0) * 64 + (x - 0x80)) (y - 0x80) c (omega arith) (omega arith) in
        let q = digit (b - 0xE0) (x - 0x80) (c / 64) (sym p.0) (omega arith) in
        let p1 = p.1 in
        let q0 = q.0 in
        let q1 = q.1 in
        let hy : y ≡ 0x80 + c % 64 = omega arith in
        let hx : x ≡ 0x80 + c / 64 % 64 = omega arith in
        let hb : b ≡ 0xE0 + c / 4096 = omega (arith, div-div-eq-div-mul c 64 64) in
        record {
          rest = t;
          scalar = (omega arith, sc);
          size = simp (le-ltb c 0x80 (omega arith), le-ltb c 0x800 (omega arith), lt-ltb c 0x10000 (omega arith));
          whole = simp (le-ltb c 0x80 (omega arith), le-ltb c 0x800 (omega arith), lt-ltb c 0x10000 (omega arith)) (cc);
        }

read_four : (b x y z c : ℕ) (t : Text) → 0xF0 ≤ b → b ≤ 0xF4 → Second b x → 0x80 ≤ y → y ≤ 0xBF → 0x80 ≤ z → z ≤ 0xBF
    → c ≡ (b - 0xF0) * 262144 + (x - 0x80) * 4096 + (y - 0x80) * 64 + (z - 0x80) → Reads (b ∷ x ∷ y ∷ z ∷ t) c 4
read_four b x y z c t l u r ly uy lz uz e =
    fin r.low r.high
    (⊎_elim (λ h. omega arith) (λ h. let k = r.long_four (omega arith) in omega arith) (split 0xF0 b))
    (⊎_elim (λ h. let p = r.high in omega arith) (λ h. let k = r.last (omega arith) in omega arith) (split b 0xF4))
  where
    fin : 0x80 ≤ x → x ≤ 0xBF → 0x10000 ≤ c → c < 0x110000 → Reads (b ∷ x ∷ y ∷ z ∷ t) c 4
    fin lx ux lc uc =
        let p = digit ((b - 0xF0) * 4096 + (x - 0x80) * 64 + (y - 0x80)) (z - 0x80) c (omega arith) (omega arith) in
        let q = digit ((b - 0xF0) * 64 + (x - 0x80)) (y - 0x80) (c / 64) (omega (arith, p.0)) (omega arith) in
        let o = digit (b - 0xF0) (x - 0x80) (c / 64 / 64) (sym q.0) (omega arith) in
        let hz : z ≡ 0x80 + c % 64 = back 0x80 z _ lz p.1 in
        let hy : y ≡ 0x80 + c / 64 % 64 = back 0x80 y _ ly q.1 in
        let w : c / 64 / 64 ≡ c / 4096 = div-div-eq-div-mul c 64 64 in
        let hx : x ≡ 0x80 + c / 4096 % 64 = rw (← w) (back 0x80 x _ lx o.1) in
        let hb : b ≡ 0xF0 + c / 262144 = rw (← div-div-eq-div-mul c 4096 64, ← w) (back 0xF0 b _ l o.0) in
        record {
          rest = t;
          scalar = (uc, inr (omega arith));
          size = simp (le-ltb c 0x80 (omega arith), le-ltb c 0x800 (omega arith), le-ltb c 0x10000 lc);
          whole = simp (le-ltb c 0x80 (omega arith), le-ltb c 0x800 (omega arith), le-ltb c 0x10000 lc) (cc);
        }

fits_cons : (lo hi : ℕ) (rs : List Range) (x : ℕ) (t : Text) → fits ((lo – hi) ∷ rs) (x ∷ t) ≡ true → (lo ≤ x) × (x ≤ hi) × (fits rs t ≡ true)
unfolding fits
fits_cons lo hi rs x t e =
    by (between lo hi x) (λ f. let u = between_true lo hi x f in (u.0, u.1, rw f at e))
    (λ f. let z : false ≡ true = rw f at e in absurd (subst T (sym z) tt))

fits_nil : {X : Type 0} (r : Range) (rs : List Range) → fits (r ∷ rs) [] ≡ true → X
unfolding fits
fits_nil r rs e = absurd (subst T (sym e) tt)

cond_hit : (v : Bool) (n k : ℕ) → cond v n 0 ≡ suc k → (v ≡ true) × (n ≡ suc k)
cond_hit true n k e = (refl, e)
cond_hit false n k e = absurd (omega arith)

-- A sequence at the front, where the first byte says n.
read_rows : (n b k : ℕ) (s : Text) → b < 256 → lead_size b ≡ n → n < 5 → first_tail (rows_of n b) s ≡ suc k
    → Reads (b ∷ s) (code_point (take (suc k) (b ∷ s))) (suc k)
unfolding count_leading_zeros fits code_point lead_bits more_bits
read_rows zero b k s h e m f = absurd (omega arith)
read_rows (suc zero) b k s h e m f =
    let r = says_range 1 0 0x7F tt b h e in
    let u = r.1 in
    subst (λ (j : ℕ). Reads (b ∷ s) (code_point (take j (b ∷ s))) j) f (read_one b b s (omega arith) refl)
read_rows (suc (suc zero)) b k s h e m f = go s (cond_hit (fits ((second_low b – second_high b) ∷ []) s) 2 k f).0 (cond_hit (fits ((second_low b – second_high b) ∷ []) s) 2 k f).1
  where
    go : (s : Text) → fits ((second_low b – second_high b) ∷ []) s ≡ true → 2 ≡ suc k → Reads (b ∷ s) (code_point (take (suc k) (b ∷ s))) (suc k)
    go [] g w = fits_nil (second_low b – second_high b) [] g
    go (x ∷ t) g w =
        let r = says_range 2 0xC2 0xDF tt b h e in
        let v = fits_cons (second_low b) (second_high b) [] x t g in
        let o = second_out b x v.0 v.1 in
        let l = r.0 in
        let u = r.1 in
        let lx = o.low in
        let ux = o.high in
        subst (λ (j : ℕ). Reads (b ∷ x ∷ t) (code_point (take j (b ∷ x ∷ t))) j) w
        (read_two b x (b % 32 * 64 + x % 64) t l u lx ux (omega arith))
read_rows (suc (suc (suc zero))) b k s h e m f = go s (cond_hit (fits ((second_low b – second_high b) ∷ more_tails 1) s) 3 k f).0 (cond_hit (fits ((second_low b – second_high b) ∷ more_tails 1) s) 3 k f).1
  where
    go : (s : Text) → fits ((second_low b – second_high b) ∷ more_tails 1) s ≡ true → 3 ≡ suc k → Reads (b ∷ s) (code_point (take (suc k) (b ∷ s))) (suc k)
    go [] g w = fits_nil (second_low b – second_high b) (more_tails 1) g
    go (x ∷ []) g w = fits_nil (0x80 – 0xBF) [] (fits_cons (second_low b) (second_high b) (more_tails 1) x [] g).2
    go (x ∷ y ∷ t) g w =
        let r = says_range 3 0xE0 0xEF tt b h e in
        let v = fits_cons (second_low b) (second_high b) (more_tails 1) x (y ∷ t) g in
        let v' = fits_cons 0x80 0xBF [] y t v.2 in
        let o = second_out b x v.0 v.1 in
        let l = r.0 in
        let u = r.1 in
        let lx = o.low in
        let ux = o.high in
        let ly = v'.0 in
        let uy = v'.1 in
        subst (λ (j : ℕ). Reads (b ∷ x ∷ y ∷ t) (code_point (take j (b ∷ x ∷ y ∷ t))) j) w
        (read_three b x y ((b % 16 * 64 + x % 64) * 64 + y % 64) t l u o ly uy (three_digits b x y l u lx ux ly uy))
      where
        three_digits : (b x y : ℕ) → 0xE0 ≤ b → b ≤ 0xEF → 0x80 ≤ x → x ≤ 0xBF → 0x80 ≤ y → y ≤ 0xBF
            → (b % 16 * 64 + x % 64) * 64 + y % 64 ≡ (b - 0xE0) * 4096 + (x - 0x80) * 64 + (y - 0x80)
        three_digits b x y l u lx ux ly uy =
            let hb : b % 16 ≡ b - 0xE0 = omega arith in
            let hx : x % 64 ≡ x - 0x80 = omega arith in
            let hy : y % 64 ≡ y - 0x80 = omega arith in
            rw (hb, hx, hy) (omega arith)
read_rows (suc (suc (suc (suc zero)))) b k s h e m f = go s (cond_hit (fits ((second_low b – second_high b) ∷ more_tails 2) s) 4 k f).0 (cond_hit (fits ((second_low b – second_high b) ∷ more_tails 2) s) 4 k f).1
  where
    go : (s : Text) → fits ((second_low b – second_high b) ∷ more_tails 2) s ≡ true → 4 ≡ suc k → Reads (b ∷ s) (code_point (take (suc k) (b ∷ s))) (suc k)
    go [] g w = fits_nil (second_low b – second_high b) (more_tails 2) g
    go (x ∷ []) g w = fits_nil (0x80 – 0xBF) (more_tails 1) (fits_cons (second_low b) (second_high b) (more_tails 2) x [] g).2
    go (x ∷ y ∷ []) g w =
        fits_nil (0x80 – 0xBF) [] (fits_cons 0x80 0xBF (more_tails 1) y [] (fits_cons (second_low b) (second_high b) (more_tails 2) x (y ∷ []) g).2).2
    go (x ∷ y ∷ z ∷ t) g w =
        let r = says_range 4 0xF0 0xF4 tt b h e in
        let v = fits_cons (second_low b) (second_high b) (more_tails 2) x (y ∷ z ∷ t) g in
        let v' = fits_cons 0x80 0xBF (more_tails 1) y (z ∷ t) v.2 in
        let v'' = fits_cons 0x80 0xBF [] z t v'.2 in
        let o = second_out b x v.0 v.1 in
        subst (λ (j : ℕ). Reads (b ∷ x ∷ y ∷ z ∷ t) (code_point (take j (b ∷ x ∷ y ∷ z ∷ t))) j) w
        (read_four b x y z (((b % 8 * 64 + x % 64) * 64 + y % 64) * 64 + z % 64) t r.0 r.1 o v'.0 v'.1 v''.0 v''.1
        (four_digits b x y z r.0 r.1 o.low o.high v'.0 v'.1 v''.0 v''.1))
      where
        four_digits : (b x y z : ℕ) → 0xF0 ≤ b → b ≤ 0xF4 → 0x80 ≤ x → x ≤ 0xBF → 0x80 ≤ y → y ≤ 0xBF → 0x80 ≤ z → z ≤ 0xBF
            → ((b % 8 * 64 + x % 64) * 64 + y % 64) * 64 + z % 64 ≡ (b - 0xF0) * 262144 + (x - 0x80) * 4096 + (y - 0x80) * 64 + (z - 0x80)
        four_digits b x y z l u lx ux ly uy lz uz =
            let hb : b % 8 ≡ b - 0xF0 = omega arith in
            let hx : x % 64 ≡ x - 0x80 = omega arith in
            let hy : y % 64 ≡ y - 0x80 = omega arith in
            let hz : z % 64 ≡ z - 0x80 = omega arith in
            rw (hb, hx, hy, hz) (omega arith)
read_rows (suc (suc (suc (suc (suc n))))) b k s h e m f = absurd (omega arith)

-- The code point of the sequence at the front is a scalar value, and its encoding stands there.
pub size_reads : (s : Text) (k : ℕ) → sequence_size s ≡ suc k → Reads s (code_point (take (suc k) s)) (suc k)
unfolding sequence_size first_fit sequences fits
size_reads [] k e = absurd (let z : ◌≡◌ {A = ℕ} 0 (suc k) = e in omega arith)
size_reads (b ∷ s) k e =
    ⊎_elim (λ h. read_rows (lead_size b) b k s h refl (lead_small b h) (sym (size_rows b h s) ∙ e))
    (λ h. let z = sym (no_byte b s h) ∙ e in absurd (omega arith))
    (split b 256)
