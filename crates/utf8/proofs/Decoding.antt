-- Decoding: a text without a bad sequence is the encoding of its code points, and these are scalar values.
use mathlib.Core.Path.{◌≡◌, refl, sym, ap, ap₂, ◌∙◌}
use mathlib.Core.Bool.{Bool}
use mathlib.Core.List.{List, [], ◌∷◌, ◌++◌, append_assoc}
use mathlib.Core.Option.{none, some}
use Prim.Native.Nat.{ℕ, zero, suc, pred, ◌+◌, ◌*◌, ◌-◌, ◌/◌, ◌%◌, ◌≤◌, ◌<◌}
use native.Mathlib.Omega.{arith}
use native.Mathlib.Nat.{add-zero, div-div-eq-div-mul}
use borrow.Author.Tests.{lt-ltb, le-ltb, leb-false}
use lib.Dec.{eqb, eqb-suc-zero}
use lib.ListN.{length, get_or, take, drop, length-append, length-drop, drop_of_length-le}
use lib.Seq.{take_at, take_all, drop_at, drop-drop, drop-cons}
use Rattle.text.specs.Text.{Text, cond}
use Rattle.text.specs.Runs.{high, next_at}
use Rattle.text.proofs.Runs.{next_walk}
use Rattle.utf8.specs.Utf8.{sequence_size, lead_bits, more_bits, code_point, decode_from, decode, bad_from, first_bad, encode, encodes}
use Rattle.utf8.specs.Scalar.{Scalar, Scalars, Encodes}
use Rattle.utf8.proofs.Encoding.{by_width, length_encode, width_pos, width_most, size_encode, size_one, size_reads}

-- ---- Decoding what was encoded

pub code_encode : (c : ℕ) → Scalar c → code_point (encode c) ≡ c
unfolding code_point lead_bits more_bits
code_encode c s =
    by_width c
    (λ h. simp (lt-ltb c 0x80 h))
    (λ h h'. simp (le-ltb c 0x80 h, lt-ltb c 0x800 h') (omega arith))
    (λ h h'. simp (le-ltb c 0x80 (omega arith), le-ltb c 0x800 h, lt-ltb c 0x10000 h') (omega (arith, div-div-eq-div-mul c 64 64)))
    (λ h. simp (le-ltb c 0x80 (omega arith), le-ltb c 0x800 (omega arith), le-ltb c 0x10000 h) (four h s.0))
  where
    four : 0x10000 ≤ c → c < 0x110000
        → (((0xF0 + c / 262144) % 8 * 64 + (0x80 + c / 4096 % 64) % 64) * 64 + (0x80 + c / 64 % 64) % 64) * 64 + (0x80 + c % 64) % 64 ≡ c
    four l u =
        let p : (0xF0 + c / 262144) % 8 ≡ c / 262144 = omega arith in
        let q : (0x80 + c / 4096 % 64) % 64 ≡ c / 4096 % 64 = omega arith in
        let r : (0x80 + c / 64 % 64) % 64 ≡ c / 64 % 64 = omega arith in
        let t : (0x80 + c % 64) % 64 ≡ c % 64 = omega arith in
        rw (p, q, r, t) (omega (arith, div-div-eq-div-mul c 64 64, div-div-eq-div-mul c 4096 64))

skip_decode : (x t : Text) → decode_from (length x) (x ++ t) ≡ decode_from 0 t
unfolding decode_from
skip_decode [] t = refl
skip_decode (b ∷ x) t = skip_decode x t

skip_bad : (x t : Text) (at : ℕ) → bad_from at (length x) (x ++ t) ≡ bad_from (at + length x) 0 t
unfolding bad_from
skip_bad [] t at = ap (λ (n : ℕ). bad_from n 0 t) (sym (add-zero at))
skip_bad (b ∷ x) t at =
    let e : suc at + length x ≡ at + suc (length x) = omega arith in
    skip_bad x t (suc at) ∙ ap (λ (n : ℕ). bad_from n 0 t) e

-- One sequence x, and what follows it.
module _ (x t : Text) (p : 0 < length x) (e : sequence_size (x ++ t) ≡ length x) where
  decode_one : decode (x ++ t) ≡ code_point x ∷ decode t
  unfolding decode decode_from
  decode_one = go x p e
    where
      go : (x : Text) → 0 < length x → sequence_size (x ++ t) ≡ length x → decode_from 0 (x ++ t) ≡ code_point x ∷ decode_from 0 t
      go [] p e = absurd (omega arith)
      go (b ∷ x) p e =
          ap (λ (n : ℕ). code_point (take n (b ∷ (x ++ t))) ∷ decode_from (pred n) (x ++ t)) e
          ∙ ap₂ (λ (c : ℕ) (cs : List ℕ). c ∷ cs) (ap code_point (take_at (b ∷ x) t (suc (length x)) refl)) (skip_decode x t)

  bad_one : (at : ℕ) → bad_from at 0 (x ++ t) ≡ bad_from (at + length x) 0 t
  unfolding bad_from
  bad_one at = go x p e
    where
      go : (x : Text) → 0 < length x → sequence_size (x ++ t) ≡ length x → bad_from at 0 (x ++ t) ≡ bad_from (at + length x) 0 t
      go [] p e = absurd (omega arith)
      go (b ∷ x) p e =
          let o : suc at + length x ≡ at + suc (length x) = omega arith in
          ap (λ (n : ℕ). cond (eqb n 0) (some at) (bad_from (suc at) (pred n) (x ++ t))) e
          ∙ ap (λ (v : Bool). cond v (some at) (bad_from (suc at) (length x) (x ++ t))) (eqb-suc-zero (length x))
          ∙ skip_bad x t (suc at) ∙ ap (λ (n : ℕ). bad_from n 0 t) o

module _ (c : ℕ) (t : Text) (s : Scalar c) where
  pub decode_encode : decode (encode c ++ t) ≡ c ∷ decode t
  decode_encode =
      decode_one (encode c) t (let l = length_encode c in let w = width_pos c in omega arith) (size_encode c t s ∙ sym (length_encode c))
      ∙ ap (λ (d : ℕ). d ∷ decode t) (code_encode c s)

  bad_encode : (at : ℕ) → bad_from at 0 (encode c ++ t) ≡ bad_from (at + length (encode c)) 0 t
  bad_encode = bad_one (encode c) t (let l = length_encode c in let w = width_pos c in omega arith) (size_encode c t s ∙ sym (length_encode c))

pub decode_encodes : (cs : List ℕ) → Scalars cs → decode (encodes cs) ≡ cs
unfolding decode decode_from encodes
decode_encodes [] s = refl
decode_encodes (c ∷ cs) s = decode_encode c (encodes cs) s.0 ∙ ap (λ (x : List ℕ). c ∷ x) (decode_encodes cs s.1)

bad_encodes : (cs : List ℕ) → Scalars cs → (at : ℕ) → bad_from at 0 (encodes cs) ≡ none
unfolding bad_from encodes
bad_encodes [] s at = refl
bad_encodes (c ∷ cs) s at = bad_encode c (encodes cs) s.0 at ∙ bad_encodes cs s.1 (at + length (encode c))

pub valid_encodes : (cs : List ℕ) → Scalars cs → first_bad (encodes cs) ≡ none
unfolding first_bad
valid_encodes cs s = bad_encodes cs s 0

-- ---- Encoding what was decoded

encodes_from : (s : Text) (at k : ℕ) → bad_from at k s ≡ none → Encodes (drop k s) (decode_from k s)
unfolding bad_from decode_from encodes
encodes_from [] at zero e = record { scalars = tt; bytes = refl }
encodes_from [] at (suc k) e = record { scalars = tt; bytes = refl }
encodes_from (b ∷ s) at (suc k) e = encodes_from s (suc at) k e
encodes_from (b ∷ s) at zero e = go (sequence_size (b ∷ s)) refl (λ k. encodes_from s (suc at) k) e
  where
    go : (n : ℕ) → sequence_size (b ∷ s) ≡ n → ((k : ℕ) → bad_from (suc at) k s ≡ none → Encodes (drop k s) (decode_from k s))
        → cond (eqb n 0) (some at) (bad_from (suc at) (pred n) s) ≡ none
        → Encodes (b ∷ s) (code_point (take n (b ∷ s)) ∷ decode_from (pred n) s)
    go zero f ih e = let z : ◌≡◌ {A = ℕ} 0 1 = cc in absurd (omega arith)
    go (suc k) f ih e =
        let r = size_reads (b ∷ s) k f in
        let g = ih k (rw (eqb-suc-zero k) at e) in
        let d : drop k s ≡ r.rest =
        ap (drop (suc k)) r.whole ∙ drop_at (encode (code_point (take (suc k) (b ∷ s)))) r.rest (suc k) (length_encode (code_point (take (suc k) (b ∷ s))) ∙ sym r.size) in
        record {
          scalars = (r.scalar, g.scalars);
          bytes = r.whole ∙ ap (λ (x : Text). encode (code_point (take (suc k) (b ∷ s))) ++ x) (sym d ∙ g.bytes);
        }

pub valid_encoded : (s : Text) → first_bad s ≡ none → Encodes s (decode s)
unfolding first_bad decode
valid_encoded s e = encodes_from s 0 0 e

pub encoded_valid : (s : Text) (cs : List ℕ) → Encodes s cs → (first_bad s ≡ none) × (decode s ≡ cs)
encoded_valid s cs g = (ap first_bad g.bytes ∙ valid_encodes cs g.scalars, ap decode g.bytes ∙ decode_encodes cs g.scalars)

-- ---- Parts of a text

pub encodes_append : (xs ys : List ℕ) → encodes (xs ++ ys) ≡ encodes xs ++ encodes ys
unfolding encodes
encodes_append [] ys = refl
encodes_append (x ∷ xs) ys = ap (λ (t : Text). encode x ++ t) (encodes_append xs ys) ∙ sym (append_assoc (encode x) (encodes xs) (encodes ys))

pub scalars_right : (xs ys : List ℕ) → Scalars (xs ++ ys) → Scalars ys
scalars_right [] ys h = h
scalars_right (x ∷ xs) ys h = scalars_right xs ys h.1

-- ---- The routines: a sequence that is read, and the search for a bad one

pub size_within : (s : Text) → (sequence_size s ≤ length s) × (sequence_size s ≤ 4)
size_within s = go (sequence_size s) refl
  where
    go : (n : ℕ) → sequence_size s ≡ n → (n ≤ length s) × (n ≤ 4)
    go zero e = (omega arith, omega arith)
    go (suc k) e =
        let r = size_reads s k e in
        let l = ap length r.whole ∙ length-append (encode (code_point (take (suc k) s))) r.rest in
        let m = length_encode (code_point (take (suc k) s)) in
        let w = r.size in
        let o = width_most (code_point (take (suc k) s)) in
        (omega arith, omega arith)

pub tail_eq : (s : Text) (i : ℕ) → take (length s - i) (drop i s) ≡ drop i s
tail_eq s i = take_all (length s - i) (drop i s) (let m = length-drop i s in omega arith)

module _ (s : Text) (i : ℕ) where
  pub bad_on : (n : ℕ) → n ≡ sequence_size (take (length s - i) (drop i s)) → (n ≡ 0 → ⊥)
      → (i + n ≤ length s) × (bad_from i 0 (drop i s) ≡ bad_from (i + n) 0 (drop (i + n) s))
  bad_on zero e z = absurd (z refl)
  bad_on (suc k) e z =
      let f : sequence_size (drop i s) ≡ suc k = ap sequence_size (sym (tail_eq s i)) ∙ sym e in
      let r = size_reads (drop i s) k f in
      let c = code_point (take (suc k) (drop i s)) in
      let l : length (encode c) ≡ suc k = length_encode c ∙ sym r.size in
      let m = sym (length-drop i s) ∙ ap length r.whole ∙ length-append (encode c) r.rest in
      let d : drop (i + suc k) s ≡ r.rest = sym (drop-drop (suc k) i s) ∙ ap (drop (suc k)) r.whole ∙ drop_at (encode c) r.rest (suc k) l in
      let a = bad_encode c r.rest r.scalar i in
      (omega arith, ap (bad_from i 0) r.whole ∙ a ∙ ap₂ (λ (n : ℕ) (t : Text). bad_from (i + n) 0 t) l (sym d))

  pub bad_ascii : i < length s → get_or s i 0 < 128 → bad_from i 0 (drop i s) ≡ bad_from (i + 1) 0 (drop (i + 1) s)
  bad_ascii h l =
      let f : sequence_size (drop i s) ≡ 1 = ap sequence_size (drop-cons s i 0 h) ∙ size_one (get_or s i 0) (drop (suc i) s) l in
      (bad_on 1 (sym (ap sequence_size (tail_eq s i) ∙ f)) (λ z. absurd (omega arith))).1

  pub bad_here : i < length s → sequence_size (take (length s - i) (drop i s)) ≡ 0 → bad_from i 0 (drop i s) ≡ some i
  unfolding bad_from
  bad_here h e =
      let f : sequence_size (get_or s i 0 ∷ drop (suc i) s) ≡ 0 = ap sequence_size (sym (drop-cons s i 0 h)) ∙ ap sequence_size (sym (tail_eq s i)) ∙ e in
      ap (bad_from i 0) (drop-cons s i 0 h)
      ∙ ap (λ (n : ℕ). cond (eqb n 0) (some i) (bad_from (suc i) (pred n) (drop (suc i) s))) f

  pub bad_none : length s ≤ i → bad_from i 0 (drop i s) ≡ none
  unfolding bad_from
  bad_none h = ap (bad_from i 0) (drop_of_length-le s {i = i} h)

-- ---- The routine that reads a code point, by the size of its sequence

module _ (s : Text) (n : ℕ) (e : n ≡ sequence_size s) where
  abbrev ReadAs : ℕ → ℕ → Type 0
  ReadAs value size = (size ≡ sequence_size s) × (value ≡ code_point (take (sequence_size s) s))

  read_as : (k value : ℕ) → n ≡ k → value ≡ code_point (take k s) → ReadAs value k
  read_as k value z f = (sym z ∙ e, f ∙ ap (λ (m : ℕ). code_point (take m s)) (sym z ∙ e))

  long : (k : ℕ) → n ≡ k → k ≤ length s
  long k z = let l = (size_within s).0 in omega arith

  pub point_one : n ≡ 1 → (b : ℕ) → b ≡ get_or s 0 0 → ReadAs b 1
  unfolding code_point lead_bits more_bits
  point_one z b f = read_as 1 b z (go s (long 1 z) f)
    where
      go : (s : Text) → 1 ≤ length s → b ≡ get_or s 0 0 → b ≡ code_point (take 1 s)
      go [] l f = absurd (omega arith)
      go (x ∷ s) l f = f

  pub point_two : n ≡ 2 → (b : ℕ) → b ≡ get_or s 0 0 → (x : ℕ) → x ≡ get_or s 1 0 → ReadAs (b % 32 * 64 + x % 64) 2
  unfolding code_point lead_bits more_bits
  point_two z b f x f' = read_as 2 (b % 32 * 64 + x % 64) z (go s (long 2 z) f f')
    where
      go : (s : Text) → 2 ≤ length s → b ≡ get_or s 0 0 → x ≡ get_or s 1 0 → b % 32 * 64 + x % 64 ≡ code_point (take 2 s)
      go [] l f f' = absurd (omega arith)
      go (p ∷ []) l f f' = absurd (omega arith)
      go (p ∷ q ∷ s) l f f' = rw (f, f')

  pub point_three : n ≡ 3 → (b : ℕ) → b ≡ get_or s 0 0 → (x : ℕ) → x ≡ get_or s 1 0 → (y : ℕ) → y ≡ get_or s 2 0
      → ReadAs ((b % 16 * 64 + x % 64) * 64 + y % 64) 3
  unfolding code_point lead_bits more_bits
  point_three z b f x f' y f'' = read_as 3 ((b % 16 * 64 + x % 64) * 64 + y % 64) z (go s (long 3 z) f f' f'')
    where
      go : (s : Text) → 3 ≤ length s → b ≡ get_or s 0 0 → x ≡ get_or s 1 0 → y ≡ get_or s 2 0 → (b % 16 * 64 + x % 64) * 64 + y % 64 ≡ code_point (take 3 s)
      go [] l f f' f'' = absurd (omega arith)
      go (p ∷ []) l f f' f'' = absurd (omega arith)
      go (p ∷ q ∷ []) l f f' f'' = absurd (omega arith)
      go (p ∷ q ∷ r ∷ s) l f f' f'' = rw (f, f', f'')

  pub point_four : n ≡ 4 → (b : ℕ) → b ≡ get_or s 0 0 → (x : ℕ) → x ≡ get_or s 1 0 → (y : ℕ) → y ≡ get_or s 2 0 → (w : ℕ) → w ≡ get_or s 3 0
      → ReadAs (((b % 8 * 64 + x % 64) * 64 + y % 64) * 64 + w % 64) 4
  unfolding code_point lead_bits more_bits
  point_four z b f x f' y f'' w f''' = read_as 4 (((b % 8 * 64 + x % 64) * 64 + y % 64) * 64 + w % 64) z (go s (long 4 z) f f' f'' f''')
    where
      go : (s : Text) → 4 ≤ length s → b ≡ get_or s 0 0 → x ≡ get_or s 1 0 → y ≡ get_or s 2 0 → w ≡ get_or s 3 0
          → ((b % 8 * 64 + x % 64) * 64 + y % 64) * 64 + w % 64 ≡ code_point (take 4 s)
      go [] l f f' f'' f''' = absurd (omega arith)
      go (p ∷ []) l f f' f'' f''' = absurd (omega arith)
      go (p ∷ q ∷ []) l f f' f'' f''' = absurd (omega arith)
      go (p ∷ q ∷ r ∷ []) l f f' f'' f''' = absurd (omega arith)
      go (p ∷ q ∷ r ∷ o ∷ s) l f f' f'' f''' = rw (f, f', f'', f''')

-- From an ASCII character to the next byte that is none.
pub bad_run : (s : Text) (i k : ℕ) → i < length s → get_or s i 0 < 128 → k ≡ next_at high s (i + 1) → first_bad s ≡ bad_from i 0 (drop i s) → first_bad s ≡ bad_from k 0 (drop k s)
bad_run s i k h l e x =
    next_walk high s (λ (j : ℕ). first_bad s ≡ bad_from j 0 (drop j s)) (λ j g f y. y ∙ bad_ascii s j g (leb-false 128 (get_or s j 0) f)) (i + 1) k (omega arith) e (x ∙ bad_ascii s i h l)
