-- Blanks and comments, byte by byte and code point by code point.
use mathlib.Core.Path.{◌≡◌, refl, subst, sym, ap, ap₂, ◌∙◌}
use mathlib.Core.Logic.{◌⊎◌, inl, inr, ⊎_elim}
use mathlib.Core.Bool.{Bool, true, false, not, ◌||◌}
use mathlib.Core.List.{List, [], ◌∷◌, ◌++◌, append_assoc, append-nil}
use Prim.Native.Nat.{ℕ, suc, ◌+◌, ◌≤◌, ◌<◌}
use native.Mathlib.Omega.{arith}
use native.Mathlib.Nat.{zero-add}
use native.Mathlib.Numerals.{add-one}
use borrow.Author.Tests.{lt-ltb, ltb-true, ltb-false, ne_eqb, eq-eqb, eqb-true, eqb-false}
use lib.Dec.{T, eqb, ltb}
use lib.ListN.{length, get_or, drop, drop_of_length-le}
use lib.Seq.{drop-cons}
use Rattle.text.specs.Text.{Text, cond, is}
use Rattle.text.specs.Runs.{four, next_at}
use Rattle.text.proofs.Compare.{contrary, or_left, or_right}
use Rattle.text.proofs.Runs.{next_walk, next_stop}
use Rattle.utf8.specs.Utf8.{encode, encodes, width, decode}
use Rattle.utf8.specs.Scalar.{Highs}
use Rattle.utf8.proofs.Tests.{by, split, below, below_at, same, same_eq}
use Rattle.utf8.proofs.Encoding.{length_encode, width_pos, highs_encode}
use Rattle.utf8.proofs.Decoding.{valid_encoded}
use Rattle.token.specs.Regular.{in_ranges, size}
use Rattle.token.specs.Tokens.{white_space, line_end}
use Rattle.token.proofs.Cutting.{blank_width, high_blank}
use Rattle.lexer.specs.Blanks.{blanks, white_spaces, skips, CommentTo, BlanksAt}

-- A byte or code point from 128 on ends no line.
pub high_line : (c : ℕ) → 128 ≤ c → line_end c ≡ false
high_line c h = simp (ne_eqb c 13 (omega arith), ne_eqb c 10 (omega arith))

-- The test of the code.
pub blank_ranges : (b : ℕ) → b < 256 → (eqb b 32 || eqb b 9 || eqb b 13 || eqb b 10) ≡ in_ranges b white_spaces
blank_ranges b h = same_eq (eqb b 32 || eqb b 9 || eqb b 13 || eqb b 10) (in_ranges b white_spaces) (below_at (λ k. same (eqb k 32 || eqb k 9 || eqb k 13 || eqb k 10) (in_ranges k white_spaces)) 256 tt b h)

skips_highs : (m t : Text) → Highs m → skips true (m ++ t) ≡ length m + skips true t
unfolding skips
skips_highs [] t v = omega arith
skips_highs (b ∷ m) t v = rw (high_line b v.0) (ap suc (skips_highs m t v.1) ∙ omega arith)

-- One code point.
skips_comment : (c : ℕ) (t : Text) → skips true (encode c ++ t) ≡ width c + skips (not (line_end c)) t
unfolding skips
skips_comment c t =
    ⊎_elim (λ h. simp (lt-ltb c 0x80 h) (omega arith))
    (λ h. rw (high_line c h) (skips_highs (encode c) t (highs_encode c h) ∙ ap (λ (n : ℕ). n + skips true t) (length_encode c)))
    (split c 0x80)

skips_blank : (c : ℕ) (t : Text) → skips false (encode c ++ t) ≡ cond (white_space c || is "#" c) (suc (skips (is "#" c) t)) 0
unfolding skips
skips_blank c t =
    ⊎_elim (λ h. simp (lt-ltb c 0x80 h))
    (λ h. high (encode c) (highs_encode c h) (length_encode c) ∙ sym (ap (λ (v : Bool). cond v (suc (skips (is "#" c) t)) 0) (high_blank c h)))
    (split c 0x80)
  where
    high : (m : Text) → Highs m → length m ≡ width c → skips false (m ++ t) ≡ 0
    high [] v e = let o = width_pos c in absurd (omega arith)
    high (b ∷ m) v e = ap (λ (v : Bool). cond v (suc (skips (is "#" b) (m ++ t))) 0) (high_blank b v.0)

-- The code points are blanks and comments, all of them.
record Through (b : Bool) (cs : List ℕ) (z : Text) : Type 0 where
  state : Bool
  all : blanks b cs ≡ size width cs
  more : skips b (encodes cs ++ z) ≡ size width cs + skips state z

skips_front : (b : Bool) (cs : List ℕ) (z : Text) → (skips b (encodes cs ++ z) ≡ blanks b cs) ⊎ Through b cs z
unfolding blanks encodes
skips_front true [] z = inr (record { state = true; all = refl; more = sym (zero-add (skips true z)) })
skips_front false [] z = inr (record { state = false; all = refl; more = sym (zero-add (skips false z)) })
skips_front true (c ∷ cs) z =
    let e : skips true (encodes (c ∷ cs) ++ z) ≡ width c + skips (not (line_end c)) (encodes cs ++ z) =
    ap (skips true) (append_assoc (encode c) (encodes cs) z) ∙ skips_comment c (encodes cs ++ z) in
    ⊎_elim (λ x. inl (e ∙ ap (λ (n : ℕ). width c + n) x))
    (λ r. let m = r.more in inr (record { state = r.state; all = ap (λ (n : ℕ). width c + n) r.all; more = omega arith }))
    (skips_front (not (line_end c)) cs z)
skips_front false (c ∷ cs) z =
    let e : skips false (encodes (c ∷ cs) ++ z) ≡ cond (white_space c || is "#" c) (suc (skips (is "#" c) (encodes cs ++ z))) 0 =
    ap (skips false) (append_assoc (encode c) (encodes cs) z) ∙ skips_blank c (encodes cs ++ z) in
    by (white_space c || is "#" c)
    (λ w.
    let o = blank_width c w in
    let e' : skips false (encodes (c ∷ cs) ++ z) ≡ suc (skips (is "#" c) (encodes cs ++ z)) = rw w at e in
    ⊎_elim (λ x. inl (e' ∙ rw w (ap suc x)))
    (λ r.
    let m = r.more in
    let n = r.all in
    inr (record { state = r.state; all = rw w (let y : suc (blanks (is "#" c) cs) ≡ width c + size width cs = omega arith in y); more = omega arith }))
    (skips_front (is "#" c) cs z))
    (λ w. inl (e ∙ rw w))

-- ---- The routines

same_sets : T (below (λ b. same (in_ranges b white_spaces) (white_space b)) 256)
same_sets = tt

pub blank_is : (b : ℕ) → b < 256 → in_ranges b white_spaces ≡ white_space b
blank_is b h = same_eq (in_ranges b white_spaces) (white_space b) (below_at (λ b. same (in_ranges b white_spaces) (white_space b)) 256 same_sets b h)

nil_skips : (b : Bool) → skips b [] ≡ 0
unfolding skips
nil_skips true = refl
nil_skips false = refl

pub skips_end : (s : Text) (b : Bool) (i : ℕ) → length s ≤ i → skips b (drop i s) ≡ 0
skips_end s b i h = ap (skips b) (drop_of_length-le s {i = i} h) ∙ nil_skips b

skips_cons : (s : Text) (i : ℕ) → i < length s
    → (skips true (drop i s) ≡ suc (skips (not (line_end (get_or s i 0))) (drop (i + 1) s)))
    × (skips false (drop i s) ≡ cond (white_space (get_or s i 0) || is "#" (get_or s i 0)) (suc (skips (is "#" (get_or s i 0)) (drop (i + 1) s))) 0)
unfolding skips
skips_cons s i h = (rw (add-one, drop-cons s i 0 h), rw (add-one, drop-cons s i 0 h))

-- A line ends where a blank stands.
line_blank : (s : Text) (i : ℕ) → i < length s → line_end (get_or s i 0) ≡ true → white_space (get_or s i 0) ≡ true → is "#" (get_or s i 0) ≡ false
    → skips true (drop i s) ≡ skips false (drop i s)
line_blank s i h l w n =
    (skips_cons s i h).0 ∙ ap (λ (v : Bool). suc (skips (not v) (drop (i + 1) s))) l
    ∙ sym
    ((skips_cons s i h).1
    ∙ ap₂ (λ (v u : Bool). cond (v || u) (suc (skips u (drop (i + 1) s))) 0) w n)

module _ (s : Text) (at i : ℕ) (e : at + skips true (drop at s) ≡ i + skips true (drop i s)) where
  pub comment_on : i < length s → (get_or s i 0 ≡ 10 → ⊥) → (get_or s i 0 ≡ 13 → ⊥) → at + skips true (drop at s) ≡ i + 1 + skips true (drop (i + 1) s)
  comment_on h n m =
      let l : line_end (get_or s i 0) ≡ false = simp (ne_eqb _ 10 n, ne_eqb _ 13 m) in
      let f : skips true (drop i s) ≡ suc (skips true (drop (i + 1) s)) = (skips_cons s i h).0 ∙ ap (λ (v : Bool). suc (skips (not v) (drop (i + 1) s))) l in
      omega arith

  pub comment_stop : at ≤ i → i ≤ length s → length s ≤ i → CommentTo s at i
  comment_stop l u h =
      let a = skips_end s true i h in
      let b = skips_end s false i h in
      record { from = l; within = u; same = omega arith }

  pub comment_feed : at ≤ i → i < length s → get_or s i 0 ≡ 10 → CommentTo s at i
  comment_feed l u f = let a = line_blank s i u (rw f) (rw f) (rw f) in record { from = l; within = omega arith; same = omega arith }

  pub comment_return : at ≤ i → i < length s → get_or s i 0 ≡ 13 → CommentTo s at i
  comment_return l u f = let a = line_blank s i u (rw f) (rw f) (rw f) in record { from = l; within = omega arith; same = omega arith }

-- The end of a comment is the next end of a line.
pub comment_next : (s : Text) (at k : ℕ) → at ≤ length s → k ≡ next_at (four 10 13 10 13) s at → at ≤ k → k ≤ length s → CommentTo s at k
comment_next s at k h e l u =
    let x : at + skips true (drop at s) ≡ k + skips true (drop k s) =
    next_walk (four 10 13 10 13) s (λ (j : ℕ). at + skips true (drop at s) ≡ j + skips true (drop j s)) on at k h e refl in
    by (ltb k (length s))
    (λ q. let g : k < length s = ltb-true k (length s) q in
    by (eqb (get_or s k 0) 10) (λ f. comment_feed s at k x l g (eqb-true _ _ f))
    (λ f. by (eqb (get_or s k 0) 13) (λ r. comment_return s at k x l g (eqb-true _ _ r)) (λ r. contrary (sym (next_stop (four 10 13 10 13) s at k e g) ∙ rw (f, r)))))
    (λ q. comment_stop s at k x l u (ltb-false k (length s) q))
  where
    on : (j : ℕ) → j < length s → four 10 13 10 13 (get_or s j 0) ≡ false → at + skips true (drop at s) ≡ j + skips true (drop j s) → at + skips true (drop at s) ≡ j + 1 + skips true (drop (j + 1) s)
    on j g f y =
        let c = get_or s j 0 in
        let z = or_left (eqb c 10 || eqb c 13) (eqb c 10 || eqb c 13) f in
        comment_on s at j y g (eqb-false c 10 (or_left (eqb c 10) (eqb c 13) z)) (eqb-false c 13 (or_right (eqb c 10) (eqb c 13) z))

-- skip_blanks: what is left is that of the rest.
module _ (s : Text) (i : ℕ) (e : skips false s ≡ i + skips false (drop i s)) where
  blanks_at : i ≤ length s → skips false (drop i s) ≡ 0 → BlanksAt s i
  blanks_at w z = record {
    within = w;
    right = λ v.
        let cs = decode s in
        let g = ap (skips false) ((valid_encoded s v).bytes ∙ sym (append-nil (encodes cs))) in
        ⊎_elim (λ x. omega arith) (λ r. let o = r.all in let m = r.more in let n = nil_skips r.state in omega arith) (skips_front false cs []);
    front = λ cs u f h.
        let g = ap (skips false) f.bytes in
        ⊎_elim (λ x. omega arith) (λ r. let m = r.more in absurd (omega arith)) (skips_front false cs u);
  }

  pub blanks_end : i ≤ length s → length s ≤ i → BlanksAt s i
  blanks_end w h = blanks_at w (skips_end s false i h)

  module _ (h : i < length s) (b : Bool) (k : get_or s i 0 < 256) (f : b ≡ in_ranges (get_or s i 0) white_spaces) where
    is_blank : white_space (get_or s i 0) ≡ b
    is_blank = sym (f ∙ blank_is (get_or s i 0) k)

    pub blanks_on : b ≡ true → skips false s ≡ i + 1 + skips false (drop (i + 1) s)
    blanks_on g =
        let w : white_space (get_or s i 0) ≡ true = is_blank ∙ g in
        let n : is "#" (get_or s i 0) ≡ false = by (is "#" (get_or s i 0)) (λ x. let z : true ≡ false = sym w ∙ rw (eqb-true (get_or s i 0) 35 x) in absurd (subst T z tt)) (λ x. x) in
        let a : skips false (drop i s) ≡ suc (skips false (drop (i + 1) s)) =
        (skips_cons s i h).1 ∙ ap₂ (λ (v u : Bool). cond (v || u) (suc (skips u (drop (i + 1) s))) 0) w n in
        omega arith

    pub blanks_stop : b ≡ false → (get_or s i 0 ≡ 35 → ⊥) → BlanksAt s i
    blanks_stop g n =
        blanks_at (omega arith)
        ((skips_cons s i h).1 ∙ ap₂ (λ (v u : Bool). cond (v || u) (suc (skips u (drop (i + 1) s))) 0) (is_blank ∙ g) (ne_eqb _ 35 n))

    pub blanks_comment : b ≡ false → get_or s i 0 ≡ 35 → (j : ℕ) → CommentTo s (i + 1) j → skips false s ≡ j + skips false (drop j s)
    blanks_comment g n j c =
        let a : skips false (drop i s) ≡ suc (skips true (drop (i + 1) s)) =
        (skips_cons s i h).1 ∙ ap₂ (λ (v u : Bool). cond (v || u) (suc (skips u (drop (i + 1) s))) 0) (is_blank ∙ g) (eq-eqb _ 35 n) in
        let o = c.same in
        omega arith
