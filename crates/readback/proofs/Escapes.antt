-- Escapes in strings and references: undone, they leave UTF-8, where they name characters.
use mathlib.Core.Path.{◌≡◌, refl, sym, ap, ◌∙◌, subst}
use mathlib.Core.Logic.{◌⊎◌, inl, inr, ⊎_elim}
use mathlib.Core.Bool.{Bool, true, false, ◌&&◌}
use mathlib.Core.List.{List, [], ◌∷◌, ◌++◌, append_assoc}
use Prim.Native.Nat.{ℕ, zero, suc, ◌+◌, ◌*◌, ◌<◌}
use native.Mathlib.Omega.{arith}
use borrow.Author.Tests.{eqb-true, ne_eqb, lt-ltb, ltb-false, leb-false}
use lib.Dec.{T, eqb, leb, ltb, leb→le}
use lib.ListN.{length, length-append}
use Rattle.text.specs.Text.{Text, ascii, between}
use Rattle.text.proofs.Booleans.{and_in, or_cases}
use Rattle.utf8.specs.Utf8.{Range, ◌–◌, encode, encodes}
use Rattle.utf8.specs.Scalar.{Scalar, Scalars, Highs}
use Rattle.utf8.proofs.Tests.{by, split, and_true, or_false}
use Rattle.utf8.proofs.Encoding.{highs_encode}
use Rattle.utf8.proofs.Decoding.{encodes_append, scalars_right}
use Rattle.token.specs.Regular.{Re, eps, set, seq, alt, star, in_ranges, in_set, Star, stop, more, Matches}
use Rattle.escape.specs.Escape.{numeric, letter, outside, digits, hex_value, pieces_from, letter_value, unescape_piece, unescape_pieces, no_character, bad_pieces}
use Rattle.escape.proofs.Steps.{at_backslash, at_plain, at_short, at_long, at_letter}
use Rattle.readback.proofs.Undone.{lows, ascii_encode, lows_encodes}
use Rattle.readback.proofs.Tags.{confined_ranges, confined, out_ranges}
use Rattle.readback.proofs.Texts.{Utf8, utf8_none, utf8_append, utf8_encode, utf8_cons}

-- ---- Texts that hold whole escapes

pub data Escaped : List ℕ → Type 0 where
  none : Escaped []
  one : (c : ℕ) {cs : List ℕ} → eqb c 92 ≡ false → Escaped cs → Escaped (c ∷ cs)
  coded : (c : ℕ) {cs : List ℕ} → c < 128 → eqb c 117 ≡ false → eqb c 85 ≡ false → Escaped cs → Escaped (92 ∷ c ∷ cs)
  short : (hs cs : List ℕ) {z : List ℕ} → length hs ≡ 4 → T (lows hs) → Escaped cs → z ≡ 92 ∷ 117 ∷ (hs ++ cs) → Escaped z
  long : (hs cs : List ℕ) {z : List ℕ} → length hs ≡ 8 → T (lows hs) → Escaped cs → z ≡ 92 ∷ 85 ∷ (hs ++ cs) → Escaped z

-- ---- They leave UTF-8

-- Bytes among which there is no backslash are taken as they are.
abbrev pub Unslashed : Text → Type 0
Unslashed [] = Unit {0}
Unslashed (b ∷ s) = (eqb b 92 ≡ false) × Unslashed s

unslashed_highs : (s : Text) → Highs s → Unslashed s
unslashed_highs [] h = tt
unslashed_highs (b ∷ s) h = (ne_eqb b 92 (λ e. let k = h.0 in absurd (omega arith)), unslashed_highs s h.1)

unslashed_encode : (c : ℕ) → eqb c 92 ≡ false → Unslashed (encode c)
unslashed_encode c e =
    ⊎_elim (λ h. subst Unslashed (sym (ascii_encode c h)) (e, tt)) (λ h. unslashed_highs (encode c) (highs_encode c h)) (split c 128)

pub bad_plain : (x t : Text) → Unslashed x → bad_pieces (pieces_from outside (x ++ t)) ≡ bad_pieces (pieces_from outside t)
unfolding bad_pieces
bad_plain [] t h = refl
bad_plain (b ∷ x) t h = ap bad_pieces (at_plain b (x ++ t) h.0) ∙ bad_plain x t h.1

text_plain : (x t : Text) → Unslashed x → unescape_pieces (pieces_from outside (x ++ t)) ≡ x ++ unescape_pieces (pieces_from outside t)
unfolding unescape_pieces unescape_piece
text_plain [] t h = refl
text_plain (b ∷ x) t h = ap unescape_pieces (at_plain b (x ++ t) h.0) ∙ ap (λ (s : Text). b ∷ s) (text_plain x t h.1)

-- Hex digits make one piece.
hexes_read : (n v : ℕ) (hs : List ℕ) → length hs ≡ suc n → (u : ℕ) × ((t : Text) → pieces_from (digits n v) (hs ++ t) ≡ numeric u ∷ pieces_from outside t)
unfolding pieces_from
hexes_read n v [] e = absurd (omega arith)
hexes_read zero v (h ∷ []) e = (v * 16 + hex_value h, λ t. refl)
hexes_read zero v (h ∷ i ∷ hs) e = absurd (omega arith)
hexes_read (suc n) v (h ∷ hs) e = hexes_read n (v * 16 + hex_value h) hs (omega arith)

named_scalar : (v : ℕ) → no_character v ≡ false → Scalar v
unfolding no_character
named_scalar v e =
    let (a, b) = or_false (between 0xD800 0xDFFF v) (ltb 0x10FFFF v) e in
    (omega (arith, ltb-false 0x10FFFF v b), outside_of a)
  where
    outside_of : (leb 0xD800 v && leb v 0xDFFF) ≡ false → (v < 0xD800) ⊎ (0xDFFF < v)
    outside_of a =
        by (leb 0xD800 v) (λ f. inr (leb-false v 0xDFFF (rw f at a))) (λ f. inl (leb-false 0xD800 v f))

letter_low : (c : ℕ) → c < 128 → letter_value c < 128
unfolding letter_value
letter_low c h =
    by (eqb c 116) (λ e. rw e (omega arith))
    (λ a.
    by (eqb c 98) (λ e. rw (a, e) (omega arith))
    (λ b.
    by (eqb c 110) (λ e. rw (a, b, e) (omega arith))
    (λ d. by (eqb c 114) (λ e. rw (a, b, d, e) (omega arith)) (λ f. by (eqb c 102) (λ e. rw (a, b, d, f, e) (omega arith)) (λ e. rw (a, b, d, f, e) h)))))

-- Undone, the text leaves UTF-8, if no escape of it and of what follows names no character.
record Clean (s : Text) : Type 0 where
  good : (y : Text) → bad_pieces (pieces_from outside (s ++ y)) ≡ false → Utf8 (unescape_pieces (pieces_from outside s))

clean_numeric : (front s : Text) (v : ℕ) → ((t : Text) → pieces_from outside (front ++ t) ≡ numeric v ∷ pieces_from outside t) → Clean s → Clean (front ++ s)
unfolding bad_pieces unescape_pieces unescape_piece
clean_numeric front s v r x =
    record {
      good =
          λ y e.
          let (a, b) = or_false (no_character v) (bad_pieces (pieces_from outside (s ++ y))) (ap bad_pieces (sym (ap (pieces_from outside) (append_assoc front s y) ∙ r (s ++ y))) ∙ e) in
          subst (λ us. Utf8 (unescape_pieces us)) (sym (r s)) (utf8_append (encode v) (unescape_pieces (pieces_from outside s)) (utf8_encode v (named_scalar v a)) (x.good y b));
    }

clean_letter : (c : ℕ) (s : Text) → c < 128 → eqb c 117 ≡ false → eqb c 85 ≡ false → Clean s → Clean (92 ∷ c ∷ s)
unfolding bad_pieces unescape_pieces unescape_piece
clean_letter c s h m n x =
    let r : (t : Text) → pieces_from outside (92 ∷ c ∷ t) ≡ letter c ∷ pieces_from outside t = λ t. at_backslash 92 (c ∷ t) refl ∙ at_letter c t m n in
    record {
      good =
          λ y e.
          subst (λ us. Utf8 (unescape_pieces us)) (sym (r s))
          (utf8_cons (letter_value c) (unescape_pieces (pieces_from outside s)) (letter_low c h) (x.good y (ap bad_pieces (sym (r (s ++ y))) ∙ e)));
    }

clean_plain : (x s : Text) → Unslashed x → Utf8 x → Clean s → Clean (x ++ s)
clean_plain x s h u r =
    record {
      good =
          λ y e.
          subst Utf8 (sym (text_plain x s h))
          (utf8_append x (unescape_pieces (pieces_from outside s)) u (r.good y (sym (bad_plain x (s ++ y) h) ∙ ap (λ (z : Text). bad_pieces (pieces_from outside z)) (sym (append_assoc x s y)) ∙ e)));
    }

-- The bytes of low code points and of others behind them.
pub low_front : (hs cs : List ℕ) → T (lows hs) → encodes (hs ++ cs) ≡ hs ++ encodes cs
low_front hs cs t = encodes_append hs cs ∙ ap (λ (x : Text). x ++ encodes cs) (lows_encodes hs t)

clean : {cs : List ℕ} → Escaped cs → Scalars cs → Clean (encodes cs)
unfolding encodes pieces_from unescape_pieces
clean none h = record { good = λ y e. utf8_none }
clean (one c {cs} e x) h = clean_plain (encode c) (encodes cs) (unslashed_encode c e) (utf8_encode c h.0) (clean x h.1)
clean (coded c {cs} k m n x) h =
    subst Clean (sym (low_front (92 ∷ c ∷ []) cs (rw (lt-ltb c 128 k) tt))) (clean_letter c (encodes cs) k m n (clean x h.1.1))
clean (short hs cs l t x e) h =
    let (v, r) = hexes_read 3 0 hs l in
    let k = subst Scalars e h in
    subst Clean (sym (ap encodes e ∙ low_front (92 ∷ 117 ∷ hs) cs t))
    (clean_numeric (92 ∷ 117 ∷ hs) (encodes cs) v (λ u. at_backslash 92 (117 ∷ (hs ++ u)) refl ∙ at_short 117 (hs ++ u) refl ∙ r u) (clean x (scalars_right (92 ∷ 117 ∷ hs) cs k)))
clean (long hs cs l t x e) h =
    let (v, r) = hexes_read 7 0 hs l in
    let k = subst Scalars e h in
    subst Clean (sym (ap encodes e ∙ low_front (92 ∷ 85 ∷ hs) cs t))
    (clean_numeric (92 ∷ 85 ∷ hs) (encodes cs) v (λ u. at_backslash 92 (85 ∷ (hs ++ u)) refl ∙ at_long 85 (hs ++ u) refl refl ∙ r u) (clean x (scalars_right (92 ∷ 85 ∷ hs) cs k)))

-- Such a text undone, where no escape of it and of what follows names no character.
pub utf8_unescape : {cs : List ℕ} → Escaped cs → Scalars cs → (y : Text) → bad_pieces (pieces_from outside (encodes cs ++ y)) ≡ false → Utf8 (unescape_pieces (pieces_from outside (encodes cs)))
utf8_unescape x h y e = (clean x h).good y e

-- ---- Expressions that match such texts

pub record Steps (r : Re) : Type 0 where
  pub on : (x y : List ℕ) → Matches r x → Escaped y → Escaped (x ++ y)

steps_eps : Steps eps
steps_eps = record { on = λ x y m h. subst (λ (z : List ℕ). Escaped (z ++ y)) (sym m) h }

steps_alt : {p q : Re} → Steps p → Steps q → Steps (alt p q)
steps_alt a b = record { on = λ x y m h. ⊎_elim (λ k. a.on x y k h) (λ k. b.on x y k h) m }

steps_seq : {p q : Re} → Steps p → Steps q → Steps (seq p q)
steps_seq a b =
    record {
      on = λ x y (u, v, e, m, n) h. subst Escaped (sym (ap (λ (z : List ℕ). z ++ y) e ∙ append_assoc u v y)) (a.on u (v ++ y) m (b.on v y n h));
    }

escaped_star : {p : Re} → Steps p → (x y : List ℕ) → Star (Matches p) x → Escaped y → Escaped (x ++ y)
escaped_star a x y stop h = h
escaped_star a x y (more c u v m s e) h = subst Escaped (sym (ap (λ (z : List ℕ). z ++ y) e ∙ append_assoc (c ∷ u) v y)) (a.on (c ∷ u) (v ++ y) m (escaped_star a v y s h))

pub steps_star : {p : Re} → Steps p → Steps (star p)
steps_star a = record { on = λ x y m h. escaped_star a x y m h }

-- A set without the backslash.
steps_set : (b : Bool) (rs : List Range) → in_set 92 b rs ≡ false → Steps (set b rs)
steps_set b rs f =
    record {
      on =
          λ x y (c, e, t) h.
          subst (λ (z : List ℕ). Escaped (z ++ y)) (sym e)
          (one c (by (eqb c 92) (λ k. absurd (subst T (ap (λ (d : ℕ). in_set d b rs) (eqb-true c 92 k) ∙ f) t)) (λ k. k)) h);
    }

-- ---- ASCII

range_low : (c : ℕ) (rs : List Range) → T (confined_ranges rs) → T (in_ranges c rs) → c < 128
range_low c rs t m = ⊎_elim (λ h. h) (λ h. absurd (subst T (out_ranges c rs (inr h) t) m)) (split c 128)

pub lows_append : (x y : List ℕ) → T (lows x) → T (lows y) → T (lows (x ++ y))
lows_append [] y t u = u
lows_append (c ∷ x) y t u = let v = and_true (ltb c 128) (lows x) t in and_in (ltb c 128) (lows (x ++ y)) v.0 (lows_append x y v.1 u)

star_lows : (p : Re) → ((x : List ℕ) → Matches p x → T (lows x)) → (x : List ℕ) → Star (Matches p) x → T (lows x)
star_lows p f x stop = tt
star_lows p f x (more c u v m s e) = subst (λ (z : List ℕ). T (lows z)) (sym e) (lows_append (c ∷ u) v (f (c ∷ u) m) (star_lows p f v s))

pub confined_lows : (r : Re) → T (confined r) → (x : List ℕ) → Matches r x → T (lows x)
confined_lows eps t x m = subst (λ (z : List ℕ). T (lows z)) (sym m) tt
confined_lows (set true rs) t x (c, e, m) = subst (λ (z : List ℕ). T (lows z)) (sym e) (rw (lt-ltb c 128 (range_low c rs t m)) tt)
confined_lows (set false rs) t x m = absurd t
confined_lows (seq p q) t x (u, v, e, m, n) =
    let w = and_true (confined p) (confined q) t in
    subst (λ (z : List ℕ). T (lows z)) (sym e) (lows_append u v (confined_lows p w.0 u m) (confined_lows q w.1 v n))
confined_lows (alt p q) t x m =
    let w = and_true (confined p) (confined q) t in
    ⊎_elim (λ k. confined_lows p w.0 x k) (λ k. confined_lows q w.1 x k) m
confined_lows (star p) t x m = star_lows p (λ y k. confined_lows p t y k) x m

-- ---- UCHAR and ECHAR

-- One character, and what follows it.
abbrev pub char : ℕ → Re
char c = set true ((c – c) ∷ [])

pub char_is : (p : ℕ) (x : List ℕ) → Matches (char p) x → x ≡ p ∷ []
char_is p x (c, e, t) =
    let a = and_true (leb p c) (leb c p) (⊎_elim (λ k. k) (λ k. absurd k) (or_cases (leb p c && leb c p) false t)) in
    let l = leb→le p c a.0 in
    let m = leb→le c p a.1 in
    let q : c ≡ p = omega arith in
    e ∙ ap (λ (d : ℕ). d ∷ []) q

pub char_then : (p : ℕ) (r : Re) (x : List ℕ) → Matches (seq (char p) r) x → (y : List ℕ) × (x ≡ p ∷ y) × Matches r y
char_then p r x (u, v, e, m, n) = (v, e ∙ ap (λ (z : List ℕ). z ++ v) (char_is p u m), n)

-- [171s] HEX, and n + 1 of them
abbrev hex : Re
hex = set true ((48 – 57) ∷ (65 – 70) ∷ (97 – 102) ∷ [])

abbrev hexes : ℕ → Re
hexes zero = hex
hexes (suc n) = seq hex (hexes n)

hexes_count : (n : ℕ) (x : List ℕ) → Matches (hexes n) x → length x ≡ suc n
hexes_count zero x (c, e, t) = ap length e
hexes_count (suc n) x (u, v, e, (c, f, t), m) =
    let a = ap length e in
    let b = ap length f in
    omega (arith, length-append u v, hexes_count n v m)

hexes_low : (n : ℕ) → T (confined (hexes n))
hexes_low zero = tt
hexes_low (suc n) = hexes_low n

-- [27] UCHAR
abbrev pub uchar : Re
uchar = alt (seq (char 92) (seq (char 117) (hexes 3))) (seq (char 92) (seq (char 85) (hexes 7)))

steps_uchar : Steps uchar
steps_uchar =
    steps_alt
    (record {
      on =
          λ x y m h.
          let (u, e, n) = char_then 92 (seq (char 117) (hexes 3)) x m in
          let (v, f, k) = char_then 117 (hexes 3) u n in
          short v y (hexes_count 3 v k) (confined_lows (hexes 3) (hexes_low 3) v k) h (ap (λ (z : List ℕ). z ++ y) (e ∙ ap (λ (z : List ℕ). 92 ∷ z) f));
    })
    (record {
      on =
          λ x y m h.
          let (u, e, n) = char_then 92 (seq (char 85) (hexes 7)) x m in
          let (v, f, k) = char_then 85 (hexes 7) u n in
          long v y (hexes_count 7 v k) (confined_lows (hexes 7) (hexes_low 7) v k) h (ap (λ (z : List ℕ). z ++ y) (e ∙ ap (λ (z : List ℕ). 92 ∷ z) f));
    })

-- [159s] ECHAR
abbrev pub singles : List ℕ → List Range
singles [] = []
singles (c ∷ cs) = (c – c) ∷ singles cs

abbrev pub echar : Re
echar = seq (char 92) (set true (singles (ascii "tbnrf\"'\\")))

steps_echar : Steps echar
steps_echar =
    let rs = singles (ascii "tbnrf\"'\\") in
    record {
      on =
          λ x y m h.
          let (u, e, (c, f, k)) = char_then 92 (set true rs) x m in
          let no : (d : ℕ) → in_ranges d rs ≡ false → eqb c d ≡ false = λ d g. by (eqb c d) (λ q. absurd (subst T (ap (λ (z : ℕ). in_ranges z rs) (eqb-true c d q) ∙ g) k)) (λ q. q) in
          subst Escaped (sym (ap (λ (z : List ℕ). z ++ y) (e ∙ ap (λ (z : List ℕ). 92 ∷ z) f))) (coded c (range_low c rs tt k) (no 117 refl) (no 85 refl) h);
    }

-- ---- What stands between the marks of [19] IRIREF, [23] and [24] strings, [25] and [26] long strings

abbrev pub in_reference : Re
in_reference = alt (set false ((0x00 – 0x20) ∷ singles (ascii "<>\"{}|^`\\"))) uchar

pub steps_reference : Steps in_reference
steps_reference = steps_alt (steps_set false ((0x00 – 0x20) ∷ singles (ascii "<>\"{}|^`\\")) refl) steps_uchar

-- A character but these, or an escape.
abbrev but : List Range → Re
but rs = alt (set false rs) (alt echar uchar)

steps_but : (rs : List Range) → in_set 92 false rs ≡ false → Steps (but rs)
steps_but rs e = steps_alt (steps_set false rs e) (steps_alt steps_echar steps_uchar)

abbrev pub in_string : ℕ → Re
in_string q = but ((q – q) ∷ singles (ascii "\\\n\r"))

pub steps_string : (q : ℕ) → in_set 92 false ((q – q) ∷ singles (ascii "\\\n\r")) ≡ false → Steps (in_string q)
steps_string q e = steps_but ((q – q) ∷ singles (ascii "\\\n\r")) e

abbrev pub in_long : ℕ → Re
in_long q = seq (alt eps (alt (char q) (seq (char q) (char q)))) (but ((q – q) ∷ singles (ascii "\\")))

pub steps_long : (q : ℕ) → in_set 92 true ((q – q) ∷ []) ≡ false → in_set 92 false ((q – q) ∷ singles (ascii "\\")) ≡ false → Steps (in_long q)
steps_long q e f =
    let c : Steps (char q) = steps_set true ((q – q) ∷ []) e in
    steps_seq (steps_alt steps_eps (steps_alt c (steps_seq c c))) (steps_but ((q – q) ∷ singles (ascii "\\")) f)
