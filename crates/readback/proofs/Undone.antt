-- Printed escapes: undone they give the text again, and they name characters. One law for the two rules, of IRIs and of strings.
use mathlib.Core.Path.{◌≡◌, refl, sym, ap, ap₂, ◌∙◌}
use mathlib.Core.Logic.{◌⊎◌, inl, inr, ⊎_elim}
use mathlib.Core.Bool.{Bool, true, false, ◌&&◌, ◌||◌}
use mathlib.Core.List.{List, [], ◌∷◌, ◌++◌, append_assoc, append-nil}
use Prim.Native.Nat.{ℕ, ◌+◌, ◌*◌, ◌/◌, ◌%◌, ◌≤◌, ◌<◌}
use native.Mathlib.Omega.{arith}
use borrow.Author.Tests.{eqb-true, ne_eqb, lt-ltb, lt-leb, le-ltb}
use lib.Dec.{T, eqb, ltb, eqb→eq, ltb→lt}
use Rattle.text.specs.Text.{Text, ascii, cond, member}
use Rattle.text.proofs.Compare.{contrary}
use Rattle.utf8.specs.Utf8.{encode, encodes}
use Rattle.utf8.specs.Scalar.{Scalars, Highs}
use Rattle.utf8.proofs.Tests.{by, split, below, below_at, and_true}
use Rattle.utf8.proofs.Encoding.{highs_encode}
use Rattle.utf8.proofs.Decoding.{encodes_append}
use Rattle.escape.specs.Escape.{Piece, plain, numeric, letter, outside, behind, digits, hex_value, pieces_from, pieces, letter_value, unescape_piece, unescape_pieces, unescape, no_character, bad_pieces, bad_escape}
use Rattle.iri.specs.Iri.{forbidden}
use Rattle.table.specs.LongForm.{hex_digit, iri_byte, string_byte, escaped}

-- ---- ASCII

abbrev pub lows : List ℕ → Bool
lows [] = true
lows (c ∷ cs) = ltb c 128 && lows cs

-- Code points below 128 are their own bytes.
pub ascii_encode : (c : ℕ) → c < 128 → encode c ≡ c ∷ []
ascii_encode c h = simp (lt-ltb c 128 h)

pub lows_encodes : (cs : List ℕ) → T (lows cs) → encodes cs ≡ cs
unfolding encodes
lows_encodes [] t = refl
lows_encodes (c ∷ cs) t =
    let v = and_true (ltb c 128) (lows cs) t in
    ap₂ (λ (x y : List ℕ). x ++ y) (ascii_encode c (ltb→lt c 128 v.0)) (lows_encodes cs v.1)

pub lows_scalars : (cs : List ℕ) → T (lows cs) → Scalars cs
lows_scalars [] t = tt
lows_scalars (c ∷ cs) t =
    let v = and_true (ltb c 128) (lows cs) t in
    let l = ltb→lt c 128 v.0 in
    ((omega arith, inl (omega arith)), lows_scalars cs v.1)

pub scalars_append : (cs ds : List ℕ) → Scalars cs → Scalars ds → Scalars (cs ++ ds)
scalars_append [] ds s t = t
scalars_append (c ∷ cs) ds s t = (s.0, scalars_append cs ds s.1 t)

-- A number from 128 on is none of these.
high_no : (c k : ℕ) → 128 ≤ c → k < 128 → eqb c k ≡ false
high_no c k h l = ne_eqb c k (λ e. absurd (omega arith))

high_none : (c : ℕ) (cs : List ℕ) → 128 ≤ c → T (lows cs) → member c cs ≡ false
high_none c [] h t = refl
high_none c (d ∷ cs) h t =
    let v = and_true (ltb d 128) (lows cs) t in
    ap₂ ◌||◌ (high_no c d h (ltb→lt d 128 v.0)) (high_none c cs h v.1)

-- ---- Rules

-- What is printed for a byte c is read as one piece, which stands for c and names a character.
pub record Undone (f : ℕ → Text) (c : ℕ) : Type 0 where
  pub piece : Piece
  pub reads : (s : Text) → pieces_from outside (f c ++ s) ≡ piece ∷ pieces_from outside s
  pub text : unescape_piece piece ≡ c ∷ []
  pub good : (us : List Piece) → bad_pieces (piece ∷ us) ≡ bad_pieces us

-- A rule by which bytes are printed: those from 128 on as they are.
pub record Rule (f : ℕ → Text) : Type 0 where
  pub low : T (below (λ c. lows (f c)) 128)
  pub high : (c : ℕ) → 128 ≤ c → f c ≡ c ∷ []
  pub undone : (c : ℕ) → Undone f c

-- ---- The two rules

plain_undone : (f : ℕ → Text) (c : ℕ) → f c ≡ c ∷ [] → eqb c 92 ≡ false → Undone f c
unfolding pieces_from unescape_piece bad_pieces
plain_undone f c e n = record { piece = plain c; reads = λ s. ap (λ (x : Text). pieces_from outside (x ++ s)) e ∙ go (eqb c 92) n s; text = refl; good = λ us. refl }
  where
    go : (b : Bool) → b ≡ false → (s : Text)
        → elim b [ true ↦ pieces_from behind s | false ↦ plain c ∷ pieces_from outside s ] ≡ plain c ∷ pieces_from outside s
    go true e s = contrary e
    go false e s = refl

letter_undone : (f : ℕ → Text) (c d : ℕ) → f c ≡ 92 ∷ d ∷ [] → eqb d 117 ≡ false → eqb d 85 ≡ false → letter_value d ≡ c → Undone f c
unfolding pieces_from unescape_piece bad_pieces
letter_undone f c d e n m v = record {
  piece = letter d;
  reads = λ s. ap (λ (x : Text). pieces_from outside (x ++ s)) e ∙ go (eqb d 117) n (eqb d 85) m s;
  text = ap (λ (x : ℕ). x ∷ []) v;
  good = λ us. refl;
}
  where
    go : (a : Bool) → a ≡ false → (b : Bool) → b ≡ false → (s : Text)
        → elim a [
          | true ↦ pieces_from (digits 3 0) s
          | false ↦ elim b [ true ↦ pieces_from (digits 7 0) s | false ↦ letter d ∷ pieces_from outside s ]
        ] ≡ letter d ∷ pieces_from outside s
    go true e b f s = contrary e
    go false e true f s = contrary f
    go false e false f s = refl

string_high : (c : ℕ) → 128 ≤ c → string_byte c ≡ c ∷ []
unfolding string_byte
string_high c h = simp (high_no c 34 h (omega arith), high_no c 92 h (omega arith), high_no c 10 h (omega arith), high_no c 13 h (omega arith))

string_undone : (c : ℕ) → Undone string_byte c
unfolding string_byte letter_value
string_undone c =
    by (eqb c 34)
    (λ e. letter_undone string_byte c 34 (simp e) refl refl (sym (eqb-true c 34 e)))
    (λ e.
    by (eqb c 92)
    (λ f. letter_undone string_byte c 92 (simp (e, f)) refl refl (sym (eqb-true c 92 f)))
    (λ f.
    by (eqb c 10)
    (λ g. letter_undone string_byte c 110 (simp (e, f, g)) refl refl (sym (eqb-true c 10 g)))
    (λ g.
    by (eqb c 13)
    (λ h. letter_undone string_byte c 114 (simp (e, f, g, h)) refl refl (sym (eqb-true c 13 h)))
    (λ h. plain_undone string_byte c (simp (e, f, g, h)) f))))

pub string_rule : Rule string_byte
unfolding string_byte
string_rule = record { low = tt; high = string_high; undone = string_undone }

iri_high : (c : ℕ) → 128 ≤ c → forbidden c ≡ false
iri_high c h = ap₂ ◌||◌ (lt-leb c 32 (omega arith)) (high_none c (ascii "<>\"{}|^`\\") h tt)

-- The number that the hex digits of a character below 128 name.
abbrev hex_named : ℕ → ℕ
hex_named c = (((0 * 16 + hex_value 48) * 16 + hex_value 48) * 16 + hex_value (hex_digit (c / 16))) * 16 + hex_value (hex_digit (c % 16))

hex_back : T (below (λ c. eqb (hex_named c) c) 128)
unfolding hex_value
hex_back = tt

iri_undone : (c : ℕ) → Undone iri_byte c
unfolding iri_byte pieces_from unescape_piece bad_pieces no_character
iri_undone c =
    by (forbidden c)
    (λ e. ⊎_elim (λ h. coded e h) (λ h. contrary (sym e ∙ iri_high c h)) (split c 128))
    (λ e. plain_undone iri_byte c (simp e) (allowed e))
  where
    coded : forbidden c ≡ true → c < 128 → Undone iri_byte c
    coded e h =
        let v : hex_named c ≡ c = eqb→eq (hex_named c) c (below_at (λ c. eqb (hex_named c) c) 128 hex_back c h) in
        record {
          piece = numeric (hex_named c);
          reads = λ s. ap (λ (b : Bool). pieces_from outside (cond b (ascii "\\u00" ++ hex_digit (c / 16) ∷ hex_digit (c % 16) ∷ []) (c ∷ []) ++ s)) e;
          text = ap encode v ∙ ascii_encode c h;
          good = λ us. ap (λ (n : ℕ). no_character n || bad_pieces us) v ∙ named us;
        }
      where
        named : (us : List Piece) → (no_character c || bad_pieces us) ≡ bad_pieces us
        named us = simp (lt-leb 0xD800 c (omega arith), le-ltb 0x10FFFF c (omega arith))

    allowed : forbidden c ≡ false → eqb c 92 ≡ false
    allowed e = by (eqb c 92) (λ f. contrary (ap forbidden (sym (eqb-true c 92 f)) ∙ e)) (λ f. f)

pub iri_rule : Rule iri_byte
unfolding iri_byte
iri_rule = record { low = tt; high = λ c h. simp (iri_high c h); undone = iri_undone }

-- ---- What holds under a rule

module _ {f : ℕ → Text} (rule : Rule f) where
  lows_at : (c : ℕ) → c < 128 → T (lows (f c))
  lows_at c h = below_at (λ c. lows (f c)) 128 rule.low c h

  pub escaped_scalars : (cs : List ℕ) → Scalars cs → Scalars (escaped f cs)
  unfolding escaped
  escaped_scalars [] s = tt
  escaped_scalars (c ∷ cs) s = scalars_append (f c) (escaped f cs) (one (split c 128)) (escaped_scalars cs s.1)
    where
      one : (c < 128) ⊎ (128 ≤ c) → Scalars (f c)
      one (inl h) = lows_scalars (f c) (lows_at c h)
      one (inr h) = rw (rule.high c h) (s.0, tt)

  escaped_append : (s t : Text) → escaped f (s ++ t) ≡ escaped f s ++ escaped f t
  unfolding escaped
  escaped_append [] t = refl
  escaped_append (c ∷ s) t = ap (λ (x : Text). f c ++ x) (escaped_append s t) ∙ sym (append_assoc (f c) (escaped f s) (escaped f t))

  escaped_highs : (s : Text) → Highs s → escaped f s ≡ s
  unfolding escaped
  escaped_highs [] h = refl
  escaped_highs (c ∷ s) h = ap₂ (λ (x y : Text). x ++ y) (rule.high c h.0) (escaped_highs s h.1)

  -- Bytes are escaped as code points are.
  pub escaped_encodes : (cs : List ℕ) → encodes (escaped f cs) ≡ escaped f (encodes cs)
  unfolding escaped encodes
  escaped_encodes [] = refl
  escaped_encodes (c ∷ cs) =
      encodes_append (f c) (escaped f cs) ∙ ap₂ (λ (x y : Text). x ++ y) (one (split c 128)) (escaped_encodes cs) ∙ sym (escaped_append (encode c) (encodes cs))
    where
      one : (c < 128) ⊎ (128 ≤ c) → encodes (f c) ≡ escaped f (encode c)
      one (inl h) = lows_encodes (f c) (lows_at c h) ∙ sym (append-nil (f c)) ∙ sym (ap (escaped f) (ascii_encode c h))
      one (inr h) = ap encodes (rule.high c h) ∙ append-nil (encode c) ∙ sym (escaped_highs (encode c) (highs_encode c h))

  pieces_escaped : (s t : Text) → unescape_pieces (pieces_from outside (escaped f s ++ t)) ≡ s ++ unescape_pieces (pieces_from outside t)
  unfolding escaped unescape_pieces
  pieces_escaped [] t = refl
  pieces_escaped (c ∷ s) t =
      let u = rule.undone c in
      ap (λ (x : Text). unescape_pieces (pieces_from outside x)) (append_assoc (f c) (escaped f s) t)
      ∙ ap unescape_pieces (u.reads (escaped f s ++ t))
      ∙ ap₂ (λ (x y : Text). x ++ y) u.text (pieces_escaped s t)

  bad_escaped : (s t : Text) → bad_pieces (pieces_from outside (escaped f s ++ t)) ≡ bad_pieces (pieces_from outside t)
  unfolding escaped
  bad_escaped [] t = refl
  bad_escaped (c ∷ s) t =
      let u = rule.undone c in
      ap (λ (x : Text). bad_pieces (pieces_from outside x)) (append_assoc (f c) (escaped f s) t)
      ∙ ap bad_pieces (u.reads (escaped f s ++ t)) ∙ u.good (pieces_from outside (escaped f s ++ t)) ∙ bad_escaped s t

  pub unescape_escaped : (s : Text) → unescape (escaped f s) ≡ s
  unfolding unescape pieces pieces_from unescape_pieces
  unescape_escaped s = ap (λ (x : Text). unescape_pieces (pieces_from outside x)) (sym (append-nil (escaped f s))) ∙ pieces_escaped s [] ∙ append-nil s

  -- Between marks that are no backslashes.
  pub good_escaped : (a b : ℕ) (s : Text) → eqb a 92 ≡ false → eqb b 92 ≡ false → bad_escape (a ∷ (escaped f s ++ b ∷ [])) ≡ false
  unfolding bad_escape pieces pieces_from bad_pieces
  good_escaped a b s n m = mark a (escaped f s ++ b ∷ []) n ∙ bad_escaped s (b ∷ []) ∙ mark b [] m
    where
      mark : (c : ℕ) (t : Text) → eqb c 92 ≡ false → bad_pieces (pieces_from outside (c ∷ t)) ≡ bad_pieces (pieces_from outside t)
      mark c t e = let u = plain_undone (λ b. b ∷ []) c refl e in ap bad_pieces (u.reads t) ∙ u.good (pieces_from outside t)
