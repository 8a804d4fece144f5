-- Laws of the parts of an escaped text.
use Prim.Native.Nat.{ℕ, zero, suc, ◌+◌, ◌*◌, ◌-◌, ◌%◌, ◌≤◌, ◌<◌}
use mathlib.Core.Path.{◌≡◌, refl, ap, sym, ◌∙◌}
use mathlib.Core.List.{[], ◌∷◌, ◌++◌, append-nil, append_assoc}
use mathlib.Core.Bool.{Bool, true, false, ◌&&◌}
use native.Mathlib.Omega.{arith}
use lib.ListN.{length, get_or, take, drop, length-append, length-drop, length-take}
use lib.Seq.{length-take-le, take_all, drop-cons, drop-drop}
use lib.Dec.{eqb, ltb, leb}
use borrow.Author.Tests.{ne_eqb, eq-eqb, ltb-true, le-ltb, lt-leb}
use denote.Bor.{Bor}
use Rattle.text.specs.Text.{Text, is, same_text, begins, some_byte}
use Rattle.text.specs.Slice.{over, over_at}
use Rattle.text.specs.Runs.{byte, next_at}
use Rattle.text.proofs.Runs.{next_split, next_free, next_more}
use Rattle.text.proofs.Compare.{by, begins_length, begins_more, same_append, same_end}
use Rattle.text.proofs.Over.{over_append, over_length}
use Rattle.utf8.specs.Utf8.{encode, width}
use Rattle.escape.specs.Escape.{outside, behind, digits, plain, numeric, letter, hex_value, letter_value, pieces_from, pieces, unescape_piece, unescape_pieces, unescape, bad_pieces, bad_escape, no_character, unreserve}
use Rattle.escape.specs.Escape as escape
use Rattle.std.specs.Prelude.{Option, Some, None}
use Rattle.escape.specs.Code.{undone, four, encoded, bad, shown, size, number, low, Yields, Ends, Walks, Numbered, Written}
use Rattle.escape.specs.declared.Stretches.{Stretches}
use Rattle.escape.specs.declared.Escapes.{Escapes}
use Rattle.escape.specs.declared.Escapes.TheVariants.{Quoted, Local}
use Rattle.escape.specs.declared.Character.{Character}
use Rattle.escape.specs.declared.Stretch.{Stretch}
use Rattle.escape.specs.declared.Stretch.TheVariants.{Run, One}
use Rattle.escape.proofs.Bytes.{or_left, or_right, bytes_of, low_bytes, unescape_bytes, unreserve_bytes}
use Rattle.escape.proofs.Steps.{at_backslash, at_plain, at_short, at_long, at_letter, at_digits, too_few}

-- A text is never longer than it was with its escapes: so many bytes are owed inside of one.
owed : escape.Scan → ℕ
owed outside = 0
owed behind = 1
owed (digits n v) = 3 - n

encode_small : (v : ℕ) → length (encode v) ≤ 4
encode_small v = by (ltb v 0x80) (λ e. rw e (omega arith)) (λ e. by (ltb v 0x800) (λ f. rw (e, f) (omega arith)) (λ f. by (ltb v 0x10000) (λ g. rw (e, f, g) (omega arith)) (λ g. rw (e, f, g) (omega arith))))

pieces_short : (p : escape.Scan) (cs : Text) → length (unescape_pieces (pieces_from p cs)) ≤ length cs + owed p
unfolding pieces_from unescape_pieces unescape_piece owed
pieces_short outside [] = omega arith
pieces_short behind [] = omega arith
pieces_short (digits n v) [] = omega arith
pieces_short outside (c ∷ cs) = by (eqb c 92) (λ e. rw (at_backslash c cs e) (omega (arith, pieces_short behind cs))) (λ e. rw (at_plain c cs e) (omega (arith, pieces_short outside cs)))
pieces_short behind (c ∷ cs) =
    by (eqb c 117) (λ e. rw (at_short c cs e) (omega (arith, pieces_short (digits 3 0) cs)))
    (λ e. by (eqb c 85) (λ f. rw (at_long c cs e f) (omega (arith, pieces_short (digits 7 0) cs))) (λ f. rw (at_letter c cs e f) (omega (arith, pieces_short outside cs))))
pieces_short (digits zero v) (c ∷ cs) = rw length-append (omega (arith, pieces_short outside cs, encode_small (v * 16 + hex_value c)))
pieces_short (digits (suc n) v) (c ∷ cs) = omega (arith, pieces_short (digits n (v * 16 + hex_value c)) cs)

pub unescape_short : (s : Text) → length (unescape s) ≤ length s
unfolding unescape pieces owed
unescape_short s = omega (arith, pieces_short outside s)

pub unreserve_short : (s : Text) → length (unreserve s) ≤ length s
unfolding unreserve
unreserve_short [] = omega arith
unreserve_short (c ∷ s) = by (eqb c 92) (λ e. rw e (omega (arith, unreserve_short s))) (λ e. rw e (omega (arith, unreserve_short s)))

-- A text without a backslash stands for itself.
plain_pieces : (cs : Text) → some_byte (is "\\") cs ≡ false → (unescape_pieces (pieces_from outside cs) ≡ cs) × (bad_pieces (pieces_from outside cs) ≡ false)
unfolding pieces_from unescape_pieces unescape_piece bad_pieces some_byte
plain_pieces [] e = (refl, refl)
plain_pieces (c ∷ cs) e =
    let here : eqb c 92 ≡ false = or_left (eqb c 92) (some_byte (is "\\") cs) e in
    let rest = plain_pieces cs (or_right (eqb c 92) (some_byte (is "\\") cs) e) in
    (rw (at_plain c cs here) (ap (λ (l : Text). c ∷ l) rest.0), rw (at_plain c cs here) rest.1)

pub plain_text : (cs : Text) → some_byte (is "\\") cs ≡ false → unescape cs ≡ cs
unfolding unescape pieces
plain_text cs e = (plain_pieces cs e).0

pub plain_good : (cs : Text) → some_byte (is "\\") cs ≡ false → false ≡ bad_escape cs
unfolding bad_escape pieces
plain_good cs e = sym (plain_pieces cs e).1

pub plain_name : (cs : Text) → some_byte (is "\\") cs ≡ false → unreserve cs ≡ cs
unfolding unreserve some_byte
plain_name [] e = refl
plain_name (c ∷ cs) e =
    rw (or_left (eqb c 92) (some_byte (is "\\") cs) e) (ap (λ (l : Text). c ∷ l) (plain_name cs (or_right (eqb c 92) (some_byte (is "\\") cs) e)))

pub undone_short : (k : Escapes) (s : Text) → length (undone k s) ≤ length s
unfolding undone
undone_short Quoted s = unescape_short s
undone_short Local s = unreserve_short s

pub plain_undone : (k : Escapes) (s : Text) → some_byte (is "\\") s ≡ false → undone k s ≡ s
unfolding undone
plain_undone Quoted s e = plain_text s e
plain_undone Local s e = plain_name s e

-- Bytes without a backslash, where no escape has begun.
run_pieces : (a t : Text) → some_byte (is "\\") a ≡ false
    → (unescape_pieces (pieces_from outside (a ++ t)) ≡ a ++ unescape_pieces (pieces_from outside t)) × (bad_pieces (pieces_from outside (a ++ t)) ≡ bad_pieces (pieces_from outside t))
unfolding unescape_pieces unescape_piece bad_pieces some_byte
run_pieces [] t e = (refl, refl)
run_pieces (c ∷ a) t e =
    let here : eqb c 92 ≡ false = or_left (eqb c 92) (some_byte (is "\\") a) e in
    let rest = run_pieces a t (or_right (eqb c 92) (some_byte (is "\\") a) e) in
    (rw (at_plain c (a ++ t) here) (ap (λ (l : Text). c ∷ l) rest.0), rw (at_plain c (a ++ t) here) rest.1)

run_name : (a t : Text) → some_byte (is "\\") a ≡ false → unreserve (a ++ t) ≡ a ++ unreserve t
unfolding unreserve some_byte
run_name [] t e = refl
run_name (c ∷ a) t e =
    rw (or_left (eqb c 92) (some_byte (is "\\") a) e) (ap (λ (l : Text). c ∷ l) (run_name a t (or_right (eqb c 92) (some_byte (is "\\") a) e)))

-- A run of bytes up to the next backslash.
run_undone : (k : Escapes) (a t : Text) → some_byte (is "\\") a ≡ false → undone k (a ++ t) ≡ a ++ undone k t
unfolding undone unescape pieces
run_undone Quoted a t e = (run_pieces a t e).0
run_undone Local a t e = run_name a t e

run_good : (a t : Text) → some_byte (is "\\") a ≡ false → bad_escape (a ++ t) ≡ bad_escape t
unfolding bad_escape pieces
run_good a t e = (run_pieces a t e).1

pub run_yields : (k : Escapes) (s t : Text) (n : ℕ) (r : Bor Text) → n ≡ next_at (byte 92) s 0 → 0 < n → n ≤ length s → r.now ≡ take n s → t ≡ drop n s → Yields k s t (Run r)
run_yields k s t n r e some fits er et =
    let z : n - 0 ≡ n = omega arith in
    let split : s ≡ r.now ++ t = rw (er, et) (rw z at (next_split (byte 92) s 0 n e)) in
    let free : some_byte (is "\\") r.now ≡ false = rw er (rw z at (next_free (byte 92) s 0 n e)) in
    record {
      text = ap (undone k) split ∙ run_undone k r.now t free;
      named = λ q. ap bad_escape split ∙ run_good r.now t free;
      long = refl;
      some = λ q. rw (er, length-take-le n s fits) some;
      less = rw (et, length-drop n s) (omega arith);
    }

-- A numeric escape's character.
abbrev numbered : ℕ → Character
numbered v = record { value = v; width = width v }

number_shown : (v : ℕ) → encoded (numbered v) ≡ encode v
unfolding encoded four
number_shown v =
    by (ltb v 0x80) (λ e. rw e) (λ e. by (ltb v 0x800) (λ f. rw (e, f)) (λ f. by (ltb v 0x10000) (λ g. rw (e, f, g)) (λ g. rw (e, f, g))))

encode_long : (v : ℕ) → length (encode v) ≡ width v
encode_long v =
    by (ltb v 0x80) (λ e. rw e) (λ e. by (ltb v 0x800) (λ f. rw (e, f)) (λ f. by (ltb v 0x10000) (λ g. rw (e, f, g)) (λ g. rw (e, f, g))))

width_some : (v : ℕ) → 0 < width v
width_some v = by (ltb v 0x80) (λ e. rw e (omega arith)) (λ e. by (ltb v 0x800) (λ f. rw (e, f) (omega arith)) (λ f. by (ltb v 0x10000) (λ g. rw (e, f, g) (omega arith)) (λ g. rw (e, f, g) (omega arith))))

number_bad : (v : ℕ) → no_character v ≡ bad (numbered v)
unfolding bad no_character
number_bad v =
    by (ltb v 0x80) (λ e. rw (e, low v (omega (arith, ltb-true v 0x80 e)), le-ltb 0x10FFFF v (omega (arith, ltb-true v 0x80 e))))
    (λ e. by (ltb v 0x800) (λ f. rw (e, f, low v (omega (arith, ltb-true v 0x800 f)), le-ltb 0x10FFFF v (omega (arith, ltb-true v 0x800 f))))
    (λ f. by (ltb v 0x10000) (λ g. rw (e, f, g)) (λ g. rw (e, f, g))))
  where
    low : (v : ℕ) → v < 0xD800 → leb 0xD800 v ≡ false
    low v h = lt-leb 0xD800 v h

-- A backslash of a local name goes.
pub reserved_yields : (s t : Text) (n : ℕ) (r : Bor Text) → 0 < length s → get_or s 0 0 ≡ 92 → n ≡ next_at (byte 92) s 1 → 1 ≤ n → n ≤ length s → r.now ≡ take (n - 1) (drop 1 s) → t ≡ drop n s → Yields Local s t (Run r)
unfolding undone unreserve
reserved_yields s t n r some mark e after fits er et =
    let front : s ≡ 92 ∷ drop 1 s = drop-cons s 0 0 some ∙ rw mark in
    let split : drop 1 s ≡ r.now ++ t = rw (er, et) (next_split (byte 92) s 1 n e) in
    let free : some_byte (is "\\") r.now ≡ false = rw er (next_free (byte 92) s 1 n e) in
    record {
      text = ap unreserve front ∙ (ap unreserve split ∙ run_name r.now t free);
      named = λ q. absurd (let x : ◌≡◌ {A = ℕ} 0 1 = cc in omega arith);
      long = refl;
      some = λ q. absurd (let x : ◌≡◌ {A = ℕ} 0 1 = cc in omega arith);
      less = rw (et, length-drop n s) (omega arith);
    }

-- A backslash and a letter.
module _ (s : Text) (c : ℕ) (some : 1 < length s) (mark : get_or s 0 0 ≡ 92) (is_c : c ≡ get_or s 1 0) where
  pair : s ≡ 92 ∷ c ∷ drop 2 s
  pair = drop-cons s 0 0 (omega arith) ∙ rw (mark, drop-cons s 1 0 some, ← is_c)

  left_behind : pieces_from outside s ≡ pieces_from behind (c ∷ drop 2 s)
  left_behind = ap (pieces_from outside) pair ∙ at_backslash 92 (c ∷ drop 2 s) refl

  pub letter_yields : (c ≡ 117 → ⊥) → (c ≡ 85 → ⊥) → (v : ℕ) → v ≡ letter_value c → Yields Quoted s (drop 2 s) (One (record { value = v; width = 1 }))
  unfolding undone unescape pieces bad_escape unescape_pieces unescape_piece bad_pieces encoded four bad
  letter_yields n m v ev =
      let piece : pieces_from outside s ≡ letter c ∷ pieces_from outside (drop 2 s) = left_behind ∙ at_letter c (drop 2 s) (ne_eqb c 117 n) (ne_eqb c 85 m) in
      record {
        text = rw ev (ap unescape_pieces piece);
        named = λ q. ap bad_pieces piece;
        long = refl;
        some = λ q. omega arith;
        less = rw (length-drop 2 s) (omega arith);
      }

  -- A numeric escape: how many digits more than one it has.
  module _ (d : ℕ) (kind : pieces_from behind (c ∷ drop 2 s) ≡ pieces_from (digits d 0) (drop 2 s)) where
    pub number_ends : length s < 2 + suc d → Ends Quoted s
    unfolding undone unescape pieces bad_escape unescape_pieces bad_pieces
    number_ends h =
        let none : pieces_from outside s ≡ [] = left_behind ∙ (kind ∙ too_few d 0 (drop 2 s) (omega (arith, length-drop 2 s))) in
        record { text = ap unescape_pieces none; named = λ q. ap bad_pieces none }

    pub number_yields : 2 + suc d ≤ length s → Yields Quoted s (drop (2 + suc d) s) (One (record { value = number 0 (take (suc d) (drop 2 s)); width = width (number 0 (take (suc d) (drop 2 s))) }))
    unfolding undone unescape pieces bad_escape unescape_pieces unescape_piece bad_pieces
    number_yields h =
        let v : ℕ = number 0 (take (suc d) (drop 2 s)) in
        let back : drop (suc d) (drop 2 s) ≡ drop (2 + suc d) s = drop-drop (suc d) 2 s in
        let piece : pieces_from outside s ≡ numeric v ∷ pieces_from outside (drop (2 + suc d) s) = left_behind ∙ (kind ∙ (at_digits d 0 (drop 2 s) (omega (arith, length-drop 2 s)) ∙ rw back)) in
        record {
          text = ap unescape_pieces piece ∙ rw (number_shown v);
          named = λ q. ap bad_pieces piece ∙ rw (number_bad v);
          long = rw (number_shown v) (encode_long v);
          some = λ q. width_some v;
          less = rw (length-drop (2 + suc d) s) (omega arith);
        }

    pub number_walks : (x y : Stretches) → x.rest.now ≡ s → x.escapes ≡ Quoted → (o : Option Stretch) → Numbered x y 2 (suc d) o → Walks x y o
    number_walks x y er ek None h = rw (er, ek) (number_ends (rw er at h))
    number_walks x y er ek (Some p) h = (
      rw (er, ek, h.1.1.0, h.1.0) (rw er (number_yields (rw er at h.0))),
      h.1.1.1,
    )

  pub short_yields : c ≡ 117 → pieces_from behind (c ∷ drop 2 s) ≡ pieces_from (digits 3 0) (drop 2 s)
  short_yields e = at_short c (drop 2 s) (eq-eqb c 117 e)

  pub long_yields : c ≡ 85 → pieces_from behind (c ∷ drop 2 s) ≡ pieces_from (digits 7 0) (drop 2 s)
  long_yields e = at_long c (drop 2 s) (ne_eqb c 117 (λ q. omega arith)) (eq-eqb c 85 e)

-- A run that has begun.
pub run_begun : (s : Text) (n : ℕ) → 0 < length s → (get_or s 0 0 ≡ 92 → ⊥) → n ≡ next_at (byte 92) s 1 → n ≡ next_at (byte 92) s 0
run_begun s n h e q = q ∙ sym (next_more (byte 92) s 0 h (ne_eqb (get_or s 0 0) 92 e))

-- Nothing is left.
pub nothing_ends : (k : Escapes) (s : Text) → length s ≡ 0 → Ends k s
unfolding undone unescape pieces pieces_from unescape_pieces bad_escape bad_pieces unreserve
nothing_ends Quoted [] e = record { text = refl; named = λ q. refl }
nothing_ends Local [] e = record { text = refl; named = λ q. refl }
nothing_ends k (c ∷ s) e = absurd (omega arith)

-- A backslash alone.
pub alone_ends : (s : Text) → length s ≡ 1 → get_or s 0 0 ≡ 92 → Ends Quoted s
unfolding undone unescape pieces pieces_from unescape_pieces bad_escape bad_pieces
alone_ends [] e m = absurd (omega arith)
alone_ends (c ∷ []) e m = let none : pieces_from outside (c ∷ []) ≡ [] = at_backslash c [] (eq-eqb c 92 m) in record { text = ap unescape_pieces none; named = λ q. ap bad_pieces none }
alone_ends (c ∷ d ∷ s) e m = absurd (omega arith)

-- Writing piece by piece.
low_append : (s t : Text) → low (s ++ t) ≡ low s ++ low t
unfolding low
low_append [] t = refl
low_append (b ∷ s) t = ap (λ (l : Text). b % 256 ∷ l) (low_append s t)

pub low_length : (s : Text) → length (low s) ≡ length s
unfolding low
low_length [] = refl
low_length (b ∷ s) = ap suc (low_length s)

pub low_at : (s : Text) (i : ℕ) → get_or (low s) i 0 ≡ get_or s i 0 % 256
unfolding low
low_at [] i = refl
low_at (b ∷ s) zero = refl
low_at (b ∷ s) (suc i) = low_at s i

-- So many bytes of the whole text w are written; the rest is to come.
pub record Halfway (w rest x y : Text) (j : ℕ) : Type 0 where
  pub front : Text
  pub whole : w ≡ front ++ rest
  pub place : j ≡ length front
  pub out : y ≡ over (low front) x

pub halfway_start : (w x : Text) → Halfway w w x x 0
unfolding over low
halfway_start w x = record { front = []; whole = refl; place = refl; out = refl }

pub halfway_more : (w rest p next x y z : Text) (j k : ℕ) → Halfway w rest x y j → rest ≡ p ++ next → length p ≡ k → z ≡ over_at j (low p) y → Halfway w next x z (j + k)
halfway_more w rest p next x y z j k h e l o = record {
  front = h.front ++ p;
  whole = h.whole ∙ (ap (λ (t : Text). h.front ++ t) e ∙ sym (append_assoc h.front p next));
  place = sym (length-append h.front p ∙ omega (arith, h.place));
  out =
      o
      ∙ (rw (h.out, h.place, ← low_length h.front) (sym (over_append (low h.front) (low p) x))
      ∙ ap (λ (t : Text). over t x) (sym (low_append h.front p)));
}

pub halfway_fits : (w rest x y : Text) (j : ℕ) → Halfway w rest x y j → j + length rest ≡ length w
halfway_fits w rest x y j h = sym (ap length h.whole ∙ (length-append h.front rest ∙ omega (arith, h.place)))

pub halfway_size : (w rest x y : Text) (j : ℕ) → Halfway w rest x y j → length y ≡ length x
halfway_size w rest x y j h = ap length h.out ∙ over_length (low h.front) x

pub halfway_done : (w rest x y : Text) (j : ℕ) → Halfway w rest x y j → rest ≡ [] → (j ≡ length w) × (y ≡ over (low w) x)
halfway_done w rest x y j h e =
    let same : w ≡ h.front = h.whole ∙ rw (e, append-nil) in
    (h.place ∙ ap length (sym same), h.out ∙ ap (λ (t : Text). over (low t) x) (sym same))

pub on_more : (b t : Text) (i j : ℕ) → i < length b → j + i < length t → get_or t (j + i) 0 ≡ get_or b i 0 → begins (drop i b) (drop (j + i) t) ≡ begins (drop (i + 1) b) (drop (j + (i + 1)) t)
on_more b t i j h g e = let k : j + (i + 1) ≡ j + i + 1 = omega arith in rw k (begins_more b t i (j + i) h g e)

-- What a walk learns of a part.
module _ (k : Escapes) (s t : Text) (p : Stretch) (y : Yields k s t p) where
  pub length_more : length (undone k s) ≡ size p + length (undone k t)
  length_more = ap length y.text ∙ (length-append (shown p) (undone k t) ∙ ap (λ (n : ℕ). n + length (undone k t)) y.long)

  module _ (x : Text) (j : ℕ) (r : Bool) (er : r ≡ begins (shown p) (drop j x)) where
    compared : same_text (undone k s) (drop j x) ≡ (r && same_text (undone k t) (drop (j + size p) x))
    compared = ap (λ (l : Text). same_text l (drop j x)) y.text ∙ (same_append (shown p) (undone k t) (drop j x) ∙ rw (y.long, drop-drop (size p) j x, er))

    pub same_more : r ≡ true → same_text (undone k s) (drop j x) ≡ same_text (undone k t) (drop (j + size p) x)
    same_more g = compared ∙ rw g

    pub same_not : r ≡ false → same_text (undone k s) (drop j x) ≡ false
    same_not g = compared ∙ rw g

    pub same_fits : j ≤ length x → r ≡ true → j + size p ≤ length x
    same_fits h g = omega (arith, begins_length (shown p) (drop j x) (sym er ∙ g), y.long, length-drop j x)

  pub written_more : (w x z u : Text) (j : ℕ) → Halfway w (undone k s) x z j → u ≡ over_at j (low (shown p)) z → Halfway w (undone k t) x u (j + size p)
  written_more w x z u j h o = halfway_more w (undone k s) (shown p) (undone k t) x z u j (size p) h y.text y.long o

-- A character has at most four bytes.
pub four_fits : {k : Escapes} {s t : Text} {c : Character} {b : Text} → Yields k s t (One c) → b ≡ four c → c.width ≤ length b
unfolding encoded
four_fits {c = c} y e = omega (arith, y.long, length-take c.width (four c), ap length e)

pub shown_is : (c : Character) (b : Text) → b ≡ four c → take c.width b ≡ shown (One c)
unfolding encoded
shown_is c b e = rw e

pub same_done : (k : Escapes) (s x : Text) (j : ℕ) → undone k s ≡ [] → j ≤ length x → same_text (undone k s) (drop j x) ≡ eqb j (length x)
same_done k s x j e g = ap (λ (l : Text). same_text l (drop j x)) e ∙ same_end x j g

-- What writing leaves.
low_undone : (k : Escapes) (s : Text) → ((i : ℕ) → get_or s i 0 < 256) → (k ≡ Quoted → bad_escape s ≡ false) → low (undone k s) ≡ undone k s
unfolding undone
low_undone Quoted s small g = low_bytes (unescape_bytes (bytes_of s small) (g refl))
low_undone Local s small g = low_bytes (unreserve_bytes (bytes_of s small))

pub wrote : (k : Escapes) (s x y : Text) (r : ℕ) → ((i : ℕ) → get_or s i 0 < 256) → (r ≡ length (undone k s)) × (y ≡ over (low (undone k s)) x)
    → Written (k ≡ Quoted → bad_escape s ≡ false) (undone k s) x y r
wrote k s x y r small h = record {
  long = h.0;
  size = ap length h.1 ∙ over_length (low (undone k s)) x;
  text = λ g. h.1 ∙ ap (λ (t : Text). over t x) (low_undone k s small g);
}

pub wrote_plain : (k : Escapes) (s x y : Text) → some_byte (is "\\") s ≡ false → y ≡ over s x → Written (k ≡ Quoted → bad_escape s ≡ false) (undone k s) x y (length s)
wrote_plain k s x y h e = rw (plain_undone k s h) (record { long = refl; size = ap length e ∙ over_length s x; text = λ g. e })

-- A slice from j on goes to the end.
pub to_end : (x : Text) (j : ℕ) → take (length x - j) (drop j x) ≡ drop j x
to_end x j = take_all (length x - j) (drop j x) (omega (arith, length-drop j x))
