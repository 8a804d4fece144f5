-- The tokens of a document that is UTF-8: their texts are cut at token ends, and their values are UTF-8.
use mathlib.Core.Path.{◌≡◌, refl, sym, ap, ap₂, ◌∙◌, subst}
use mathlib.Core.Logic.{⊎_elim}
use mathlib.Core.Bool.{Bool, true, false, not, ◌&&◌, ◌||◌}
use mathlib.Core.List.{List, [], ◌∷◌, ◌++◌, append_assoc, append-nil}
use Prim.Native.Nat.{ℕ, suc, ◌+◌, ◌-◌, ◌≤◌}
use native.Mathlib.Omega.{arith}
use borrow.Author.Tests.{eq-eqb, lt-ltb}
use lib.Dec.{T, eqb, ltb, ltb→lt}
use lib.ListN.{length, take, drop, length-append}
use lib.Seq.{take_at, drop_at}
use Rattle.text.specs.Text.{Text, cond, is}
use Rattle.text.proofs.Compare.{contrary}
use Rattle.utf8.specs.Utf8.{width, encode, encodes, decode, first_bad}
use Rattle.utf8.specs.Scalar.{Scalars}
use Rattle.utf8.proofs.Tests.{and_true}
use Rattle.utf8.proofs.Encoding.{length_encode}
use Rattle.utf8.proofs.Decoding.{valid_encodes, valid_encoded, encodes_append, scalars_right}
use Rattle.token.specs.Kind.{kind_code, kind_of_code, among, strings, long_strings, IRIREF, LANGTAG, BLANK_NODE_LABEL}
use Rattle.token.specs.Regular.{Re, set, seq, alt, star, eps, Matches, Item, item, Some, Match, nothing, hit, size, Hit, Longest}
use Rattle.token.specs.Terminals.{terminals, long_terminals, tripled, terminals_at, token_at}
use Rattle.token.specs.Tokens.{Token, has_kind, Lexeme, token, unreadable, Cutting, between, comment, inside, white_space, in_comment, passed, trig_cuts, lexemes_from, lexemes, tokens_of}
use Rattle.token.proofs.Longest.{token_longest}
use Rattle.token.proofs.Sizes.{length_encodes}
use Rattle.token.proofs.Cutting.{cut_comment}
use Rattle.escape.specs.Escape.{outside, pieces_from, pieces, unescape_pieces, unescape, bad_pieces, bad_escape}
use Rattle.dataset.specs.Constructors.{inner, string_text, reference, tag, node_label}
use Rattle.table.specs.Usable.{is_match, is_tag}
use Rattle.machine.specs.Refusals.{no_character}
use Rattle.readback.proofs.Undone.{lows, lows_encodes}
use Rattle.readback.proofs.Printed.{no_quote}
use Rattle.readback.proofs.Tags.{confined}
use Rattle.readback.proofs.Texts.{Utf8}
use Rattle.readback.proofs.Escapes.{Escaped, none, Unslashed, bad_plain, low_front, utf8_unescape, Steps, steps_star, confined_lows, char, char_is, char_then, steps_reference, steps_string, steps_long}
use Rattle.readback.proofs.Iris.{Lexed, AllLexed}

-- ---- What each kind of token looks like

-- n marks at each end, and whole escapes between them.
record Quoted (n : ℕ) (z : List ℕ) : Type 0 where
  front : List ℕ
  middle : List ℕ
  back : List ℕ
  whole : z ≡ front ++ (middle ++ back)
  first : length front ≡ n
  last : length back ≡ n
  front_low : T (lows front)
  back_low : T (lows back)
  unslashed : Unslashed front
  escaped : Escaped middle

-- Two ASCII characters in front.
record Labelled (z : List ℕ) : Type 0 where
  one : ℕ
  two : ℕ
  rest : List ℕ
  whole : z ≡ one ∷ two ∷ rest
  low : T (lows (one ∷ two ∷ []))

-- ASCII behind an @.
record Tagged (k : ℕ) (z : List ℕ) : Type 0 where
  code : k ≡ kind_code LANGTAG
  rest : List ℕ
  whole : z ≡ 64 ∷ rest
  low : T (lows rest)

-- What is said of each kind, by its number.
record Shaped (k : ℕ) (z : List ℕ) : Type 0 where
  reference : among (IRIREF ∷ []) (kind_of_code k) ≡ true → Quoted 1 z
  string : among strings (kind_of_code k) ≡ true → Quoted (cond (among long_strings (kind_of_code k)) 3 1) z
  label : among (BLANK_NODE_LABEL ∷ []) (kind_of_code k) ≡ true → Labelled z
  tag : among (LANGTAG ∷ []) (kind_of_code k) ≡ true → Tagged k z

quoted_one : {r : Re} (p q : ℕ) → T (lows (p ∷ q ∷ [])) → eqb p 92 ≡ false → Steps r → (z : List ℕ) → Matches (seq (char p) (seq (star r) (char q))) z → Quoted 1 z
quoted_one {r} p q t n s z m =
    let (y, e, (u, v, f, k, j)) = char_then p (seq (star r) (char q)) z m in
    let w = and_true (ltb p 128) (lows (q ∷ [])) t in
    record {
      front = p ∷ [];
      middle = u;
      back = q ∷ [];
      whole = e ∙ ap (λ (x : List ℕ). p ∷ x) (f ∙ ap (λ (x : List ℕ). u ++ x) (char_is q v j));
      first = refl;
      last = refl;
      front_low = rw (lt-ltb p 128 (ltb→lt p 128 w.0)) tt;
      back_low = w.1;
      unslashed = (n, tt);
      escaped = subst Escaped (append-nil u) ((steps_star s).on u [] k none);
    }

quoted_three : {r : Re} (q : ℕ) → T (ltb q 128) → eqb q 92 ≡ false → Steps r → (z : List ℕ)
    → Matches (seq (char q) (seq (char q) (seq (char q) (seq (star r) (seq (char q) (seq (char q) (char q))))))) z → Quoted 3 z
quoted_three {r} q t n s z m =
    let ends = seq (char q) (seq (char q) (char q)) in
    let (x, e, m₁) = char_then q (seq (char q) (seq (char q) (seq (star r) ends))) z m in
    let (y, f, m₂) = char_then q (seq (char q) (seq (star r) ends)) x m₁ in
    let (w, g, (u, v, h, k, j)) = char_then q (seq (star r) ends) y m₂ in
    let (a, i, m₃) = char_then q (seq (char q) (char q)) v j in
    let (b, l, m₄) = char_then q (char q) a m₃ in
    let low : T (lows (q ∷ q ∷ q ∷ [])) = rw (lt-ltb q 128 (ltb→lt q 128 t)) tt in
    record {
      front = q ∷ q ∷ q ∷ [];
      middle = u;
      back = q ∷ q ∷ q ∷ [];
      whole =
          e
          ∙ ap (λ (x : List ℕ). q ∷ x)
          (f ∙ ap (λ (x : List ℕ). q ∷ x) (g ∙ ap (λ (x : List ℕ). q ∷ x) (h ∙ ap (λ (x : List ℕ). u ++ x) (i ∙ ap (λ (x : List ℕ). q ∷ x) (l ∙ ap (λ (x : List ℕ). q ∷ x) (char_is q b m₄))))));
      first = refl;
      last = refl;
      front_low = low;
      back_low = low;
      unslashed = (n, (n, (n, tt)));
      escaped = subst Escaped (append-nil u) ((steps_star s).on u [] k none);
    }

labelled : (a b : ℕ) (r : Re) → T (lows (a ∷ b ∷ [])) → (z : List ℕ) → Matches (seq (char a) (seq (char b) r)) z → Labelled z
labelled a b r t z m =
    let (x, e, n) = char_then a (seq (char b) r) z m in
    let (y, f, k) = char_then b r x n in
    record { one = a; two = b; rest = y; whole = e ∙ ap (λ (w : List ℕ). a ∷ w) f; low = t }

tagged : (r : Re) → T (confined r) → (z : List ℕ) → Matches (seq (char 64) r) z → Tagged (kind_code LANGTAG) z
tagged r t z m = let (y, e, n) = char_then 64 r z m in record { code = refl; rest = y; whole = e; low = confined_lows r t y n }

-- The kind of a token, and what its terminal matches.
abbrev Each : List Item → (ℕ → List ℕ → Type 0) → Type 0
Each [] P = Unit {0}
Each (item k r ∷ xs) P = ((z : List ℕ) → Matches r z → P k z) × Each xs P

each_some : (S : List Item) (P : ℕ → List ℕ → Type 0) → Each S P → (k : ℕ) (z : List ℕ) → Some S k z → P k z
each_some [] P h k z m = absurd m
each_some (item j r ∷ xs) P h k z m = ⊎_elim (λ (e, n). subst (λ (i : ℕ). P i z) e (h.0 z n)) (λ n. each_some xs P h.1 k z n) m

-- The kinds of which nothing is said: one computed test.
abbrev unsaid : ℕ → Bool
unsaid k = not (among (BLANK_NODE_LABEL ∷ LANGTAG ∷ IRIREF ∷ strings) (kind_of_code k))

abbrev all_unsaid : List Item → Bool
all_unsaid [] = true
all_unsaid (item k r ∷ xs) = unsaid k && all_unsaid xs

unsaid_shaped : (k : ℕ) → T (unsaid k) → (z : List ℕ) → Shaped k z
unsaid_shaped k t z = go (eqb 4 j) (eqb 7 j) (eqb 1 j) (among strings (kind_of_code k)) t (λ a. a) (λ a. a) (λ a. a) (λ a. a)
  where
    j : ℕ
    j = kind_code (kind_of_code k)

    go : (a b c d : Bool) → T (not (a || (b || (c || d)))) → (among (BLANK_NODE_LABEL ∷ []) (kind_of_code k) ≡ true → (a || false) ≡ true) → (among (LANGTAG ∷ []) (kind_of_code k) ≡ true → (b || false) ≡ true)
        → (among (IRIREF ∷ []) (kind_of_code k) ≡ true → (c || false) ≡ true) → (among strings (kind_of_code k) ≡ true → d ≡ true) → Shaped k z
    go false false false false t p q r s =
        record { reference = λ h. contrary (sym (r h)); string = λ h. contrary (sym (s h)); label = λ h. contrary (sym (p h)); tag = λ h. contrary (sym (q h)) }
    go true b c d t p q r s = absurd t
    go false true c d t p q r s = absurd t
    go false false true d t p q r s = absurd t
    go false false false true t p q r s = absurd t

each_unsaid : (xs : List Item) → T (all_unsaid xs) → Each xs Shaped
each_unsaid [] t = tt
each_unsaid (item k r ∷ xs) t = let v = and_true (unsaid k) (all_unsaid xs) t in (λ z m. unsaid_shaped k v.0 z, each_unsaid xs v.1)

shaped_iri : (z : List ℕ) → Quoted 1 z → Shaped (kind_code IRIREF) z
shaped_iri z q = record { reference = λ h. q; string = λ h. contrary (sym h); label = λ h. contrary (sym h); tag = λ h. contrary (sym h) }

shaped_label : (z : List ℕ) → Labelled z → Shaped (kind_code BLANK_NODE_LABEL) z
shaped_label z l = record { reference = λ h. contrary (sym h); string = λ h. contrary (sym h); label = λ h. l; tag = λ h. contrary (sym h) }

shaped_tag : (z : List ℕ) → Tagged (kind_code LANGTAG) z → Shaped (kind_code LANGTAG) z
shaped_tag z g = record { reference = λ h. contrary (sym h); string = λ h. contrary (sym h); label = λ h. contrary (sym h); tag = λ h. g }

shaped_string : (k : ℕ) (z : List ℕ) → among (BLANK_NODE_LABEL ∷ LANGTAG ∷ IRIREF ∷ []) (kind_of_code k) ≡ false → Quoted (cond (among long_strings (kind_of_code k)) 3 1) z → Shaped k z
shaped_string k z e q = go (eqb 4 (kind_code (kind_of_code k))) (eqb 7 (kind_code (kind_of_code k))) (eqb 1 (kind_code (kind_of_code k))) e (λ a. a) (λ a. a) (λ a. a)
  where
    go : (a b c : Bool) → (a || (b || (c || false))) ≡ false → (among (BLANK_NODE_LABEL ∷ []) (kind_of_code k) ≡ true → (a || false) ≡ true)
        → (among (LANGTAG ∷ []) (kind_of_code k) ≡ true → (b || false) ≡ true) → (among (IRIREF ∷ []) (kind_of_code k) ≡ true → (c || false) ≡ true) → Shaped k z
    go false false false f x y w = record { reference = λ h. contrary (sym (w h)); string = λ h. q; label = λ h. contrary (sym (x h)); tag = λ h. contrary (sym (y h)) }
    go true b c f x y w = contrary f
    go false true c f x y w = contrary f
    go false false true f x y w = contrary f

-- The expression of the first item; what stands behind its first part.
abbrev first_of : List Item → Re
first_of [] = eps
first_of (item k r ∷ xs) = r

abbrev behind : Re → Re
behind eps = eps
behind (set b rs) = eps
behind (seq p q) = q
behind (alt p q) = eps
behind (star p) = eps

each_terminal : Each terminals Shaped
each_terminal = (
  λ z m. shaped_iri z (quoted_one 60 62 tt refl steps_reference z m),
  (
    λ z m. unsaid_shaped 2 tt z,
    (
      λ z m. unsaid_shaped 3 tt z,
      (
        λ z m. shaped_label z (labelled 95 58 (behind (behind (first_of (drop 3 terminals)))) tt z m),
        (
          λ z m. unsaid_shaped 5 tt z,
          (
            λ z m. unsaid_shaped 6 tt z,
            (
              λ z m. shaped_tag z (tagged (behind (first_of (drop 6 terminals))) tt z m),
              (
                λ z m. unsaid_shaped 8 tt z,
                (
                  λ z m. unsaid_shaped 9 tt z,
                  (
                    λ z m. unsaid_shaped 10 tt z,
                    (
                      λ z m. shaped_string 11 z refl (quoted_one 34 34 tt refl (steps_string 34 refl) z m),
                      (λ z m. shaped_string 12 z refl (quoted_one 39 39 tt refl (steps_string 39 refl) z m), each_unsaid (drop 12 terminals) tt),
                    ),
                  ),
                ),
              ),
            ),
          ),
        ),
      ),
    ),
  ),
)

each_long : Each long_terminals Shaped
each_long = (
  λ z m. shaped_string 29 z refl (quoted_three 34 tt refl (steps_long 34 refl refl) z m),
  (λ z m. shaped_string 30 z refl (quoted_three 39 tt refl (steps_long 39 refl refl) z m), tt),
)

shaped : (cs : List ℕ) (k : ℕ) (z : List ℕ) → Some (terminals_at cs) k z → Shaped k z
shaped cs k z m = go (tripled cs) m
  where
    go : (b : Bool) → Some (cond b long_terminals terminals) k z → Shaped k z
    go true m = each_some long_terminals Shaped each_long k z m
    go false m = each_some terminals Shaped each_terminal k z m

-- ---- Their values

scalars_front : (xs ys : List ℕ) → Scalars (xs ++ ys) → Scalars xs
scalars_front [] ys h = tt
scalars_front (x ∷ xs) ys h = (h.0, scalars_front xs ys h.1)

module _ (n : ℕ) (z : List ℕ) (q : Quoted n z) where
  abbrev behind_front : Text
  behind_front = encodes q.middle ++ q.back

  quoted_bytes : encodes z ≡ q.front ++ behind_front
  quoted_bytes =
      ap encodes q.whole ∙ low_front q.front (q.middle ++ q.back) q.front_low
      ∙ ap (λ (x : Text). q.front ++ x) (encodes_append q.middle q.back ∙ ap (λ (x : Text). encodes q.middle ++ x) (lows_encodes q.back q.back_low))

  -- The text between the marks.
  quoted_inner : inner n (encodes z) ≡ encodes q.middle
  unfolding inner
  quoted_inner =
      let d = ap (drop n) quoted_bytes ∙ drop_at q.front behind_front n q.first in
      let l = ap length quoted_bytes ∙ length-append q.front behind_front in
      let k = length-append (encodes q.middle) q.back in
      ap (take (length (encodes z) - (n + n))) d ∙ take_at (encodes q.middle) q.back (length (encodes z) - (n + n)) (omega (arith, q.first, q.last))

  quoted_utf8 : Scalars z → bad_escape (encodes z) ≡ false → Utf8 (unescape (inner n (encodes z)))
  unfolding unescape pieces bad_escape
  quoted_utf8 h e =
      let s = scalars_front q.middle q.back (scalars_right q.front (q.middle ++ q.back) (subst Scalars q.whole h)) in
      ap (λ (x : Text). first_bad (unescape_pieces (pieces_from outside x))) quoted_inner
      ∙ utf8_unescape q.escaped s q.back
      (sym (bad_plain q.front behind_front q.unslashed) ∙ ap (λ (x : Text). bad_pieces (pieces_from outside x)) (sym quoted_bytes) ∙ e)

labelled_utf8 : (z : List ℕ) → Labelled z → Scalars z → Utf8 (drop 2 (encodes z))
labelled_utf8 z l h =
    ap (λ (x : Text). first_bad (drop 2 x)) (ap encodes l.whole ∙ low_front (l.one ∷ l.two ∷ []) l.rest l.low)
    ∙ valid_encodes l.rest (scalars_right (l.one ∷ l.two ∷ []) l.rest (subst Scalars l.whole h))

-- A longest match is the longest of itself alone.
alone : (cs : List ℕ) (k n : ℕ) (h : Hit width terminals cs k n) → tripled h.front ≡ false → token_at h.front ≡ hit k (size width h.front)
alone cs k n h t =
    go (token_at h.front) (subst (λ (b : Bool). Longest width (cond b long_terminals terminals) h.front (token_at h.front)) t (token_longest h.front))
  where
    go : (m : Match) → Longest width terminals h.front m → m ≡ hit k (size width h.front)
    go nothing l = absurd (l h.front [] k (sym (append-nil h.front)) h.match)
    go (hit j i) l =
        let a = l.longest h.front [] k (sym (append-nil h.front)) h.match in
        let c = same l.front l.back l.whole a in
        let p = h.least j (subst (Some terminals j) (sym c) l.match) in
        let q = l.least k (subst (Some terminals k) c h.match) in
        ap₂ hit (let r : j ≡ k = omega arith in r) (l.bytes ∙ ap (size width) (sym c))
      where
        same : (x y : List ℕ) → h.front ≡ x ++ y → length h.front ≤ length x → h.front ≡ x
        same x [] e l = e ∙ append-nil x
        same x (b ∷ y) e l = let d = ap length e in absurd (omega (arith, length-append x (b ∷ y)))

tag_alone : (cs : List ℕ) (k n : ℕ) (h : Hit width terminals cs k n) (g : Tagged k h.front) → is_tag g.rest ≡ true
unfolding is_tag is_match
tag_alone cs k n h g =
    let low : T (lows (64 ∷ g.rest)) = g.low in
    let e = alone cs k n h (ap tripled g.whole ∙ no_quote 64 g.rest refl refl) in
    let s : size width (64 ∷ g.rest) ≡ suc (length g.rest) = sym (length_encodes (64 ∷ g.rest)) ∙ ap length (lows_encodes (64 ∷ g.rest) low) in
    let f : token_at (64 ∷ g.rest) ≡ hit 7 (suc (length g.rest)) = ap token_at (sym g.whole) ∙ e ∙ ap₂ hit g.code (ap (size width) g.whole ∙ s) in
    ap (λ (m : Match). is_match m 7 (suc (length g.rest))) f ∙ eq-eqb (suc (length g.rest)) (suc (length g.rest)) refl

-- ---- The tokens of a document

-- Code points from a place on.
record At (doc : Text) (at : ℕ) (cs : List ℕ) : Type 0 where
  before : Text
  whole : doc ≡ before ++ encodes cs
  place : length before ≡ at
  scalars : Scalars cs

at_next : {doc : Text} {at : ℕ} (c : ℕ) (cs : List ℕ) → At doc at (c ∷ cs) → At doc (at + width c) cs
unfolding encodes
at_next c cs a =
    record {
      before = a.before ++ encode c;
      whole = a.whole ∙ sym (append_assoc a.before (encode c) (encodes cs));
      place = length-append a.before (encode c) ∙ ap₂ (λ (x y : ℕ). x + y) a.place (length_encode c);
      scalars = a.scalars.1;
    }

-- A token that is cut there.
module _ (doc : Text) (at : ℕ) (cs : List ℕ) (k n : ℕ) (a : At doc at cs) (h : Hit width (terminals_at cs) cs k n) where
  abbrev cut_token : Token
  cut_token = record { kind = kind_of_code k; start = at; text = take n (drop at doc) }

  cut_text : take n (drop at doc) ≡ encodes h.front
  cut_text =
      let d = ap (drop at) a.whole ∙ drop_at a.before (encodes cs) at a.place in
      ap (take n) (d ∙ ap encodes h.whole ∙ encodes_append h.front h.back)
      ∙ take_at (encodes h.front) (encodes h.back) n (length_encodes h.front ∙ sym h.bytes)

  cut_scalars : Scalars h.front
  cut_scalars = scalars_front h.front h.back (subst Scalars h.whole a.scalars)

  -- Where 7 does not apply, no escape of a reference or a string names no character.
  named : has_kind (IRIREF ∷ strings) cut_token ≡ true → no_character cut_token ≡ false → bad_escape (encodes h.front) ≡ false
  unfolding no_character
  named k c = ap bad_escape (sym cut_text) ∙ rw k at c

  quoted_value : (i : ℕ) → Quoted i h.front → has_kind (IRIREF ∷ strings) cut_token ≡ true → no_character cut_token ≡ false → Utf8 (unescape (inner i (take n (drop at doc))))
  quoted_value i q k c = ap (λ (x : Text). first_bad (unescape (inner i x))) cut_text ∙ quoted_utf8 i h.front q cut_scalars (named k c)

  tag_value : (b : Bool) → tripled cs ≡ b → (g : Hit width (cond b long_terminals terminals) cs k n) (x : Tagged k g.front) → is_tag x.rest ≡ true
  tag_value false e g x = tag_alone cs k n g x
  tag_value true e g x =
      contrary (sym e ∙ ap tripled (g.whole ∙ ap (λ (y : List ℕ). y ++ g.back) x.whole) ∙ no_quote 64 (x.rest ++ g.back) refl refl)

  lexed_token : Lexed cut_token
  unfolding reference string_text node_label tag
  lexed_token =
      let s = shaped cs k h.front h.match in
      record {
        text = ap first_bad cut_text ∙ valid_encodes h.front cut_scalars;
        reference = λ c j. quoted_value 1 (s.reference j) (one_of_them (eqb 1 (kind_code (kind_of_code k))) (among strings (kind_of_code k)) j) c;
        string = λ c j. quoted_value (cond (among long_strings (kind_of_code k)) 3 1) (s.string j) (or_these (eqb 1 (kind_code (kind_of_code k))) (among strings (kind_of_code k)) j) c;
        label = λ j. ap (λ (x : Text). first_bad (drop 2 x)) cut_text ∙ labelled_utf8 h.front (s.label j) cut_scalars;
        tag =
            λ j.
            let g = s.tag j in
            let low : T (lows (64 ∷ g.rest)) = g.low in
            ap (λ (x : Text). is_tag (drop 1 x)) (cut_text ∙ ap encodes g.whole ∙ lows_encodes (64 ∷ g.rest) low) ∙ tag_value (tripled cs) refl h g;
      }
    where
      one_of_them : (x y : Bool) → (x || false) ≡ true → (x || y) ≡ true
      one_of_them true y e = refl
      one_of_them false y e = contrary (sym e)

      or_these : (x y : Bool) → y ≡ true → (x || y) ≡ true
      or_these true y e = refl
      or_these false y e = e

lexed_from : (doc : Text) (state : Cutting) (at : ℕ) (cs : List ℕ) → At doc at cs → AllLexed (tokens_of (lexemes_from trig_cuts doc state at cs))
unfolding lexemes_from tokens_of
lexed_from doc state at [] a = tt
lexed_from doc (inside k) at (c ∷ cs) a = lexed_from doc (passed (k - width c)) (at + width c) cs (at_next c cs a)
lexed_from doc comment at (c ∷ cs) a =
    subst (λ (ls : List Lexeme). AllLexed (tokens_of ls)) (sym (cut_comment doc at c cs)) (lexed_from doc (in_comment c) (at + width c) cs (at_next c cs a))
lexed_from doc between at (c ∷ cs) a =
    here (white_space c || is "#" c) (token_at (c ∷ cs)) (token_longest (c ∷ cs))
    (lexed_from doc (cond (is "#" c) comment between) (at + width c) cs (at_next c cs a)) (λ n. lexed_from doc (passed (n - width c)) (at + width c) cs (at_next c cs a))
  where
    here : (b : Bool) (o : Match) → Longest width (terminals_at (c ∷ cs)) (c ∷ cs) o
        → AllLexed (tokens_of (lexemes_from trig_cuts doc (cond (is "#" c) comment between) (at + width c) cs))
        → ((n : ℕ) → AllLexed (tokens_of (lexemes_from trig_cuts doc (passed (n - width c)) (at + width c) cs)))
        → AllLexed
        (tokens_of
        (elim b [
          | true ↦ lexemes_from trig_cuts doc (cond (is "#" c) comment between) (at + width c) cs
          | false ↦
              elim o [
                | nothing ↦ unreadable at ∷ []
                | hit k n ↦
                    token (record { kind = kind_of_code k; start = at; text = take n (drop at doc) })
                    ∷ lexemes_from trig_cuts doc (passed (n - width c)) (at + width c) cs
              ]
        ]))
    here true o l f g = f
    here false nothing l f g = tt
    here false (hit k n) l f g = (lexed_token doc at (c ∷ cs) k n a l, g n)

-- The tokens of a document that 5 does not refuse.
pub all_lexed : (doc : Text) → Utf8 doc → AllLexed (tokens_of (lexemes doc))
unfolding lexemes
all_lexed doc u = let g = valid_encoded doc u in lexed_from doc between 0 (decode doc) (record { before = []; whole = g.bytes; place = refl; scalars = g.scalars })
