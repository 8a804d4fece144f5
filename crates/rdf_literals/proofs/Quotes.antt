-- What stands between the quotes of a string: its escapes are those of the whole token, which begins with its quotes.
use mathlib.Core.Path.{◌≡◌, refl, ap, sym, ◌∙◌, subst}
use mathlib.Core.List.{List, [], ◌∷◌}
use mathlib.Core.Bool.{Bool, true, false, not, ◌&&◌}
use mathlib.Core.Logic.{inl, inr}
use mathlib.Core.Option.{none}
use Prim.Native.Nat.{ℕ, zero, suc, ◌+◌, ◌-◌, ◌≤◌, ◌<◌}
use native.Mathlib.Omega.{arith}
use borrow.Author.Tests.{ne_eqb, eqb-true, eqb-false, lt-ltb, ltb-true, ltb-false}
use lib.Dec.{eqb, ltb}
use lib.ListN.{length, get_or, take, drop}
use lib.Seq.{get_or-take}
use Rattle.text.specs.Text.{Text, cond, is}
use Rattle.text.proofs.Compare.{by, contrary, and_left, and_right}
use Rattle.utf8.specs.Utf8.{decode, first_bad, encodes, width}
use Rattle.utf8.proofs.Decoding.{valid_encoded}
use Rattle.token.specs.Kind.{kind_code, strings, long_strings, STRING_LITERAL_QUOTE, STRING_LITERAL_SINGLE_QUOTE, STRING_LITERAL_LONG_QUOTE, STRING_LITERAL_LONG_SINGLE_QUOTE}
use Rattle.token.specs.Regular.{Item, item, Some, Match, hit, Hit, Longest}
use Rattle.token.specs.Terminals.{terminals, long_terminals, tripled, terminals_at, token_at}
use Rattle.token.proofs.Longest.{token_longest}
use Rattle.escape.specs.Escape.{outside, pieces, bad_pieces, bad_escape}
use Rattle.escape.proofs.Steps.{at_plain}
use Rattle.dataset.specs.Constructors.{inner}
use Rattle.state.specs.Words.{kind_in, at_in, len_in}
use Rattle.state.specs.Cursor.{Cursor, TokenHere}
use Rattle.token_iri.proofs.Begins.{text_begins}
use Rattle.token_iri.proofs.Between.{bad_take}
use Rattle.simulation.specs.Simulation.{code_among}
use Rattle.rdf_literals.specs.Literals.{quotes_of, Quoted}

-- No backslash is among the first n bytes.
abbrev pub Fronts : ℕ → Text → Type 0
Fronts n s = (i : ℕ) → i < n → get_or s i 0 ≡ 92 → ⊥

good_behind : (n : ℕ) (s : Text) → Fronts n s → bad_escape s ≡ false → bad_escape (drop n s) ≡ false
unfolding bad_escape pieces bad_pieces
good_behind zero s f h = h
good_behind (suc n) [] f h = h
good_behind (suc n) (c ∷ s) f h =
    good_behind n s (λ i g e. f (suc i) (omega arith) e) (sym (ap bad_pieces (at_plain c s (ne_eqb c 92 (λ e. f 0 (omega arith) e)))) ∙ h)

good_inside : (n : ℕ) (s : Text) → Fronts n s → bad_escape s ≡ false → bad_escape (inner n s) ≡ false
unfolding bad_escape pieces inner
good_inside n s f h = bad_take outside (drop n s) (length s - (n + n)) (good_behind n s f h)

fronts_take : (n len : ℕ) (s : Text) → Fronts n s → Fronts n (take len s)
fronts_take n len s f i h e =
    by (ltb i len) (λ p. f i h (sym (get_or-take len s i 0 (ltb-true i len p)) ∙ e)) (λ p. past len s i (ltb-false i len p) e)
  where
    past : (len : ℕ) (s : Text) (i : ℕ) → len ≤ i → get_or (take len s) i 0 ≡ 92 → ⊥
    past zero s i h e = omega arith
    past (suc len) [] i h e = omega arith
    past (suc len) (c ∷ s) zero h e = omega arith
    past (suc len) (c ∷ s) (suc i) h e = past len s i (omega arith) e

-- ---- The quotes

-- A kind of no expression has no match.
abbrev absent : ℕ → List Item → Bool
absent k [] = true
absent k (item j r ∷ xs) = not (eqb j k) && absent k xs

no_match : (k : ℕ) (xs : List Item) (z : List ℕ) → absent k xs ≡ true → Some xs k z → ⊥
no_match k [] z e s = s
no_match k (item j r ∷ xs) z e (inl (q, m)) = by (eqb j k) (λ p. contrary (sym (and_left (not (eqb j k)) _ e) ∙ rw p)) (λ p. eqb-false j k p q)
no_match k (item j r ∷ xs) z e (inr s) = no_match k xs z (and_right (not (eqb j k)) _ e) s

-- A long string begins with three quotes.
long_tripled : (k : ℕ) → absent k terminals ≡ true → (cs : List ℕ) (n : ℕ) → token_at cs ≡ hit k n → tripled cs ≡ true
long_tripled k x cs n e =
    let h : Hit width (terminals_at cs) cs k n = subst (λ (m : Match). Longest width (terminals_at cs) cs m) e (token_longest cs) in
    by (tripled cs) (λ p. p) (λ p. absurd (no_match k terminals h.front x (subst (λ (b : Bool). Some (cond b long_terminals terminals) k h.front) p h.match)))

same_three : (q : ℕ) → q < 128 → (q ≡ 92 → ⊥) → (t : List ℕ) → Fronts 3 (encodes (q ∷ q ∷ q ∷ t))
unfolding encodes
same_three q low z t zero h e = z (rw (lt-ltb q 0x80 low) at e)
same_three q low z t (suc zero) h e = z (rw (lt-ltb q 0x80 low) at e)
same_three q low z t (suc (suc zero)) h e = z (rw (lt-ltb q 0x80 low) at e)
same_three q low z t (suc (suc (suc i))) h e = omega arith

three_fronts : (cs : List ℕ) → tripled cs ≡ true → Fronts 3 (encodes cs)
three_fronts [] e = contrary (sym e)
three_fronts (a ∷ []) e = contrary (sym e)
three_fronts (a ∷ b ∷ []) e = contrary (sym e)
three_fronts (a ∷ b ∷ c ∷ t) e =
    by (is "\"" a && is "\"" b && is "\"" c)
    (λ p. of_quote 34 (omega arith) (λ x. omega arith) (eqb-true a 34 (and_left (is "\"" a) (is "\"" b) (and_left (is "\"" a && is "\"" b) (is "\"" c) p))) (eqb-true b 34 (and_right (is "\"" a) (is "\"" b) (and_left (is "\"" a && is "\"" b) (is "\"" c) p))) (eqb-true c 34 (and_right (is "\"" a && is "\"" b) (is "\"" c) p)))
    (λ p. let q : (is "'" a && is "'" b && is "'" c) ≡ true = rw p at e in
    of_quote 39 (omega arith) (λ x. omega arith) (eqb-true a 39 (and_left (is "'" a) (is "'" b) (and_left (is "'" a && is "'" b) (is "'" c) q))) (eqb-true b 39 (and_right (is "'" a) (is "'" b) (and_left (is "'" a && is "'" b) (is "'" c) q))) (eqb-true c 39 (and_right (is "'" a && is "'" b) (is "'" c) q)))
  where
    of_quote : (q : ℕ) → q < 128 → (q ≡ 92 → ⊥) → a ≡ q → b ≡ q → c ≡ q → Fronts 3 (encodes (a ∷ b ∷ c ∷ t))
    of_quote q low z x y w = rw (x, y, w) (same_three q low z t)

-- One of the four kinds.
pub each_string : (P : ℕ → Type 0) → P 11 → P 12 → P 29 → P 30 → (k : ℕ) → code_among strings k ≡ true → P k
each_string P a b c d k e =
    by (eqb k (kind_code STRING_LITERAL_QUOTE)) (λ p. subst P (sym (eqb-true k (kind_code STRING_LITERAL_QUOTE) p)) a)
    (λ p. by (eqb k (kind_code STRING_LITERAL_SINGLE_QUOTE)) (λ q. subst P (sym (eqb-true k (kind_code STRING_LITERAL_SINGLE_QUOTE) q)) b)
    (λ q. by (eqb k (kind_code STRING_LITERAL_LONG_QUOTE)) (λ r. subst P (sym (eqb-true k (kind_code STRING_LITERAL_LONG_QUOTE) r)) c)
    (λ r. by (eqb k (kind_code STRING_LITERAL_LONG_SINGLE_QUOTE)) (λ s. subst P (sym (eqb-true k (kind_code STRING_LITERAL_LONG_SINGLE_QUOTE) s)) d)
    (λ s. contrary (sym (rw (p, q, r, s) at e))))))

string_fronts : (s : Text) → first_bad s ≡ none → (n k : ℕ) → code_among strings k ≡ true → token_at (decode s) ≡ hit k n → Fronts (quotes_of k) s
string_fronts s v n k = each_string (λ (j : ℕ). token_at (decode s) ≡ hit j n → Fronts (quotes_of j) s)
    (λ e. one 34 (λ x. omega arith) (text_begins 11 34 refl refl (omega arith) s v n e))
    (λ e. one 39 (λ x. omega arith) (text_begins 12 39 refl refl (omega arith) s v n e))
    (λ e. three (long_tripled 29 refl (decode s) n e))
    (λ e. three (long_tripled 30 refl (decode s) n e)) k
  where
    one : (q : ℕ) → (q ≡ 92 → ⊥) → get_or s 0 0 ≡ q → Fronts 1 s
    one q z e zero h f = z (sym e ∙ f)
    one q z e (suc i) h f = omega arith

    three : tripled (decode s) ≡ true → Fronts 3 s
    three e = subst (λ (x : Text). Fronts 3 x) (sym (valid_encoded s v).bytes) (three_fronts (decode s) e)

few_quotes : (k : ℕ) → quotes_of k ≤ 3
few_quotes k = by (code_among long_strings k) (λ p. rw p (omega arith)) (λ p. rw p (omega arith))

-- What is kept of the string at the cursor.
pub string_quoted : (doc : Text) (st : List ℕ) → Cursor doc st → TokenHere doc st → code_among strings (kind_in st) ≡ true → bad_escape (take (len_in st) (drop (at_in st) doc)) ≡ false
    → Quoted doc (at_in st) (len_in st) (quotes_of (kind_in st))
string_quoted doc st c t k g = record {
  size = c.size;
  inside = c.inside;
  few = few_quotes (kind_in st);
  right = good_inside (quotes_of (kind_in st)) (take (len_in st) (drop (at_in st) doc))
      (fronts_take (quotes_of (kind_in st)) (len_in st) (drop (at_in st) doc) (string_fronts (drop (at_in st) doc) t.here_valid (len_in st) (kind_in st) k t.matched)) g;
}

-- The inside as the code reads it.
pub inside_none : (n : ℕ) (s : Text) → length s < n + n → take 0 (drop 0 s) ≡ inner n s
unfolding inner
inside_none n s h = let z : length s - (n + n) ≡ 0 = omega arith in rw z

pub inside_some : (n : ℕ) (s : Text) → n + n ≤ length s → take (length s - n - n) (drop n s) ≡ inner n s
unfolding inner
inside_some n s h = let z : length s - n - n ≡ length s - (n + n) = omega arith in rw z
