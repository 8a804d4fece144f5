-- What is answered at a place: a token, that none can be read, or the end.
use mathlib.Core.Path.{◌≡◌, refl, ap, ap₂, sym, subst, ◌∙◌}
use mathlib.Core.Bool.{false}
use mathlib.Core.List.{[]}
use mathlib.Core.Option.{Option as Bad, none, some}
use Prim.Native.Nat.{ℕ, ◌+◌, ◌-◌, ◌≤◌, ◌<◌}
use native.Mathlib.Omega.{arith}
use lib.ListN.{length, take, drop, length-drop, drop_of_length-le}
use lib.Seq.{length-take-le}
use Rattle.std.specs.Prelude.{Option, Some, None}
use Rattle.text.specs.Text.{Text}
use Rattle.utf8.specs.Utf8.{decode, decode_from, bad_from, first_bad}
use Rattle.utf8.proofs.Decoding.{tail_eq}
use Rattle.token.specs.Kind.{unreadable_kind}
use Rattle.token.specs.Terminals.{token_at}
use Rattle.token.specs.Tokens.{between, trig_cuts, lexemes_from}
use Rattle.token.proofs.KindCodes.{code_back}
use Rattle.automaton.specs.Run.{answer, len_of}
use Rattle.automaton.specs.declared.Next.{Next}
use Rattle.automaton.specs.declared.Token.{Token}
use Rattle.lexer_words.specs.Ahead.{token_in, NextAt}
use Rattle.lexer_words.proofs.Clearing.{clear_none}
use Rattle.lexer.specs.Blanks.{blanks, BlanksAt}
use Rattle.lexer.specs.Rest.{rest}
use Rattle.lexer.proofs.Cutting.{blanks_valid, cut_end, cut_none, cut_token, token_kind}
use Rattle.token_reader.specs.Next.{found, first_of, next_from, NextFrom}
use Rattle.token_reader.proofs.Cut.{cut, bad, cut_length, cut_valid, cut_front, cut_size}

-- ---- The next token, where UTF-8 stands from the place on: b bytes of blanks, and then what the terminals match

module _ (doc : Text) (place b : ℕ) (v : first_bad (drop place doc) ≡ none) (e : b ≡ blanks false (decode (drop place doc))) where
  next_token : (t : Token) → Some t ≡ answer (token_at (decode (drop (place + b) doc))) → t.len ≤ length (drop (place + b) doc)
      → found t.kind (place + b) (place + b + t.len) ≡ next_from doc place
  unfolding next_from first_of
  next_token t f h =
      let c = cut_token doc place b v e t.kind t.len f in
      sym (ap (first_of (length doc)) c.0 ∙ ap₂ (λ (j m : ℕ). found j (place + b) (place + b + m)) (code_back t.kind (token_kind (decode (drop (place + b) doc)) t.kind t.len f) c.1.1.0)
      (length-take-le t.len (drop (place + b) doc) h))

  -- A match has bytes.
  next_unreadable : (r : Option Token) → r ≡ answer (token_at (decode (drop (place + b) doc))) → len_of r ≡ 0 → place + b < length doc
      → found unreadable_kind (place + b) (place + b) ≡ next_from doc place
  unfolding next_from first_of
  next_unreadable None f z h = sym (ap (first_of (length doc)) (cut_none doc place b v e f h))
  next_unreadable (Some t) f z h = let o = (cut_token doc place b v e t.kind t.len f).1.1.1 in absurd (omega arith)

-- ---- A place past the end

-- Nothing is left there.
past_left : (doc : Text) (place : ℕ) → length doc < place → drop place doc ≡ []
past_left doc place h = drop_of_length-le doc {i = place} (omega arith)

rest_past : (doc : Text) (place : ℕ) → length doc < place → rest doc place ≡ []
unfolding rest decode decode_from lexemes_from
rest_past doc place h = ap (λ (s : Text). lexemes_from trig_cuts doc between place (decode s)) (past_left doc place h)

none_bad : (doc : Text) (place : ℕ) → length doc < place → first_bad (drop place doc) ≡ none
unfolding first_bad bad_from
none_bad doc place h = ap first_bad (past_left doc place h)

no_bad : {X : Type 0} (o : Bad ℕ) (p : ℕ) → o ≡ none → o ≡ some p → X
no_bad o p e f = let z : ◌≡◌ {A = ℕ} 0 1 = cc in absurd (omega arith)

pub past_end : (doc : Text) (place : ℕ) → length doc < place → NextFrom doc place (found 0 (length doc) (length doc))
unfolding next_from first_of
past_end doc place h = record {
  right = λ v. sym (ap (first_of (length doc)) (rest_past doc place h));
  front = λ p v l. no_bad (first_bad (drop place doc)) p (none_bad doc place h) v;
  forward = λ x y. absurd (x refl);
  later = λ i. absurd (omega arith);
  ordered = omega arith;
  within = omega arith;
}

-- ---- A place within the document, after its blanks and the routine's answer

module _ (doc : Text) (place b : ℕ) (r : Option Next) (i : place ≤ length doc) (p : BlanksAt (take (length doc - place) (drop place doc)) b)
    (q : NextAt (take (length doc - (place + b)) (drop (place + b) doc)) 0 r) where
  g : BlanksAt (drop place doc) b
  g = subst (λ (x : Text). BlanksAt x b) (tail_eq doc place) p

  m : NextAt (drop (place + b) doc) 0 r
  m = subst (λ (x : Text). NextAt x 0 r) (tail_eq doc (place + b)) q

  blanks_within : place + b ≤ length doc
  blanks_within = omega (arith, g.within, length-drop place doc)

  token_within : place + b + len_of (token_in r) ≤ length doc
  token_within = omega (arith, blanks_within, m.within, length-drop (place + b) doc)

  -- All that is left is UTF-8.
  match : (v : first_bad (drop place doc) ≡ none) → token_in r ≡ answer (token_at (decode (drop (place + b) doc)))
  match v = m.right (blanks_valid doc place b v (g.right v)) (clear_none (drop (place + b) doc))

  -- A bad sequence begins behind the answer and the byte behind that.
  module _ (n : ℕ) (v : first_bad (drop place doc) ≡ some n) (h : place + b + len_of (token_in r) < place + n) where
    cut_blanks : b ≡ blanks false (decode (drop place (cut doc place n)))
    cut_blanks =
        let w = cut_valid doc place n i v in
        let s = cut_size doc place n i v place (omega arith) w in
        g.front (decode (drop place (cut doc place n))) (bad doc place n) (cut_front doc place n i v place (omega arith) w) (omega arith)

    cut_match : token_in r ≡ answer (token_at (decode (drop (place + b) (cut doc place n))))
    cut_match =
        let w = blanks_valid (cut doc place n) place b (cut_valid doc place n i v) cut_blanks in
        let s = cut_size doc place n i v (place + b) (omega arith) w in
        m.front refl (decode (drop (place + b) (cut doc place n))) (bad doc place n) (cut_front doc place n i v (place + b) (omega arith) w) (omega arith)

  pub some_token : (n : Next) → r ≡ Some n → (n.token.len ≡ 0 → ⊥) → NextFrom doc place (found n.token.kind (place + b) (place + b + n.token.len))
  some_token n e z =
      let w : token_in r ≡ Some n.token = ap token_in e in
      let o : len_of (token_in r) ≡ n.token.len = ap len_of w in
      record {
        right = λ v. next_token doc place b v (g.right v) n.token (sym w ∙ match v) (omega (arith, o, m.within));
        front = λ p v h.
            let h' : place + b + len_of (token_in r) < place + p = omega (arith, o, h) in
            let l = (cut_length doc place p i v).1 in
            let d = length-drop (place + b) (cut doc place p) in
            next_token (cut doc place p) place b (cut_valid doc place p i v) (cut_blanks p v h') n.token (sym w ∙ cut_match p v h') (omega arith);
        forward = λ _ _. omega arith;
        later = λ _. omega arith;
        ordered = omega arith;
        within = omega (arith, o, token_within);
      }

  pub no_token : len_of (token_in r) ≡ 0 → place + b < length doc → NextFrom doc place (found unreadable_kind (place + b) (place + b))
  no_token z h = record {
    right = λ v. next_unreadable doc place b v (g.right v) (token_in r) (match v) z h;
    front = λ n v l.
        let c = (cut_length doc place n i v).1 in
        let l' : place + b + len_of (token_in r) < place + n = omega arith in
        next_unreadable (cut doc place n) place b (cut_valid doc place n i v) (cut_blanks n v l') (token_in r) (cut_match n v l') z (omega arith);
    forward = λ _ y. absurd (y refl);
    later = λ _. omega arith;
    ordered = omega arith;
    within = blanks_within;
  }

  pub at_end : length doc ≤ place + b → NextFrom doc place (found 0 (length doc) (length doc))
  unfolding next_from first_of
  at_end h = record {
    right = λ v. sym (ap (first_of (length doc)) (cut_end doc place b v (g.right v) h));
    front = λ n v l. let c = (cut_length doc place n i v).0 in absurd (omega arith);
    forward = λ x _. absurd (x refl);
    later = λ _. i;
    ordered = omega arith;
    within = omega arith;
  }
