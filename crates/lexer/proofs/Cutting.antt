-- Cutting a document: after its blanks and a token, what is left is what is left further on.
use Rattle.automaton.proofs.Runs.{start_nothing}
use mathlib.Core.Path.{◌≡◌, refl, subst, sym, ap, ap₂, ◌∙◌}
use mathlib.Core.Bool.{Bool, true, false, not, ◌||◌}
use mathlib.Core.List.{List, [], ◌∷◌, ◌++◌}
use mathlib.Core.Option.{none}
use Prim.Native.Nat.{ℕ, zero, suc, ◌+◌, ◌-◌, ◌≤◌, ◌<◌}
use native.Mathlib.Omega.{arith}
use native.Mathlib.Nat.{add-zero, add_assoc}
use borrow.Author.Tests.{leb-true}
use lib.Dec.{T, ltb, leb}
use lib.ListN.{length, take, drop, length-drop, drop_of_length-le}
use lib.Seq.{drop_at, drop-drop}
use Rattle.std.specs.Prelude.{Some, None}
use Rattle.text.specs.Text.{Text, cond, is}
use Rattle.utf8.specs.Utf8.{encodes, width, decode, first_bad}
use Rattle.utf8.specs.Scalar.{Scalars, Encodes}
use Rattle.utf8.proofs.Tests.{by}
use Rattle.utf8.proofs.Encoding.{width_pos}
use Rattle.utf8.proofs.Decoding.{valid_encoded, encoded_valid, encodes_append, scalars_right}
use Rattle.token.specs.Kind.{last_kind, kind_of_code}
use Rattle.token.specs.Regular.{Item, Match, nothing, hit, Longest, step, later, best, size}
use Rattle.token.specs.Terminals.{terminals, long_terminals, tripled, terminals_at, token_at}
use Rattle.token.specs.Tokens.{Lexeme, token, unreadable, Cutting, between, comment, white_space, line_end, passed, trig_cuts, lexemes_from}
use Rattle.token.proofs.Longest.{best_longest}
use Rattle.automaton.specs.Run.{tok, answer}
use Rattle.automaton.specs.declared.Token.{Token}
use Rattle.automaton.specs.declared.Next.{Next}
use Rattle.lexer_words.specs.Ahead.{Clear, NextAt}
use Rattle.token.proofs.Sizes.{length_encodes}
use Rattle.token.proofs.Cutting.{blank_width, cut_nothing, cut_hit, lexemes_inside, cut_blank, cut_comment}
use Rattle.lexer_words.proofs.Clearing.{clear_drop}
use Rattle.lexer_words.proofs.Muting.{Passes, best_passes}
use Rattle.lexer.specs.Blanks.{blanks, after_blanks, BlanksAt}
use Rattle.lexer.specs.Rest.{rest}

-- ---- Blanks

-- Where the cutting is: in a comment, or between tokens.
abbrev place : Bool → Cutting
place true = comment
place false = between

-- The code points of the blanks, and those after them.
record Parted (b : Bool) (cs : List ℕ) : Type 0 where
  front : List ℕ
  whole : cs ≡ front ++ after_blanks b cs
  sized : blanks b cs ≡ size width front

parted : (b : Bool) (cs : List ℕ) → Parted b cs
unfolding blanks after_blanks
parted true [] = record { front = []; whole = refl; sized = refl }
parted false [] = record { front = []; whole = refl; sized = refl }
parted true (c ∷ cs) =
    let r = parted (not (line_end c)) cs in
    record { front = c ∷ r.front; whole = ap (λ (x : List ℕ). c ∷ x) r.whole; sized = ap (λ (n : ℕ). width c + n) r.sized }
parted false (c ∷ cs) =
    let r = parted (is "#" c) cs in
    by (white_space c || is "#" c)
    (λ e.
    let w = blank_width c e in
    let z = r.sized in
    record {
      front = c ∷ r.front;
      whole = rw e (ap (λ (x : List ℕ). c ∷ x) r.whole);
      sized = rw e (let o : suc (blanks (is "#" c) cs) ≡ width c + size width r.front = omega arith in o);
    })
    (λ e. record { front = []; whole = rw e; sized = rw e })

-- The clauses of the blanks.
module _ (c : ℕ) (cs : List ℕ) where
  blank_on : (white_space c || is "#" c) ≡ true → (blanks false (c ∷ cs) ≡ suc (blanks (is "#" c) cs)) × (after_blanks false (c ∷ cs) ≡ after_blanks (is "#" c) cs)
  unfolding blanks after_blanks
  blank_on e = (rw e, rw e)

  blank_off : (white_space c || is "#" c) ≡ false → (blanks false (c ∷ cs) ≡ 0) × (after_blanks false (c ∷ cs) ≡ c ∷ cs)
  unfolding blanks after_blanks
  blank_off e = (rw e, rw e)

lexemes_blanks : (doc : Text) (b : Bool) (cs : List ℕ) (at : ℕ)
    → lexemes_from trig_cuts doc (place b) at cs ≡ lexemes_from trig_cuts doc between (at + blanks b cs) (after_blanks b cs)
unfolding lexemes_from blanks after_blanks
lexemes_blanks doc true [] at = refl
lexemes_blanks doc false [] at = refl
lexemes_blanks doc true (c ∷ cs) at =
    cut_comment doc at c cs ∙ ap (λ (p : Cutting). lexemes_from trig_cuts doc p (at + width c) cs) (same_place (line_end c))
    ∙ lexemes_blanks doc (not (line_end c)) cs (at + width c)
    ∙ ap (λ (n : ℕ). lexemes_from trig_cuts doc between n (after_blanks (not (line_end c)) cs)) (add_assoc at (width c) (blanks (not (line_end c)) cs))
  where
    same_place : (v : Bool) → cond v between comment ≡ place (not v)
    same_place true = refl
    same_place false = refl
lexemes_blanks doc false (c ∷ cs) at = go (lexemes_blanks doc (is "#" c) cs (at + 1))
  where
    same_place : (v : Bool) → cond v comment between ≡ place v
    same_place true = refl
    same_place false = refl

    go : lexemes_from trig_cuts doc (place (is "#" c)) (at + 1) cs ≡ lexemes_from trig_cuts doc between (at + 1 + blanks (is "#" c) cs) (after_blanks (is "#" c) cs)
        → lexemes_from trig_cuts doc between at (c ∷ cs) ≡ lexemes_from trig_cuts doc between (at + blanks false (c ∷ cs)) (after_blanks false (c ∷ cs))
    go ih =
        by (white_space c || is "#" c)
        (λ e.
        let z : at + 1 + blanks (is "#" c) cs ≡ at + suc (blanks (is "#" c) cs) = omega arith in
        cut_blank doc at c cs e ∙ ap (λ (p : Cutting). lexemes_from trig_cuts doc p (at + 1) cs) (same_place (is "#" c)) ∙ ih
        ∙ ap (λ (n : ℕ). lexemes_from trig_cuts doc between n (after_blanks (is "#" c) cs)) z
        ∙ sym (ap₂ (λ (n : ℕ) (x : List ℕ). lexemes_from trig_cuts doc between (at + n) x) (blank_on c cs e).0 (blank_on c cs e).1))
        (λ e. sym (ap₂ (λ (n : ℕ) (x : List ℕ). lexemes_from trig_cuts doc between n x) (ap (λ (n : ℕ). at + n) (blank_off c cs e).0 ∙ add-zero at) (blank_off c cs e).1))

-- What comes after the blanks is no blank.
no_blank : (b : Bool) (cs : List ℕ) (c : ℕ) (ds : List ℕ) → after_blanks b cs ≡ c ∷ ds → (white_space c || is "#" c) ≡ false
unfolding after_blanks
no_blank true [] c ds e = let z : ◌≡◌ {A = ℕ} 0 1 = cc in absurd (omega arith)
no_blank false [] c ds e = let z : ◌≡◌ {A = ℕ} 0 1 = cc in absurd (omega arith)
no_blank true (x ∷ cs) c ds e = no_blank (not (line_end x)) cs c ds e
no_blank false (x ∷ cs) c ds e =
    by (white_space x || is "#" x) (λ f. no_blank (is "#" x) cs c ds (rw f at e))
    (λ f. let z : x ≡ c = (let g : x ∷ cs ≡ c ∷ ds = rw f at e in cc) in subst (λ (y : ℕ). (white_space y || is "#" y) ≡ false) z f)

-- ---- Tokens

-- A token takes its first code point, and so many bytes more.
record Taken (c : ℕ) (cs : List ℕ) (k n : ℕ) : Type 0 where
  front : List ℕ
  back : List ℕ
  whole : cs ≡ front ++ back
  bytes : n ≡ width c + size width front

taken : (c : ℕ) (cs : List ℕ) (k n : ℕ) → token_at (c ∷ cs) ≡ hit k n → Taken c cs k n
unfolding token_at
taken c cs k n e =
    let S = terminals_at (c ∷ cs) in
    go S (best width (step c S) cs) (best_longest width (step c S) cs)
    (sym (ap (later (width c) (best width (step c S) cs)) (start_nothing (tripled (c ∷ cs)))) ∙ e)
  where
    go : (S : List Item) (m : Match) → Longest width (step c S) cs m → later (width c) m nothing ≡ hit k n → Taken c cs k n
    go S nothing l e = let z : ◌≡◌ {A = ℕ} 0 1 = cc in absurd (omega arith)
    go S (hit j x) l e =
        let z : width c + x ≡ n = cc in
        let b = l.bytes in
        record { front = l.front; back = l.back; whole = l.whole; bytes = sym z ∙ ap (λ (y : ℕ). width c + y) b }

-- No token is of the kind 0.
pub some_kind : (cs : List ℕ) (n : ℕ) → token_at cs ≡ hit 0 n → ⊥
unfolding token_at
some_kind cs n e =
    by (tripled cs)
    (λ f. fin (best width long_terminals cs) (best_passes (ltb 0) cs long_terminals tt) (rw f at e))
    (λ f. fin (best width terminals cs) (best_passes (ltb 0) cs terminals tt) (rw f at e))
  where
    fin : (m : Match) → Passes (ltb 0) m → m ≡ hit 0 n → ⊥
    fin nothing u e = let z : ◌≡◌ {A = ℕ} 0 1 = cc in omega arith
    fin (hit zero x) u e = subst T (sym u) tt
    fin (hit (suc k) x) u e = let z : suc k ≡ 0 = cc in omega arith

-- The kinds have the numbers up to the last.
few_kinds : (cs : List ℕ) (k n : ℕ) → token_at cs ≡ hit k n → k ≤ last_kind
unfolding token_at
few_kinds cs k n e =
    by (tripled cs)
    (λ f. fin (best width long_terminals cs) (best_passes (λ j. leb j last_kind) cs long_terminals tt) (rw f at e))
    (λ f. fin (best width terminals cs) (best_passes (λ j. leb j last_kind) cs terminals tt) (rw f at e))
  where
    fin : (m : Match) → Passes (λ j. leb j last_kind) m → m ≡ hit k n → k ≤ last_kind
    fin nothing u e = let z : ◌≡◌ {A = ℕ} 0 1 = cc in absurd (omega arith)
    fin (hit j x) u e = let z : j ≡ k = cc in subst (λ i. i ≤ last_kind) z (leb-true j last_kind u)

empty_none : (k n : ℕ) → token_at [] ≡ hit k n → ⊥
unfolding token_at
empty_none k n e = let z : ◌≡◌ {A = ℕ} 0 1 = cc in omega arith

-- What was answered is what matched.
none_of : (m : Match) → None ≡ answer m → m ≡ nothing
none_of nothing e = refl
none_of (hit k n) e = let z : ◌≡◌ {A = ℕ} 0 1 = cc in absurd (omega arith)

hit_of : (m : Match) (k n : ℕ) → Some (tok k n) ≡ answer m → m ≡ hit k n
hit_of nothing k n e = let z : ◌≡◌ {A = ℕ} 0 1 = cc in absurd (omega arith)
hit_of (hit j x) k n e = let t : tok k n ≡ tok j x = cc in ap₂ hit (ap (λ (t : Token). t.kind) (sym t)) (ap (λ (t : Token). t.len) (sym t))

-- ---- The law, in bytes

module _ (doc : Text) (at b : ℕ) (v : first_bad (drop at doc) ≡ none) (e : b ≡ blanks false (decode (drop at doc))) where
  abbrev text : List ℕ
  text = decode (drop at doc)

  -- The code points after the blanks.
  left : Encodes (drop (at + b) doc) (after_blanks false text)
  left =
      let g = valid_encoded (drop at doc) v in
      let p = parted false text in
      record {
        scalars = scalars_right p.front (after_blanks false text) (subst Scalars p.whole g.scalars);
        bytes =
            sym (drop-drop b at doc) ∙ ap (drop b) (g.bytes ∙ ap encodes p.whole ∙ encodes_append p.front (after_blanks false text))
            ∙ drop_at (encodes p.front) (encodes (after_blanks false text)) b (length_encodes p.front ∙ sym (e ∙ p.sized));
      }

  pub blanks_valid : first_bad (drop (at + b) doc) ≡ none
  blanks_valid = (encoded_valid (drop (at + b) doc) (after_blanks false text) left).0

  pub blanks_text : decode (drop (at + b) doc) ≡ after_blanks false text
  blanks_text = (encoded_valid (drop (at + b) doc) (after_blanks false text) left).1

  -- Blanks change nothing of what is known ahead.
  blanks_clear : (n : ℕ) → Clear (drop at doc) n → Clear (drop (at + b) doc) (n - b)
  blanks_clear n c =
      let p = parted false text in
      subst (λ (x : Text). Clear x (n - b)) (drop-drop b at doc)
      (clear_drop (drop at doc) n b p.front (after_blanks false text) v c p.whole (e ∙ p.sized) (ap decode (drop-drop b at doc) ∙ blanks_text))

  rest_blanks : rest doc at ≡ lexemes_from trig_cuts doc between (at + b) (after_blanks false text)
  unfolding rest
  rest_blanks = lexemes_blanks doc false text at ∙ ap (λ (n : ℕ). lexemes_from trig_cuts doc between (at + n) (after_blanks false text)) (sym e)

  -- At the end of the document.
  pub cut_end : length doc ≤ at + b → rest doc at ≡ []
  unfolding lexemes_from encodes
  cut_end h = rest_blanks ∙ fin (after_blanks false text) (sym left.bytes ∙ drop_of_length-le doc {i = at + b} h)
    where
      fin : (cs : List ℕ) → encodes cs ≡ [] → lexemes_from trig_cuts doc between (at + b) cs ≡ []
      fin [] z = refl
      fin (c ∷ cs) z =
          let l = length_encodes (c ∷ cs) in
          let m = ap length z in
          let w = width_pos c in
          absurd (omega arith)

  -- No token can be read.
  pub cut_none : None ≡ answer (token_at (decode (drop (at + b) doc))) → at + b < length doc → rest doc at ≡ unreadable (at + b) ∷ []
  unfolding encodes
  cut_none f h = rest_blanks ∙ fin (after_blanks false text) refl (f ∙ ap (λ (x : List ℕ). answer (token_at x)) blanks_text)
    where
      fin : (cs : List ℕ) → after_blanks false text ≡ cs → None ≡ answer (token_at cs) → lexemes_from trig_cuts doc between (at + b) cs ≡ unreadable (at + b) ∷ []
      fin [] g w = let l = sym (length-drop (at + b) doc) ∙ ap length (left.bytes ∙ ap encodes g) in absurd (omega arith)
      fin (c ∷ cs) g w = cut_nothing trig_cuts doc between (at + b) c cs (no_blank false text c cs g) (none_of (token_at (c ∷ cs)) w)

  module _ (k n : ℕ) (f : Some (tok k n) ≡ answer (token_at (decode (drop (at + b) doc)))) where
    -- A token.
    abbrev pub CutToken : Type 0
    CutToken =
        (rest doc at ≡ token (record { kind = kind_of_code k; start = at + b; text = take n (drop (at + b) doc) }) ∷ rest doc (at + b + n))
        × ((first_bad (drop (at + b + n) doc) ≡ none) × ((k ≤ last_kind) × (0 < n)))

    cut_some : (c : ℕ) (cs : List ℕ) → after_blanks false text ≡ c ∷ cs → token_at (c ∷ cs) ≡ hit k n → CutToken
    unfolding rest encodes
    cut_some c cs g u =
        let t = taken c cs k n u in
        let o = t.bytes in
        let d : drop (at + b + n) doc ≡ encodes t.back =
        sym (drop-drop n (at + b) doc)
        ∙ ap (drop n) (left.bytes ∙ ap encodes (g ∙ ap (λ (x : List ℕ). c ∷ x) t.whole) ∙ encodes_append (c ∷ t.front) t.back)
        ∙ drop_at (encodes (c ∷ t.front)) (encodes t.back) n (length_encodes (c ∷ t.front) ∙ sym o) in
        let sc : Scalars t.back = scalars_right (c ∷ t.front) t.back (subst Scalars (g ∙ ap (λ (x : List ℕ). c ∷ x) t.whole) left.scalars) in
        let q = encoded_valid (drop (at + b + n) doc) t.back (record { scalars = sc; bytes = d }) in
        let z : at + b + width c + (n - width c) ≡ at + b + n = omega arith in
        let l : lexemes_from trig_cuts doc (passed (n - width c)) (at + b + width c) cs ≡ lexemes_from trig_cuts doc between (at + b + n) (decode (drop (at + b + n) doc)) =
        ap (lexemes_from trig_cuts doc (passed (n - width c)) (at + b + width c)) t.whole
        ∙ lexemes_inside trig_cuts doc t.front t.back (at + b + width c) (n - width c) (omega arith)
        ∙ ap₂ (λ (i : ℕ) (x : List ℕ). lexemes_from trig_cuts doc between i x) z (sym q.1) in (
          rest_blanks ∙ ap (lexemes_from trig_cuts doc between (at + b)) g ∙ cut_hit trig_cuts doc between (at + b) c cs (no_blank false text c cs g) k n u
              ∙ ap (λ (x : List Lexeme). token (record { kind = kind_of_code k; start = at + b; text = take n (drop (at + b) doc) }) ∷ x) l,
          (q.0, (few_kinds (c ∷ cs) k n u, let w = width_pos c in omega arith)),
        )

    pub cut_token : CutToken
    cut_token = fin (after_blanks false text) refl (hit_of (token_at (after_blanks false text)) k n (f ∙ ap (λ (x : List ℕ). answer (token_at x)) blanks_text))
      where
        fin : (cs : List ℕ) → after_blanks false text ≡ cs → token_at (after_blanks false text) ≡ hit k n → CutToken
        fin [] g w = absurd (empty_none k n (sym (ap token_at g) ∙ w))
        fin (c ∷ cs) g w = cut_some c cs g (sym (ap token_at g) ∙ w)

-- A token is of some kind.
pub token_kind : (cs : List ℕ) (k n : ℕ) → Some (tok k n) ≡ answer (token_at cs) → k ≡ 0 → ⊥
token_kind cs k n e z = some_kind cs n (hit_of (token_at cs) k n e ∙ ap (λ (i : ℕ). hit i n) z)

-- ---- What a reader does at a place: the blanks, and the token after them

-- A token was read: it is the first of the tokens left, and what follows it may be read in the same way.
pub record Cut (doc : Text) (at b : ℕ) (r : Next) : Type 0 where
  pub tokens : rest doc at ≡ token (record { kind = kind_of_code r.token.kind; start = at + b; text = take r.token.len (drop (at + b) doc) }) ∷ rest doc (at + b + r.token.len)
  pub valid : first_bad (drop (at + b + r.token.len) doc) ≡ none
  pub here_valid : first_bad (drop (at + b) doc) ≡ none
  pub matched : token_at (decode (drop (at + b) doc)) ≡ hit r.token.kind r.token.len
  pub some_kind : r.token.kind ≡ 0 → ⊥
  pub known : r.token.kind ≤ last_kind
  pub some_byte : 0 < r.token.len
  pub clear : Clear (drop (at + b + r.token.len) doc) r.clear

module _ (doc : Text) (at b clear : ℕ) (v : first_bad (drop at doc) ≡ none) (c : Clear (drop at doc) clear) (g : BlanksAt (drop at doc) b) where
  pub read_token : (r : Next) → NextAt (drop (at + b) doc) (clear - b) (Some r) → Cut doc at b r
  read_token r m =
      let right : Some r.token ≡ answer (token_at (decode (drop (at + b) doc))) = m.right (blanks_valid doc at b v (g.right v)) (blanks_clear doc at b v (g.right v) clear c) in
      let t = cut_token doc at b v (g.right v) r.token.kind r.token.len right in
      record {
        tokens = t.0;
        valid = t.1.0;
        here_valid = blanks_valid doc at b v (g.right v);
        matched = hit_of (token_at (decode (drop (at + b) doc))) r.token.kind r.token.len right;
        some_kind = token_kind (decode (drop (at + b) doc)) r.token.kind r.token.len right;
        known = t.1.1.0;
        some_byte = t.1.1.1;
        clear =
            subst (λ (x : Text). Clear x r.clear) (drop-drop r.token.len (at + b) doc)
            (m.ahead (blanks_valid doc at b v (g.right v)) (blanks_clear doc at b v (g.right v) clear c));
      }

  pub read_nothing : NextAt (drop (at + b) doc) (clear - b) None → at + b < length doc → rest doc at ≡ unreadable (at + b) ∷ []
  read_nothing m h =
      cut_none doc at b v (g.right v) (m.right (blanks_valid doc at b v (g.right v)) (blanks_clear doc at b v (g.right v) clear c)) h

  pub read_end : length doc ≤ at + b → rest doc at ≡ []
  read_end h = cut_end doc at b v (g.right v) h
