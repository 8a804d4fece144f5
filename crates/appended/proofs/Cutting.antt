-- The tokens of a document that can be read to its end, and those of further text behind a line feed: both together have these and no others.
use mathlib.Core.Path.{◌≡◌, refl, sym, ap, ap₂, ◌∙◌, subst}
use mathlib.Core.Bool.{Bool, true, false, ◌||◌}
use mathlib.Core.Logic.{inl}
use mathlib.Core.List.{List, [], ◌∷◌, ◌++◌, map, append_assoc}
use Prim.Native.Nat.{ℕ, zero, suc, ◌+◌, ◌-◌, ◌≤◌, ◌<◌}
use native.Mathlib.Nat.{add-zero}
use native.Mathlib.Omega.{arith}
use lib.Dec.{T}
use lib.ListN.{length, take, drop, length-append, length-drop}
use lib.Seq.{take-append-le, drop-append-le, drop_at, drop-drop}
use Rattle.text.specs.Text.{Text, cond, is}
use Rattle.utf8.specs.Utf8.{width, decode}
use Rattle.utf8.specs.Scalar.{Encodes}
use Rattle.utf8.proofs.Tests.{by}
use Rattle.utf8.proofs.Decoding.{valid_encoded, encoded_valid, encodes_append, decode_encode}
use Rattle.token.specs.Kind.{kind_of_code}
use Rattle.token.specs.Regular.{Match, nothing, hit, size}
use Rattle.token.specs.Terminals.{token_at}
use Rattle.token.specs.Tokens.{Lexeme, token, Cutting, between, comment, inside, white_space, line_end, in_comment, passed, trig_cuts, lexemes_from, lexemes, readable}
use Rattle.token.proofs.Sizes.{length_encodes}
use Rattle.token.proofs.Cutting.{blank_width, cut_blank, cut_nothing, cut_hit, cut_comment}
use Rattle.readback.proofs.Texts.{Utf8, utf8_cons}
use Rattle.readback.proofs.Undone.{scalars_append}
use Rattle.appended.specs.Appended.{line_feed, with_text_added}
use Rattle.appended.specs.Parts.{moved}
use Rattle.appended.proofs.FirstToken.{same_token, token_within}

-- ---- The document's tokens

-- A part of a text is that part of a longer one.
part_more : (at n : ℕ) (s t : Text) → at + n ≤ length s → take n (drop at (s ++ t)) ≡ take n (drop at s)
part_more at n s t h = ap (take n) (drop-append-le at s t (omega arith)) ∙ take-append-le n (drop at s) t (omega (arith, length-drop at s))

-- A token that is being passed ends within the code points that are left.
abbrev Ends : Cutting → List ℕ → Type 0
Ends between cs = Unit {0}
Ends comment cs = Unit {0}
Ends (inside k) cs = (0 < k) × (k ≤ size width cs)

passed_ends : (k : ℕ) (cs : List ℕ) → k ≤ size width cs → Ends (passed k) cs
passed_ends zero cs h = tt
passed_ends (suc k) cs h = (omega arith, h)

either_ends : (b : Bool) (s t : Cutting) (cs : List ℕ) → Ends s cs → Ends t cs → Ends (cond b s t) cs
either_ends true s t cs x y = x
either_ends false s t cs x y = y

module _ (doc more : Text) (ds : List ℕ) where
  abbrev whole : Text
  whole = with_text_added doc more

  abbrev rest : List Lexeme
  rest = lexemes_from trig_cuts whole between (suc (length doc)) ds

  -- From here on stand the document's tokens, and what stands behind the line feed.
  abbrev Goes : Cutting → ℕ → List ℕ → Type 0
  Goes st at cs =
      at + size width cs ≡ length doc → Ends st cs → T (readable (lexemes_from trig_cuts doc st at cs)) → lexemes_from trig_cuts whole st at (cs ++ line_feed ∷ ds) ≡ lexemes_from trig_cuts doc st at cs ++ rest

  goes_blank : (at c : ℕ) (cs : List ℕ) → (white_space c || is "#" c) ≡ true → Goes (cond (is "#" c) comment between) (at + 1) cs → Goes between at (c ∷ cs)
  goes_blank at c cs e f h x r =
      let w = blank_width c e in
      cut_blank whole at c (cs ++ line_feed ∷ ds) e ∙ f (omega arith) (either_ends (is "#" c) comment between cs tt tt) (subst (λ (l : List Lexeme). T (readable l)) (cut_blank doc at c cs e) r)
      ∙ ap (λ (l : List Lexeme). l ++ rest) (sym (cut_blank doc at c cs e))

  goes_token : (at c : ℕ) (cs : List ℕ) → (white_space c || is "#" c) ≡ false → ((k : ℕ) → Goes (passed k) (at + width c) cs) → (m : Match) → token_at (c ∷ cs) ≡ m → Goes between at (c ∷ cs)
  unfolding readable
  goes_token at c cs e f nothing g h x r = absurd (subst (λ (l : List Lexeme). T (readable l)) (cut_nothing trig_cuts doc between at c cs e g) r)
  goes_token at c cs e f (hit k n) g h x r =
      let w = token_within (c ∷ cs) k n g in
      let p = f (n - width c) (omega arith) (passed_ends (n - width c) cs (omega arith)) (subst (λ (l : List Lexeme). T (readable l)) (cut_hit trig_cuts doc between at c cs e k n g) r) in
      let q : take n (drop at whole) ≡ take n (drop at doc) = part_more at n doc (line_feed ∷ more) (omega arith) in
      cut_hit trig_cuts whole between at c (cs ++ line_feed ∷ ds) e k n (same_token (c ∷ cs) ds k n g)
      ∙ ap₂ (λ (s : Text) (l : List Lexeme). token (record { kind = kind_of_code k; start = at; text = s }) ∷ l) q p
      ∙ ap (λ (l : List Lexeme). l ++ rest) (sym (cut_hit trig_cuts doc between at c cs e k n g))

  goes_end : (st : Cutting) (at : ℕ) → Goes st at []
  unfolding lexemes_from
  goes_end between at h x r = ap (λ (n : ℕ). lexemes_from trig_cuts whole between n ds) (let e : at + 1 ≡ suc (length doc) = omega arith in e)
  goes_end comment at h x r = ap (λ (n : ℕ). lexemes_from trig_cuts whole between n ds) (let e : at + 1 ≡ suc (length doc) = omega arith in e)
  goes_end (inside k) at h x r = absurd (omega (arith, x.0, x.1))

  goes_on : (c : ℕ) (cs : List ℕ) → ((st : Cutting) (at : ℕ) → Goes st at cs) → (st : Cutting) (at : ℕ) → Goes st at (c ∷ cs)
  unfolding lexemes_from
  goes_on c cs f comment at h x r =
      cut_comment whole at c (cs ++ line_feed ∷ ds)
      ∙ f (in_comment c) (at + width c) (omega arith) (either_ends (line_end c) between comment cs tt tt) (subst (λ (l : List Lexeme). T (readable l)) (cut_comment doc at c cs) r)
      ∙ ap (λ (l : List Lexeme). l ++ rest) (sym (cut_comment doc at c cs))
  goes_on c cs f (inside k) at h x r = let y = x.1 in f (passed (k - width c)) (at + width c) (omega arith) (passed_ends (k - width c) cs (omega arith)) r
  goes_on c cs f between at h x r =
      by (white_space c || is "#" c) (λ e. goes_blank at c cs e (f (cond (is "#" c) comment between) (at + 1)) h x r)
      (λ e. goes_token at c cs e (λ k. f (passed k) (at + width c)) (token_at (c ∷ cs)) refl h x r)

  goes : (cs : List ℕ) (st : Cutting) (at : ℕ) → Goes st at cs
  goes [] st at = goes_end st at
  goes (c ∷ cs) st at = goes_on c cs (λ st at. goes cs st at) st at

-- ---- The tokens behind: those of the text alone, each its place further on

module _ (pre s : Text) where
  abbrev n : ℕ
  n = length pre

  abbrev Moves : Cutting → ℕ → List ℕ → Type 0
  Moves st at cs = lexemes_from trig_cuts (pre ++ s) st (n + at) cs ≡ map (moved n) (lexemes_from trig_cuts s st at cs)

  further : (st : Cutting) (at w : ℕ) (cs : List ℕ) → Moves st (at + w) cs → lexemes_from trig_cuts (pre ++ s) st (n + at + w) cs ≡ map (moved n) (lexemes_from trig_cuts s st (at + w) cs)
  further st at w cs f = ap (λ (k : ℕ). lexemes_from trig_cuts (pre ++ s) st k cs) (let e : n + at + w ≡ n + (at + w) = omega arith in e) ∙ f

  moves_token : (at c : ℕ) (cs : List ℕ) → (white_space c || is "#" c) ≡ false → ((k : ℕ) → Moves (passed k) (at + width c) cs) → (m : Match) → token_at (c ∷ cs) ≡ m → Moves between at (c ∷ cs)
  moves_token at c cs e f nothing g = cut_nothing trig_cuts (pre ++ s) between (n + at) c cs e g ∙ ap (map (moved n)) (sym (cut_nothing trig_cuts s between at c cs e g))
  moves_token at c cs e f (hit k i) g =
      let q : take i (drop (n + at) (pre ++ s)) ≡ take i (drop at s) = ap (take i) (sym (drop-drop at n (pre ++ s)) ∙ ap (drop at) (drop_at pre s n refl)) in
      cut_hit trig_cuts (pre ++ s) between (n + at) c cs e k i g
      ∙ ap₂ (λ (t : Text) (l : List Lexeme). token (record { kind = kind_of_code k; start = n + at; text = t }) ∷ l) q (further (passed (i - width c)) at (width c) cs (f (i - width c)))
      ∙ ap (map (moved n)) (sym (cut_hit trig_cuts s between at c cs e k i g))

  moves : (cs : List ℕ) (st : Cutting) (at : ℕ) → Moves st at cs
  unfolding lexemes_from
  moves [] between at = refl
  moves [] comment at = refl
  moves [] (inside k) at = refl
  moves (c ∷ cs) comment at =
      cut_comment (pre ++ s) (n + at) c cs ∙ further (in_comment c) at (width c) cs (moves cs (in_comment c) (at + width c)) ∙ ap (map (moved n)) (sym (cut_comment s at c cs))
  moves (c ∷ cs) (inside k) at = further (passed (k - width c)) at (width c) cs (moves cs (passed (k - width c)) (at + width c))
  moves (c ∷ cs) between at = here c cs (λ st at. moves cs st at) at
    where
      here : (c : ℕ) (cs : List ℕ) → ((st : Cutting) (at : ℕ) → Moves st at cs) → (at : ℕ) → Moves between at (c ∷ cs)
      here c cs f at =
          by (white_space c || is "#" c)
          (λ e.
          cut_blank (pre ++ s) (n + at) c cs e ∙ further (cond (is "#" c) comment between) at 1 cs (f (cond (is "#" c) comment between) (at + 1))
          ∙ ap (map (moved n)) (sym (cut_blank s at c cs e)))
          (λ e. moves_token at c cs e (λ k. f (passed k) (at + width c)) (token_at (c ∷ cs)) refl)

-- ---- Both

module _ (doc more : Text) (u : Utf8 doc) (v : Utf8 more) where
  both_decoded : decode (with_text_added doc more) ≡ decode doc ++ line_feed ∷ decode more
  both_decoded =
      let a = valid_encoded doc u in
      let b = valid_encoded (line_feed ∷ more) (utf8_cons line_feed more (omega arith) v) in
      let c : Encodes (with_text_added doc more) (decode doc ++ decode (line_feed ∷ more)) =
      record {
        scalars = scalars_append (decode doc) (decode (line_feed ∷ more)) a.scalars b.scalars;
        bytes = ap₂ (λ (x y : Text). x ++ y) a.bytes b.bytes ∙ sym (encodes_append (decode doc) (decode (line_feed ∷ more)));
      } in
      (encoded_valid (with_text_added doc more) (decode doc ++ decode (line_feed ∷ more)) c).1
      ∙ ap (λ (l : List ℕ). decode doc ++ l) (decode_encode line_feed more (omega arith, inl (omega arith)))

  behind : lexemes_from trig_cuts (with_text_added doc more) between (suc (length doc)) (decode more) ≡ map (moved (suc (length doc))) (lexemes more)
  unfolding lexemes
  behind =
      let pre = doc ++ line_feed ∷ [] in
      let n : length pre ≡ suc (length doc) = length-append doc (line_feed ∷ []) ∙ omega arith in
      ap₂ (λ (t : Text) (k : ℕ). lexemes_from trig_cuts t between k (decode more)) (sym (append_assoc doc (line_feed ∷ []) more)) (sym (add-zero (length pre) ∙ n))
      ∙ moves pre more (decode more) between 0 ∙ ap (λ (k : ℕ). map (moved k) (lexemes_from trig_cuts more between 0 (decode more))) n

  -- The tokens of both are the document's, and then those of the further text, each its place further on.
  pub both_cut : T (readable (lexemes doc)) → lexemes (with_text_added doc more) ≡ lexemes doc ++ map (moved (suc (length doc))) (lexemes more)
  unfolding lexemes
  both_cut r =
      let a = valid_encoded doc u in
      let e : size width (decode doc) ≡ length doc = sym (length_encodes (decode doc)) ∙ ap length (sym a.bytes) in
      ap (lexemes_from trig_cuts (with_text_added doc more) between 0) both_decoded ∙ goes doc more (decode more) (decode doc) between 0 (omega arith) tt r
      ∙ ap (λ (l : List Lexeme). lexemes doc ++ l) behind
