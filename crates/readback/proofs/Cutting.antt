-- How a list of printed parts, tokens and white space, is cut into tokens.
use mathlib.Core.Path.{◌≡◌, refl, sym, ap, ap₂, ◌∙◌}
use mathlib.Core.Bool.{Bool, true, false, ◌||◌}
use mathlib.Core.List.{List, [], ◌∷◌, ◌++◌, append_assoc}
use Prim.Native.Nat.{ℕ, ◌+◌, ◌-◌}
use native.Mathlib.Omega.{arith}
use native.Mathlib.Nat.{add-zero}
use lib.ListN.{length, take, drop, length-append}
use lib.Seq.{take_at, drop_at}
use Rattle.text.specs.Text.{Text, cond, is}
use Rattle.utf8.specs.Utf8.{width, encode, encodes}
use Rattle.utf8.proofs.Encoding.{length_encode}
use Rattle.utf8.specs.Scalar.{Scalars}
use Rattle.utf8.proofs.Decoding.{encodes_append, decode_encodes}
use Rattle.token.specs.Kind.{Kind, kind_code, kind_of_code}
use Rattle.token.specs.Regular.{Match, nothing, hit, size}
use Rattle.token.specs.Terminals.{token_at}
use Rattle.token.specs.Tokens.{Token, Lexeme, token, unreadable, between, comment, passed, white_space, trig_cuts, lexemes_from, lexemes, tokens_of, readable}
use Rattle.token.proofs.Cutting.{lexemes_inside}
use Rattle.token.proofs.KindCodes.{kind_back}

-- A token of a kind, or white space.
pub data Part : Type 0 where
  printed : Kind → List ℕ → Part
  gap : ℕ → Part

-- The code points of a part, and of parts.
abbrev pub points_of : Part → List ℕ
points_of (printed k cs) = cs
points_of (gap c) = c ∷ []

unfoldable pub points : List Part → List ℕ
points [] = []
points (p ∷ ps) = points_of p ++ points ps

unfoldable pub bytes : List Part → Text
bytes ps = encodes (points ps)

-- The tokens of the parts, where the first part begins at a place.
unfoldable pub tokens_at : ℕ → List Part → List Token
tokens_at at [] = []
tokens_at at (printed k cs ∷ ps) = record { kind = k; start = at; text = encodes cs } ∷ tokens_at (at + length (encodes cs)) ps
tokens_at at (gap c ∷ ps) = tokens_at (at + width c) ps

-- A token's first code point is no white space and opens no comment.
abbrev pub begins_token : List ℕ → Bool
begins_token [] = false
begins_token (c ∷ cs) = cond (white_space c || is "#" c) false true

-- Each token is the one at the front of what stands there, and what lies between tokens is white space.
abbrev pub Cut : List Part → Type 0
Cut [] = Unit {0}
Cut (printed k cs ∷ ps) = (begins_token cs ≡ true) × (token_at (cs ++ points ps) ≡ hit (kind_code k) (size width cs)) × Cut ps
Cut (gap c ∷ ps) = (white_space c ≡ true) × (is "#" c ≡ false) × (width c ≡ 1) × Cut ps

-- ---- Sizes

size_bytes : (cs : List ℕ) → size width cs ≡ length (encodes cs)
unfolding encodes
size_bytes [] = refl
size_bytes (c ∷ cs) = ap₂ ◌+◌ (sym (length_encode c)) (size_bytes cs) ∙ sym (length-append (encode c) (encodes cs))

-- ---- Between tokens

-- What stands at a place between tokens, by the tests of its first code point.
abbrev front_of : Text → ℕ → ℕ → List ℕ → Bool → Match → List Lexeme
front_of doc at c cs b o =
    elim b [
      | true ↦ lexemes_from trig_cuts doc (cond (is "#" c) comment between) (at + width c) cs
      | false ↦
          elim o [
            | nothing ↦ unreadable at ∷ []
            | hit k n ↦
                token (record { kind = kind_of_code k; start = at; text = take n (drop at doc) })
                ∷ lexemes_from trig_cuts doc (passed (n - width c)) (at + width c) cs
          ]
    ]

front_eq : (doc : Text) (at c : ℕ) (cs : List ℕ) → lexemes_from trig_cuts doc between at (c ∷ cs) ≡ front_of doc at c cs (white_space c || is "#" c) (token_at (c ∷ cs))
unfolding lexemes_from
front_eq doc at c cs = refl

over_gap : (doc : Text) (at c : ℕ) (cs : List ℕ) → white_space c ≡ true → is "#" c ≡ false
    → lexemes_from trig_cuts doc between at (c ∷ cs) ≡ lexemes_from trig_cuts doc between (at + width c) cs
over_gap doc at c cs w h =
    front_eq doc at c cs ∙ ap (λ (b : Bool). front_of doc at c cs (b || is "#" c) (token_at (c ∷ cs))) w
    ∙ ap (λ (b : Bool). lexemes_from trig_cuts doc (cond b comment between) (at + width c) cs) h

-- A token, and what is cut after it.
over_token : (doc : Text) (k : Kind) (at : ℕ) (cs ds : List ℕ) → begins_token cs ≡ true → token_at (cs ++ ds) ≡ hit (kind_code k) (size width cs)
    → lexemes_from trig_cuts doc between at (cs ++ ds)
    ≡ token (record { kind = k; start = at; text = take (size width cs) (drop at doc) }) ∷ lexemes_from trig_cuts doc between (at + size width cs) ds
over_token doc k at [] ds b e = let z : ◌≡◌ {A = ℕ} 0 1 = cc in absurd (omega arith)
over_token doc k at (c ∷ cs) ds b e =
    let m : width c + size width cs - width c ≡ size width cs = omega arith in
    let o : at + width c + size width cs ≡ at + (width c + size width cs) = omega arith in
    front_eq doc at c (cs ++ ds) ∙ ap (λ (v : Bool). front_of doc at c (cs ++ ds) v (token_at (c ∷ (cs ++ ds)))) (closed (white_space c || is "#" c) b)
    ∙ ap (front_of doc at c (cs ++ ds) false) e
    ∙ ap₂ (λ (j : Kind) (ls : List Lexeme). token (record { kind = j; start = at; text = take (width c + size width cs) (drop at doc) }) ∷ ls) (kind_back k)
    (ap (λ (n : ℕ). lexemes_from trig_cuts doc (passed n) (at + width c) (cs ++ ds)) m ∙ lexemes_inside trig_cuts doc cs ds (at + width c) (size width cs) refl
    ∙ ap (λ (n : ℕ). lexemes_from trig_cuts doc between n ds) o)
  where
    closed : (v : Bool) → cond v false true ≡ true → v ≡ false
    closed true e = sym e
    closed false e = refl

-- ---- The parts of a document

-- The tokens as what stands at their places.
abbrev as_lexemes : List Token → List Lexeme
as_lexemes [] = []
as_lexemes (t ∷ ts) = token t ∷ as_lexemes ts

-- The document's bytes from a place on are those of the parts.
module _ (doc : Text) where
  cut_from : (ps : List Part) (pre : Text) → Cut ps → doc ≡ pre ++ bytes ps → lexemes_from trig_cuts doc between (length pre) (points ps) ≡ as_lexemes (tokens_at (length pre) ps)
  unfolding points bytes tokens_at lexemes_from encodes
  cut_from [] pre c e = refl
  cut_from (printed k cs ∷ ps) pre c e =
      let d : doc ≡ pre ++ (encodes cs ++ encodes (points ps)) = e ∙ ap (λ (x : Text). pre ++ x) (encodes_append cs (points ps)) in
      let l : length (pre ++ encodes cs) ≡ length pre + length (encodes cs) = length-append pre (encodes cs) in
      let s = size_bytes cs in
      let t : take (size width cs) (drop (length pre) doc) ≡ encodes cs =
      ap (λ (x : Text). take (size width cs) (drop (length pre) x)) d
      ∙ ap (take (size width cs)) (drop_at pre (encodes cs ++ encodes (points ps)) (length pre) refl)
      ∙ take_at (encodes cs) (encodes (points ps)) (size width cs) (sym s) in
      let n : length pre + size width cs ≡ length (pre ++ encodes cs) = omega arith in
      over_token doc k (length pre) cs (points ps) c.0 c.1
      ∙ ap₂ (λ (x : Text) (ls : List Lexeme). token (record { kind = k; start = length pre; text = x }) ∷ ls) t
      (ap (λ (i : ℕ). lexemes_from trig_cuts doc between i (points ps)) n
      ∙ cut_from ps (pre ++ encodes cs) c.2 (d ∙ sym (append_assoc pre (encodes cs) (encodes (points ps))))
      ∙ ap (λ (i : ℕ). as_lexemes (tokens_at i ps)) l)
  cut_from (gap b ∷ ps) pre c e =
      let d : doc ≡ (pre ++ encode b) ++ encodes (points ps) = e ∙ sym (append_assoc pre (encode b) (encodes (points ps))) in
      let l : length (pre ++ encode b) ≡ length pre + width b = length-append pre (encode b) ∙ ap (λ (i : ℕ). length pre + i) (length_encode b) in
      over_gap doc (length pre) b (points ps) c.0 c.1
      ∙ ap (λ (i : ℕ). lexemes_from trig_cuts doc between i (points ps)) (sym l)
      ∙ cut_from ps (pre ++ encode b) c.3 d
      ∙ ap (λ (i : ℕ). as_lexemes (tokens_at i ps)) l

tokens_lexemes : (ts : List Token) → tokens_of (as_lexemes ts) ≡ ts
unfolding tokens_of
tokens_lexemes [] = refl
tokens_lexemes (t ∷ ts) = ap (λ (x : List Token). t ∷ x) (tokens_lexemes ts)

readable_lexemes : (ts : List Token) → readable (as_lexemes ts) ≡ true
unfolding readable
readable_lexemes [] = refl
readable_lexemes (t ∷ ts) = readable_lexemes ts

-- A document that is the bytes of its parts has their tokens, and no place where none can be read.
pub cut_whole : (ps : List Part) → Cut ps → Scalars (points ps) → (tokens_of (lexemes (bytes ps)) ≡ tokens_at 0 ps) × (readable (lexemes (bytes ps)) ≡ true)
unfolding lexemes bytes
cut_whole ps c s = (ap tokens_of e ∙ tokens_lexemes (tokens_at 0 ps), ap readable e ∙ readable_lexemes (tokens_at 0 ps))
  where
    e : lexemes (bytes ps) ≡ as_lexemes (tokens_at 0 ps)
    e = ap (lexemes_from trig_cuts (bytes ps) between 0) (decode_encodes (points ps) s) ∙ cut_from (bytes ps) ps [] c refl

-- ---- Parts in a row

points_append : (ps qs : List Part) → points (ps ++ qs) ≡ points ps ++ points qs
unfolding points
points_append [] qs = refl
points_append (p ∷ ps) qs = ap (λ (x : List ℕ). points_of p ++ x) (points_append ps qs) ∙ sym (append_assoc (points_of p) (points ps) (points qs))

pub bytes_append : (ps qs : List Part) → bytes (ps ++ qs) ≡ bytes ps ++ bytes qs
unfolding bytes
bytes_append ps qs = ap encodes (points_append ps qs) ∙ encodes_append (points ps) (points qs)

pub tokens_append : (ps qs : List Part) (at : ℕ) → tokens_at at (ps ++ qs) ≡ tokens_at at ps ++ tokens_at (at + length (bytes ps)) qs
unfolding tokens_at bytes points encodes
tokens_append [] qs at = ap (λ (n : ℕ). tokens_at n qs) (sym (add-zero at))
tokens_append (printed k cs ∷ ps) qs at =
    let l = ap length (encodes_append cs (points ps)) ∙ length-append (encodes cs) (encodes (points ps)) in
    let n : at + length (encodes cs) + length (encodes (points ps)) ≡ at + length (encodes (cs ++ points ps)) = omega arith in
    ap (λ (ts : List Token). record { kind = k; start = at; text = encodes cs } ∷ ts)
    (tokens_append ps qs (at + length (encodes cs)) ∙ ap (λ (i : ℕ). tokens_at (at + length (encodes cs)) ps ++ tokens_at i qs) n)
tokens_append (gap c ∷ ps) qs at =
    let l = length-append (encode c) (encodes (points ps)) in
    let w = length_encode c in
    let n : at + width c + length (encodes (points ps)) ≡ at + length (encode c ++ encodes (points ps)) = omega arith in
    tokens_append ps qs (at + width c) ∙ ap (λ (i : ℕ). tokens_at (at + width c) ps ++ tokens_at i qs) n
