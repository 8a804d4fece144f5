-- Cutting a document into tokens.
use Rattle.std.specs.Prelude.{List, [], ◌∷◌, Bool, true, false, not, ◌||◌, ℕ, zero, suc, ◌+◌, ◌-◌, take, drop}
use Rattle.text.specs.Text.{Text, cond, is, one_of}
use Rattle.utf8.specs.Utf8.{width, decode, computing as utf8_computing}
use Rattle.token.specs.Kind.{Kind, kind_of_code, among}
use Rattle.token.specs.Regular.{Match, nothing, hit}
use Rattle.token.specs.Terminals.{token_at}

-- A token: its kind, the place of its first byte, and its bytes.
pub record Token : Type 0 where
  pub kind : Kind
  pub start : ℕ
  pub text : Text

abbrev pub has_kind : List Kind → Token → Bool
has_kind ks t = among ks t.kind

-- What stands at a place: a token, or nothing that can be read.
pub data Lexeme : Type 0 where
  token : Token → Lexeme
  unreadable : ℕ → Lexeme

-- Where the cutting is: between tokens, in a comment, or in a token that has so many bytes left.
pub data Cutting : Type 0 where
  between comment : Cutting
  inside : ℕ → Cutting

-- What a text is cut by: the token at the front of some code points, and the characters between tokens.
pub record Cuts : Type 0 where
  pub token_at : List ℕ → Match
  pub white_space : ℕ → Bool

-- [161s] WS ::= #x20 | #x9 | #xD | #xA
abbrev pub white_space : ℕ → Bool
white_space c = one_of " \t\r\n" c

abbrev pub trig_cuts : Cuts
trig_cuts = record { token_at = token_at; white_space = white_space }

-- 4.2: a comment goes to the end of line, "marked by characters U+000D or U+000A".
abbrev pub line_end : ℕ → Bool
line_end c = one_of "\r\n" c

-- Is the code point passed there, and no token looked for? A comment ends before the line end, which stands between tokens again.
abbrev pub is_passed : Cuts → Cutting → ℕ → Bool
is_passed cuts between c = cuts.white_space c || is "#" c
is_passed cuts comment c = not (line_end c) || cuts.white_space c
is_passed cuts (inside k) c = true

abbrev pub in_comment : ℕ → Cutting
in_comment c = cond (line_end c) between comment

-- Where the cutting is when a token has so many bytes left.
abbrev pub passed : ℕ → Cutting
passed zero = between
passed (suc k) = inside (suc k)

-- Where it is behind a code point that is passed.
abbrev pub behind : Cutting → ℕ → Cutting
behind between c = cond (is "#" c) comment between
behind comment c = in_comment c
behind (inside k) c = passed (k - width c)

-- The tokens of the document from the place `at` on, where these code points stand; up to the first place where none can be read.
unfoldable pub lexemes_from : Cuts → Text → Cutting → ℕ → List ℕ → List Lexeme
lexemes_from cuts doc state at [] = []
lexemes_from cuts doc state at (c ∷ cs) =
    elim (is_passed cuts state c) [
      | true ↦ lexemes_from cuts doc (behind state c) (at + width c) cs
      | false ↦
          elim (cuts.token_at (c ∷ cs)) [
            | nothing ↦ unreadable at ∷ []
            | hit k n ↦
                token (record { kind = kind_of_code k; start = at; text = take n (drop at doc) })
                ∷ lexemes_from cuts doc (passed (n - width c)) (at + width c) cs
          ]
    ]

unfoldable pub lexemes : Text → List Lexeme
lexemes doc = lexemes_from trig_cuts doc between 0 (decode doc)

-- The tokens, up to the first place where none can be read; whether there is no such place.
unfoldable pub tokens_of : List Lexeme → List Token
tokens_of [] = []
tokens_of (token t ∷ ls) = t ∷ tokens_of ls
tokens_of (unreadable p ∷ ls) = []

unfoldable pub readable : List Lexeme → Bool
readable [] = true
readable (token t ∷ ls) = readable ls
readable (unreadable p ∷ ls) = false

-- The place of token i, from 0 on; of the first unreadable place or of the document's end, n, where there are fewer.
unfoldable pub place_of : ℕ → List Lexeme → ℕ → ℕ
place_of n [] i = n
place_of n (unreadable p ∷ ls) i = p
place_of n (token t ∷ ls) zero = t.start
place_of n (token t ∷ ls) (suc i) = place_of n ls i

-- All that computes here; an example that is checked by evaluation names it.
unfoldable pub computing : ℕ
unfolding utf8_computing token_at lexemes_from lexemes tokens_of readable place_of
computing = 0
