-- The token at the cursor.
use Rattle.std.specs.Prelude.{◌≡◌, List, [], ◌∷◌, ◌⊎◌, ℕ, ◌+◌, ◌≤◌, ◌<◌, eqb, length, get_or, take, drop}
use Rattle.std.proofs.Math.Option.{none}
use Rattle.text.specs.Text.{Text, cond}
use Rattle.limits.specs.Limits.{document_limit}
use Rattle.utf8.specs.Utf8.{decode, first_bad}
use Rattle.token.specs.Kind.{kind_of_code, last_kind, end_kind, unreadable_kind}
use Rattle.token.specs.Regular.{hit}
use Rattle.token.specs.Terminals.{token_at}
use Rattle.token.specs.Tokens.{Token, Lexeme, token, unreadable}
use Rattle.lexer.specs.Rest.{rest}
use Rattle.lexer_words.specs.Ahead.{Clear}
use Rattle.state.specs.Words.{kind_word, clear_word, kind_in, at_in, len_in}

-- The document's token of this kind, place and length.
abbrev pub token_of : Text → ℕ → ℕ → ℕ → Token
token_of doc kind at len = record { kind = kind_of_code kind; start = at; text = take len (drop at doc) }

-- The tokens from the cursor on, where it holds a token of this kind, or the end, or a place where none can be read.
unfoldable pub ahead : Text → ℕ → ℕ → ℕ → List Lexeme
ahead doc kind at len =
    cond (eqb kind end_kind) []
    (cond (eqb kind unreadable_kind) (unreadable at ∷ []) (token (token_of doc kind at len) ∷ rest doc (at + len)))

-- There is a token at the cursor.
pub record TokenHere (doc : Text) (st : List ℕ) : Type 0 where
  pub known : kind_in st ≤ last_kind
  pub some_byte : 0 < len_in st
  pub here_valid : first_bad (drop (at_in st) doc) ≡ none
  pub matched : token_at (decode (drop (at_in st) doc)) ≡ hit (kind_in st) (len_in st)
  pub valid : first_bad (drop (at_in st + len_in st) doc) ≡ none
  pub clear : Clear (drop (at_in st + len_in st) doc) (get_or st clear_word 0)

-- The words hold the token at the cursor. What comes behind it can be read in the same way.
pub record Cursor (doc : Text) (st : List ℕ) : Type 0 where
  pub size : length doc ≤ document_limit
  pub inside : at_in st + len_in st ≤ length doc
  pub at_end : kind_in st ≡ end_kind → at_in st ≡ length doc
  pub token : (kind_in st ≡ end_kind → ⊥) → (kind_in st ≡ unreadable_kind → ⊥) → TokenHere doc st

-- The tokens from the cursor on.
abbrev pub remaining : Text → List ℕ → List Lexeme
remaining doc st = ahead doc (kind_in st) (at_in st) (len_in st)

-- What moving the cursor leaves alone.
abbrev pub StaysBeside : List ℕ → List ℕ → Type 0
StaysBeside st st' = (k : ℕ) → (k < kind_word) ⊎ (clear_word < k) → get_or st' k 0 ≡ get_or st k 0

-- The cursor has gone to the first token from a place on.
pub record Sought (doc : Text) (at : ℕ) (st st' : List ℕ) : Type 0 where
  pub cursor : Cursor doc st'
  pub tokens : rest doc at ≡ remaining doc st'
  pub later : at ≤ at_in st'
  pub beside : StaysBeside st st'
  pub words : length st' ≡ length st
