-- The next token of a document from a place on (01-scope, "Cutting into tokens"): the reader "answers the next token and adds no rule".
use Rattle.std.specs.Prelude.{◌≡◌, List, [], ◌∷◌, ℕ, ◌+◌, ◌≤◌, ◌<◌, length, take, drop}
use Rattle.std.proofs.Math.Option.{none, some}
use Rattle.text.specs.Text.{Text}
use Rattle.utf8.specs.Utf8.{first_bad}
use Rattle.token.specs.Kind.{kind_code, end_kind, unreadable_kind}
use Rattle.token.specs.Tokens.{Lexeme, token, unreadable}
use Rattle.lexer.specs.Rest.{rest}
use Rattle.token_reader.specs.declared.TokenAt.{TokenAt}

abbrev pub found : ℕ → ℕ → ℕ → TokenAt
found kind start end = record { kind = kind; start = start; end = end }

-- The first of some tokens of a document of `size` bytes, or where none can be read, or the end.
unfoldable pub first_of : ℕ → List Lexeme → TokenAt
first_of size [] = found end_kind size size
first_of size (token t ∷ ls) = found (kind_code t.kind) t.start (t.start + length t.text)
first_of size (unreadable p ∷ ls) = found unreadable_kind p p

-- The first of the document's tokens from the place on.
unfoldable pub next_from : Text → ℕ → TokenAt
next_from doc place = first_of (length doc) (rest doc place)

-- What is answered at a place. Of bytes that are no UTF-8 the Recommendation has no tokens: where the first bad sequence begins, the
-- document is cut. Of an answer that reaches that sequence, only that it lies within the document, and not before the place, is known.
pub record NextFrom (doc : Text) (place : ℕ) (r : TokenAt) : Type 0 where
  -- All that is left is UTF-8: the next token.
  pub right : first_bad (drop place doc) ≡ none → r ≡ next_from doc place
  -- A bad sequence begins p bytes further on, behind what is answered and the byte behind that: the next token of what stands before it.
  pub front : (p : ℕ) → first_bad (drop place doc) ≡ some p → r.end < place + p → r ≡ next_from (take (place + p) doc) place
  -- A token has a byte, so that a loop over the tokens ends.
  pub forward : (r.kind ≡ end_kind → ⊥) → (r.kind ≡ unreadable_kind → ⊥) → r.start < r.end
  pub later : place ≤ length doc → place ≤ r.start
  pub ordered : r.start ≤ r.end
  pub within : r.end ≤ length doc
