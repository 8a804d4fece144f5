-- What is left of a document at a place between two tokens.
use Rattle.std.specs.Prelude.{List, ℕ, drop}
use Rattle.text.specs.Text.{Text}
use Rattle.utf8.specs.Utf8.{decode}
use Rattle.token.specs.Tokens.{Lexeme, between, trig_cuts, lexemes_from}

-- The tokens of the document from the place on.
unfoldable pub rest : Text → ℕ → List Lexeme
rest doc at = lexemes_from trig_cuts doc between at (decode (drop at doc))
