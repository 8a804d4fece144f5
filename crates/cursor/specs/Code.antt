-- What the code does to the cursor's words.
use Rattle.std.specs.Prelude.{List, ℕ, ltb, set}
use Rattle.text.specs.Text.{cond}
use Rattle.token.specs.Kind.{end_kind, unreadable_kind}
use Rattle.state.specs.Words.{kind_word, at_word, len_word, clear_word}

unfoldable pub put_token : List ℕ → ℕ → ℕ → ℕ → ℕ → List ℕ
put_token st kind at len clear = set (set (set (set st kind_word kind) at_word at) len_word len) clear_word clear

-- The kind of a place where no token is read: none can be, or the document ends.
unfoldable pub kind_of_none : ℕ → ℕ → ℕ
kind_of_none at size = cond (ltb at size) unreadable_kind end_kind
