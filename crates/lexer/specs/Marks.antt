-- The marks of one byte.
use Rattle.std.specs.Prelude.{Option, Some, None, ℕ}
use Rattle.text.specs.Text.{cond, is}
use Rattle.token.specs.Kind.{kind_code, comma, semicolon, open_bracket, close_bracket, open_paren, close_paren, open_brace, close_brace}

-- The code of the kind of a mark that begins no other token.
abbrev pub mark_code : ℕ → Option ℕ
mark_code b =
    cond (is "," b) (Some (kind_code comma))
    (cond (is ";" b) (Some (kind_code semicolon))
    (cond (is "[" b) (Some (kind_code open_bracket))
    (cond (is "]" b) (Some (kind_code close_bracket))
    (cond (is "(" b) (Some (kind_code open_paren))
    (cond (is ")" b) (Some (kind_code close_paren))
    (cond (is "{" b) (Some (kind_code open_brace))
    (cond (is "}" b) (Some (kind_code close_brace)) None)))))))
