-- The terminals at the bounds of their sets, the longest match, and documents cut into tokens, by computing.
use mathlib.Core.Path.{refl}
use mathlib.Core.Bool.{Bool, true, false, not, ◌&&◌}
use mathlib.Core.List.{List, [], ◌∷◌, ◌++◌, map}
use Prim.Native.Nat.{ℕ, zero, suc, pred}
use Prim.Native.String.{String}
use lib.Dec.{eqb}
use lib.ListN.{length}
use Rattle.text.specs.Text.{ascii, cond, one_of}
use Rattle.text.proofs.Table.{◌⇒◌, Gives}
use Rattle.utf8.specs.Utf8.{width, encodes, decode, Range, ◌–◌}
use Rattle.token.specs.Kind.{Kind, kind_code, kind_of_code, IRIREF, PNAME_NS, PNAME_LN, BLANK_NODE_LABEL, at_prefix, at_base, LANGTAG, INTEGER, DECIMAL, DOUBLE, STRING_LITERAL_QUOTE, STRING_LITERAL_SINGLE_QUOTE, kw_a, kw_true, kw_false, PREFIX, BASE, GRAPH, dot, comma, semicolon, open_bracket, close_bracket, open_paren, close_paren, open_brace, close_brace, carets, STRING_LITERAL_LONG_QUOTE, STRING_LITERAL_LONG_SINGLE_QUOTE}
use Rattle.token.specs.Regular.{size, Match, nothing, hit}
use Rattle.token.specs.Terminals.{token_at}
use Rattle.token.specs.Tokens.{Lexeme, token, unreadable, between, white_space, line_end, lexemes_from, lexemes, computing}

-- ---- Sets of characters

-- Is the text, as a whole, a token of this kind?
abbrev matches : Kind → Match → ℕ → Bool
matches k nothing n = false
matches k (hit j m) n = eqb j (kind_code k) && eqb m n

abbrev whole : Kind → List ℕ → Bool
whole k cs = matches k (token_at cs) (size width cs)

-- Is it one with the character c between these?
abbrev with : Kind → String → String → ℕ → Bool
with k before behind c = whole k (ascii before ++ c ∷ ascii behind)

-- The characters from c on, n of them, that pass the test.
abbrev chosen : (ℕ → Bool) → ℕ → ℕ → List ℕ
chosen p zero c = []
chosen p (suc n) c = let r = chosen p n (suc c) in cond (p c) (c ∷ r) r

abbrev chosen_ascii : (ℕ → Bool) → List ℕ
chosen_ascii p = chosen p 128 0

abbrev digits : List ℕ
digits = ascii "0123456789"

abbrev capitals : List ℕ
capitals = ascii "ABCDEFGHIJKLMNOPQRSTUVWXYZ"

abbrev smalls : List ℕ
smalls = ascii "abcdefghijklmnopqrstuvwxyz"

abbrev hex : List ℕ
hex = digits ++ ascii "ABCDEFabcdef"

-- The characters below 128 that each place of a terminal takes.
ascii_sets : Gives chosen_ascii (
    -- IRIREF, and the hex digits of UCHAR
    with IRIREF "<" ">" ⇒ (ascii "!#$%&'()*+,-./" ++ digits ++ ascii ":;=?@" ++ capitals ++ ascii "[]_" ++ smalls ++ ascii "~\u{7f}")
    ∷ with IRIREF "<\\u" "000>" ⇒ hex
    ∷ with IRIREF "<\\u000" ">" ⇒ hex
    ∷ with IRIREF "<\\U" "0000000>" ⇒ hex
    ∷ with IRIREF "<\\U0000000" ">" ⇒ hex
    ∷ with IRIREF "<\\" "00000000>" ⇒ ascii "Uu"
    -- PN_PREFIX: its first character, one in the middle, and its last
    ∷ with PNAME_NS "" ":" ⇒ (capitals ++ smalls)
    ∷ with PNAME_NS "m" "m:" ⇒ (ascii "-." ++ digits ++ capitals ++ ascii "_" ++ smalls)
    ∷ with PNAME_NS "m" ":" ⇒ (ascii "-" ++ digits ++ capitals ++ ascii "_" ++ smalls)
    -- PN_LOCAL
    ∷ with PNAME_LN "m:" "" ⇒ (digits ++ ascii ":" ++ capitals ++ ascii "_" ++ smalls)
    ∷ with PNAME_LN "m:a" "a" ⇒ (ascii "-." ++ digits ++ ascii ":" ++ capitals ++ ascii "_" ++ smalls)
    ∷ with PNAME_LN "m:a" "" ⇒ (ascii "-" ++ digits ++ ascii ":" ++ capitals ++ ascii "_" ++ smalls)
    ∷ with PNAME_LN "m:\\" "" ⇒ ascii "!#$%&'()*+,-./;=?@_~"
    ∷ with PNAME_LN "m:%" "0" ⇒ hex
    ∷ with PNAME_LN "m:%0" "" ⇒ hex
    -- BLANK_NODE_LABEL
    ∷ with BLANK_NODE_LABEL "_:" "" ⇒ (digits ++ capitals ++ ascii "_" ++ smalls)
    ∷ with BLANK_NODE_LABEL "_:a" "a" ⇒ (ascii "-." ++ digits ++ capitals ++ ascii "_" ++ smalls)
    ∷ with BLANK_NODE_LABEL "_:a" "" ⇒ (ascii "-" ++ digits ++ capitals ++ ascii "_" ++ smalls)
    -- LANGTAG
    ∷ with LANGTAG "@" "" ⇒ (capitals ++ smalls)
    ∷ with LANGTAG "@a" "" ⇒ (capitals ++ smalls)
    ∷ with LANGTAG "@a" "1" ⇒ ascii "-"
    ∷ with LANGTAG "@a-" "" ⇒ (digits ++ capitals ++ smalls)
    ∷ with LANGTAG "@a-1" "1" ⇒ (ascii "-" ++ digits ++ capitals ++ smalls)
    -- Numbers
    ∷ with INTEGER "" "" ⇒ digits
    ∷ with INTEGER "" "1" ⇒ (ascii "+-" ++ digits)
    ∷ with DECIMAL "" ".1" ⇒ (ascii "+-" ++ digits)
    ∷ with DECIMAL "1." "" ⇒ digits
    ∷ with DOUBLE "1" "1" ⇒ ascii "Ee"
    ∷ with DOUBLE "1." "1" ⇒ ascii "Ee"
    ∷ with DOUBLE ".1" "1" ⇒ ascii "Ee"
    ∷ with DOUBLE "1e" "1" ⇒ (ascii "+-" ++ digits)
    -- Keywords: in exact case, and in any case
    ∷ with kw_a "" "" ⇒ ascii "a"
    ∷ with kw_true "tru" "" ⇒ ascii "e"
    ∷ with kw_false "" "alse" ⇒ ascii "f"
    ∷ with at_prefix "@" "refix" ⇒ ascii "p"
    ∷ with at_base "@bas" "" ⇒ ascii "e"
    ∷ with PREFIX "" "refix" ⇒ ascii "Pp"
    ∷ with BASE "BA" "E" ⇒ ascii "Ss"
    ∷ with GRAPH "grap" "" ⇒ ascii "Hh"
    -- ECHAR
    ∷ with STRING_LITERAL_QUOTE "\"\\" "\"" ⇒ ascii "\"'\\bfnrt"
    ∷ with STRING_LITERAL_SINGLE_QUOTE "'\\" "'" ⇒ ascii "\"'\\bfnrt"
    ∷ with STRING_LITERAL_LONG_QUOTE "\"\"\"\\" "\"\"\"" ⇒ ascii "\"'\\bfnrt"
    ∷ with STRING_LITERAL_LONG_SINGLE_QUOTE "'''\\" "'''" ⇒ ascii "\"'\\bfnrt"
    -- WS, and the ends of a comment
    ∷ white_space ⇒ ascii "\t\n\r "
    ∷ line_end ⇒ ascii "\n\r"
    ∷ [])
unfolding computing
ascii_sets = refl

-- Those that a string does not take.
ascii_not_taken : Gives (λ takes. chosen_ascii (λ c. not (takes c))) (
    with STRING_LITERAL_QUOTE "\"" "\"" ⇒ ascii "\n\r\"\\"
    ∷ with STRING_LITERAL_SINGLE_QUOTE "'" "'" ⇒ ascii "\n\r'\\"
    ∷ with STRING_LITERAL_LONG_QUOTE "\"\"\"" "\"\"\"" ⇒ ascii "\"\\"
    ∷ with STRING_LITERAL_LONG_SINGLE_QUOTE "'''" "'''" ⇒ ascii "'\\"
    ∷ [])
unfolding computing
ascii_not_taken = refl

-- Before a range, its first, its last, and behind it.
abbrev at_bounds : (ℕ → Bool) → Range → List Bool
at_bounds p (lo – hi) = p (pred lo) ∷ p lo ∷ p hi ∷ p (suc hi) ∷ []

abbrev inside : List Bool
inside = false ∷ true ∷ true ∷ false ∷ []

abbrev everywhere : List Bool
everywhere = true ∷ true ∷ true ∷ true ∷ []

-- PN_CHARS_BASE
name_starts : Gives (at_bounds (with PNAME_NS "" ":")) (
    (0xC0 – 0xD6) ⇒ inside
    ∷ (0xD8 – 0xF6) ⇒ inside
    ∷ (0xF8 – 0x2FF) ⇒ inside
    ∷ (0x370 – 0x37D) ⇒ inside
    ∷ (0x37F – 0x1FFF) ⇒ inside
    ∷ (0x200C – 0x200D) ⇒ inside
    ∷ (0x2070 – 0x218F) ⇒ inside
    ∷ (0x2C00 – 0x2FEF) ⇒ inside
    ∷ (0x3001 – 0xD7FF) ⇒ inside
    ∷ (0xF900 – 0xFDCF) ⇒ inside
    ∷ (0xFDF0 – 0xFFFD) ⇒ inside
    ∷ (0x10000 – 0xEFFFF) ⇒ inside
    ∷ [])
unfolding computing
name_starts = refl

-- PN_CHARS has these as well.
name_characters : Gives (at_bounds (with BLANK_NODE_LABEL "_:a" "")) (
    (0xB7 – 0xB7) ⇒ inside
    ∷ (0x300 – 0x36F) ⇒ everywhere
    ∷ (0x203F – 0x2040) ⇒ inside
    ∷ [])
unfolding computing
name_characters = refl

-- ---- The token at the front

-- A kind and its length in bytes.
infix 85 ◌of◌
data Front : Type 0 where
  no_token : Front
  ◌of◌ : Kind → ℕ → Front

abbrev front_of : Match → Front
front_of nothing = no_token
front_of (hit k n) = kind_of_code k of n

abbrev front : String → Front
front s = front_of (token_at (ascii s))

fronts : Gives front (
    -- references
    "<>" ⇒ IRIREF of 2
    ∷ "<é\\u0041\\U0001F600>" ⇒ IRIREF of 20
    ∷ "<a b>" ⇒ no_token
    ∷ "<a" ⇒ no_token
    ∷ "<\\u004>" ⇒ no_token
    ∷ "<\\U0000004>" ⇒ no_token
    ∷ "<\\t>" ⇒ no_token
    -- names: the longest, without the dots at their end
    ∷ ":" ⇒ PNAME_NS of 1
    ∷ "été:" ⇒ PNAME_NS of 6
    ∷ "m:a.b" ⇒ PNAME_LN of 5
    ∷ "m:a...." ⇒ PNAME_LN of 3
    ∷ "m:a.\\." ⇒ PNAME_LN of 6
    ∷ "m:a%41%zz" ⇒ PNAME_LN of 6
    ∷ "m:\\u0041" ⇒ PNAME_NS of 2
    ∷ "m:.a" ⇒ PNAME_NS of 2
    ∷ "m:a#b" ⇒ PNAME_LN of 3
    ∷ "m.n:a" ⇒ PNAME_LN of 5
    ∷ "m.:a" ⇒ no_token
    ∷ "m" ⇒ no_token
    ∷ "_:a.b." ⇒ BLANK_NODE_LABEL of 5
    ∷ "_:a:b" ⇒ BLANK_NODE_LABEL of 3
    ∷ "_:" ⇒ no_token
    ∷ "_m:a" ⇒ no_token
    -- keywords, where a name or a tag is not longer
    ∷ "a" ⇒ kw_a of 1
    ∷ "atrue" ⇒ kw_a of 1
    ∷ "a.:b" ⇒ kw_a of 1
    ∷ "a:b" ⇒ PNAME_LN of 3
    ∷ "A" ⇒ no_token
    ∷ "truex" ⇒ kw_true of 4
    ∷ "true.x:y" ⇒ PNAME_LN of 8
    ∷ "True" ⇒ no_token
    ∷ "false" ⇒ kw_false of 5
    ∷ "fals" ⇒ no_token
    ∷ "PREFIX" ⇒ PREFIX of 6
    ∷ "prefix" ⇒ PREFIX of 6
    ∷ "pReFiX:" ⇒ PNAME_NS of 7
    ∷ "BASE<x:>" ⇒ BASE of 4
    ∷ "base" ⇒ BASE of 4
    ∷ "BAſE" ⇒ no_token
    ∷ "GRAPH" ⇒ GRAPH of 5
    ∷ "gRaPh" ⇒ GRAPH of 5
    ∷ "@prefix" ⇒ at_prefix of 7
    ∷ "@prefixx" ⇒ LANGTAG of 8
    ∷ "@prefix-x" ⇒ LANGTAG of 9
    ∷ "@Prefix" ⇒ LANGTAG of 7
    ∷ "@base" ⇒ at_base of 5
    ∷ "@base1" ⇒ at_base of 5
    ∷ "@BASE" ⇒ LANGTAG of 5
    ∷ "@en-" ⇒ LANGTAG of 3
    ∷ "@en-GB-1a" ⇒ LANGTAG of 9
    ∷ "@" ⇒ no_token
    -- numbers, and dots that are not of them
    ∷ "12." ⇒ INTEGER of 2
    ∷ "-12e" ⇒ INTEGER of 3
    ∷ "+" ⇒ no_token
    ∷ "1.5.5" ⇒ DECIMAL of 3
    ∷ ".5" ⇒ DECIMAL of 2
    ∷ "+.5e" ⇒ DECIMAL of 3
    ∷ "1.e0" ⇒ DOUBLE of 4
    ∷ "1.5e-10" ⇒ DOUBLE of 7
    ∷ "-.5E+1" ⇒ DOUBLE of 6
    ∷ "1e0" ⇒ DOUBLE of 3
    ∷ "1e0:" ⇒ DOUBLE of 3
    -- strings: three quotes open a long one and nothing else
    ∷ "\"\"" ⇒ STRING_LITERAL_QUOTE of 2
    ∷ "\"a'\\\"\\u0041\"\"" ⇒ STRING_LITERAL_QUOTE of 12
    ∷ "\"\\u41\"" ⇒ no_token
    ∷ "''" ⇒ STRING_LITERAL_SINGLE_QUOTE of 2
    ∷ "'a\"\\''" ⇒ STRING_LITERAL_SINGLE_QUOTE of 6
    ∷ "\"\"\"" ⇒ no_token
    ∷ "'''a''" ⇒ no_token
    ∷ "\"\"\"\"\"\"\"" ⇒ STRING_LITERAL_LONG_QUOTE of 6
    ∷ "\"\"\"\"a\"\"b\n\\\"\"\"\"" ⇒ STRING_LITERAL_LONG_QUOTE of 14
    ∷ "''''a''b\r\\''''" ⇒ STRING_LITERAL_LONG_SINGLE_QUOTE of 14
    ∷ "'''a\"\"\"'''" ⇒ STRING_LITERAL_LONG_SINGLE_QUOTE of 10
    ∷ "'''a'''''" ⇒ STRING_LITERAL_LONG_SINGLE_QUOTE of 7
    -- marks
    ∷ "..." ⇒ dot of 1
    ∷ ",," ⇒ comma of 1
    ∷ ";;" ⇒ semicolon of 1
    ∷ "[]" ⇒ open_bracket of 1
    ∷ "]" ⇒ close_bracket of 1
    ∷ "()" ⇒ open_paren of 1
    ∷ ")" ⇒ close_paren of 1
    ∷ "{}" ⇒ open_brace of 1
    ∷ "}" ⇒ close_brace of 1
    ∷ "^^^" ⇒ carets of 2
    ∷ "^" ⇒ no_token
    ∷ "|" ⇒ no_token
    ∷ " " ⇒ no_token
    ∷ "" ⇒ no_token
    ∷ [])
unfolding computing
fronts = refl

-- ---- Documents

data Piece : Type 0 where
  piece : Kind → ℕ → ℕ → Piece
  stuck : ℕ → Piece

abbrev piece_of : Lexeme → Piece
piece_of (token t) = piece t.kind t.start (length t.text)
piece_of (unreadable p) = stuck p

-- The kind, the place and the length of each token, up to the place where none can be read.
abbrev cut : String → List Piece
cut s = map {A = Lexeme} piece_of (lexemes (encodes (ascii s)))

cuts : Gives cut (
    "" ⇒ []
    ∷ " \t\r\n# c" ⇒ []
    ∷ "#é\n.#\r,# \u{c}\r\n;" ⇒ (piece dot 4 1 ∷ piece comma 7 1 ∷ piece semicolon 13 1 ∷ [])
    ∷ "<é>é:é\"é\"@en" ⇒ (piece IRIREF 0 4 ∷ piece PNAME_LN 4 5 ∷ piece STRING_LITERAL_QUOTE 9 4 ∷ piece LANGTAG 13 3 ∷ [])
    ∷ "<a#b>#c>" ⇒ (piece IRIREF 0 5 ∷ [])
    ∷ "\"#\"#\"" ⇒ (piece STRING_LITERAL_QUOTE 0 3 ∷ [])
    ∷ "(1+1-1.5.5)" ⇒ (piece open_paren 0 1 ∷ piece INTEGER 1 1 ∷ piece INTEGER 2 2 ∷ piece DECIMAL 4 4 ∷ piece DECIMAL 8 2 ∷ piece close_paren 10 1 ∷ [])
    ∷ "_:a._:b..\n.." ⇒ (piece BLANK_NODE_LABEL 0 5 ∷ piece PNAME_LN 5 2 ∷ piece dot 7 1 ∷ piece dot 8 1 ∷ piece dot 10 1 ∷ piece dot 11 1 ∷ [])
    ∷ "@prefixp:<x:>." ⇒ (piece LANGTAG 0 8 ∷ piece PNAME_NS 8 1 ∷ piece IRIREF 9 4 ∷ piece dot 13 1 ∷ [])
    ∷ "a truex a" ⇒ (piece kw_a 0 1 ∷ piece kw_true 2 4 ∷ stuck 6 ∷ [])
    ∷ "\u{feff}a" ⇒ (stuck 0 ∷ [])
    ∷ "\u{c}" ⇒ (stuck 0 ∷ [])
    ∷ [])
unfolding computing
cuts = refl

-- Other cuts: only blanks and tabs stand between tokens, and a line end is a token, by itself and behind a comment.
abbrev line_end_at : List ℕ → Match
line_end_at [] = nothing
line_end_at (c ∷ cs) = cond (line_end c) (hit (kind_code semicolon) 1) (token_at (c ∷ cs))

abbrev cut_into_lines : String → List Piece
cut_into_lines s = map {A = Lexeme} piece_of (let t = encodes (ascii s) in lexemes_from (record { token_at = line_end_at; white_space = one_of " \t" }) t between 0 (decode t))

line_cuts : Gives cut_into_lines (
    "a .\n" ⇒ (piece kw_a 0 1 ∷ piece dot 2 1 ∷ piece semicolon 3 1 ∷ [])
    ∷ "#é\n\t. # .\r\n" ⇒ (piece semicolon 3 1 ∷ piece dot 5 1 ∷ piece semicolon 10 1 ∷ piece semicolon 11 1 ∷ [])
    ∷ "\"\n\"" ⇒ (stuck 0 ∷ [])
    ∷ "#" ⇒ []
    ∷ [])
unfolding computing
line_cuts = refl
