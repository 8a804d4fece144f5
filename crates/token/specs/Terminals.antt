-- The terminals, as TriG (W3C Recommendation of 25 February 2014), section 4.5 has them, a production to a definition.
use Rattle.std.specs.Prelude.{Bool, true, false, ◌&&◌, ◌||◌, List, [], ◌∷◌, ◌++◌, ℕ, ◌+◌}
use Prim.Native.Char.{Char, code}
use Prim.Native.String.{String}
use Rattle.text.specs.Text.{ascii, cond, is}
use Rattle.utf8.specs.Utf8.{width, Range, ◌–◌}
use Rattle.token.specs.Regular.{Re, eps, set, seq, alt, star, Item, item, Match, best}
use Rattle.token.specs.Kind.{kind_code, at_prefix, at_base, PREFIX, BASE, GRAPH, dot, semicolon, comma, open_bracket, close_bracket, open_paren, close_paren, open_brace, close_brace, kw_a, kw_true, kw_false, carets, IRIREF, PNAME_NS, PNAME_LN, BLANK_NODE_LABEL, LANGTAG, INTEGER, DECIMAL, DOUBLE, STRING_LITERAL_QUOTE, STRING_LITERAL_SINGLE_QUOTE, STRING_LITERAL_LONG_SINGLE_QUOTE, STRING_LITERAL_LONG_QUOTE}

-- ---- The notation

infixr 50 ◌·◌
infixr 45 ◌∣◌
abbrev pub ◌·◌ : Re → Re → Re
◌·◌ = seq

abbrev pub ◌∣◌ : Re → Re → Re
◌∣◌ = alt

-- r+ and r?
abbrev plus : Re → Re
plus r = seq r (star r)

abbrev pub opt : Re → Re
opt r = alt eps r

-- The characters of a quoted text, as a set.
abbrev singles : List ℕ → List Range
singles [] = []
singles (c ∷ cs) = (c – c) ∷ singles cs

abbrev pub chars : String → List Range
chars s = singles (ascii s)

-- One code point of a set, [..]; one that is not of it, [^..]; one character.
abbrev any : List Range → Re
any = set true

abbrev pub none_of : List Range → Re
none_of = set false

abbrev pub char : ℕ → Re
char c = any ((c – c) ∷ [])

-- A word in exact case; and in any case, where it is given in capitals.
abbrev letters : (ℕ → Re) → List ℕ → Re
letters f [] = eps
letters f (c ∷ []) = f c
letters f (c ∷ d ∷ cs) = f c · letters f (d ∷ cs)

abbrev word : String → Re
word w = letters char (ascii w)

abbrev any_case : String → Re
any_case w = letters (λ c. any ((c – c) ∷ (c + 32 – c + 32) ∷ [])) (ascii w)

abbrev digits : List Range
digits = (48 – 57) ∷ []

abbrev capitals : List Range
capitals = (65 – 90) ∷ []

abbrev smalls : List Range
smalls = (97 – 122) ∷ []

-- ---- Sets of characters

-- [171s] HEX ::= [0-9] | [A-F] | [a-f]
abbrev pub HEX : Re
HEX = any ((48 – 57) ∷ (65 – 70) ∷ (97 – 102) ∷ [])

-- [163s] PN_CHARS_BASE ::= [A-Z] | [a-z] | [#00C0-#00D6] | .. | [#10000-#EFFFF]
abbrev PN_CHARS_BASE : List Range
PN_CHARS_BASE =
    capitals ++ smalls
    ++ (0xC0 – 0xD6) ∷ (0xD8 – 0xF6) ∷ (0xF8 – 0x2FF) ∷ (0x370 – 0x37D) ∷ (0x37F – 0x1FFF) ∷ (0x200C – 0x200D)
    ∷ (0x2070 – 0x218F) ∷ (0x2C00 – 0x2FEF) ∷ (0x3001 – 0xD7FF) ∷ (0xF900 – 0xFDCF) ∷ (0xFDF0 – 0xFFFD) ∷ (0x10000 – 0xEFFFF) ∷ []

-- [164s] PN_CHARS_U ::= PN_CHARS_BASE | '_'
abbrev PN_CHARS_U : List Range
PN_CHARS_U = PN_CHARS_BASE ++ chars "_"

-- [166s] PN_CHARS ::= PN_CHARS_U | '-' | [0-9] | #00B7 | [#0300-#036F] | [#203F-#2040]
abbrev PN_CHARS : List Range
PN_CHARS = PN_CHARS_U ++ chars "-" ++ digits ++ (0xB7 – 0xB7) ∷ (0x300 – 0x36F) ∷ (0x203F – 0x2040) ∷ []

-- ---- Escapes

-- [27] UCHAR ::= '\u' HEX HEX HEX HEX | '\U' HEX HEX HEX HEX HEX HEX HEX HEX
abbrev pub UCHAR : Re
UCHAR =
    word "\\" · word "u" · HEX · HEX · HEX · HEX
    ∣ word "\\" · word "U" · HEX · HEX · HEX · HEX · HEX · HEX · HEX · HEX

-- [159s] ECHAR ::= '\' [tbnrf"'\]
abbrev pub ECHAR : Re
ECHAR = word "\\" · any (chars "tbnrf\"'\\")

-- [170s] PERCENT ::= '%' HEX HEX
abbrev PERCENT : Re
PERCENT = word "%" · HEX · HEX

-- [172s] PN_LOCAL_ESC ::= '\' ('_' | '~' | '.' | '-' | '!' | '$' | '&' | "'" | '(' | ')' | '*' | '+' | ',' | ';' | '=' | '/' | '?' | '#' | '@' | '%')
abbrev PN_LOCAL_ESC : Re
PN_LOCAL_ESC = word "\\" · any (chars "_~.-!$&'()*+,;=/?#@%")

-- [169s] PLX ::= PERCENT | PN_LOCAL_ESC
abbrev PLX : Re
PLX = PERCENT ∣ PN_LOCAL_ESC

-- ---- References and names

-- [19] IRIREF ::= '<' ([^#x00-#x20<>"{}|^`\] | UCHAR)* '>'
abbrev iriref : Re
iriref = word "<" · star (none_of ((0x00 – 0x20) ∷ chars "<>\"{}|^`\\") ∣ UCHAR) · word ">"

-- ((PN_CHARS | '.')* PN_CHARS)?
abbrev dotted : Re
dotted = opt (star (any (PN_CHARS ++ chars ".")) · any PN_CHARS)

-- [167s] PN_PREFIX ::= PN_CHARS_BASE ((PN_CHARS | '.')* PN_CHARS)?
abbrev PN_PREFIX : Re
PN_PREFIX = any PN_CHARS_BASE · dotted

-- [168s] PN_LOCAL ::= (PN_CHARS_U | ':' | [0-9] | PLX) ((PN_CHARS | '.' | ':' | PLX)* (PN_CHARS | ':' | PLX))?
abbrev PN_LOCAL : Re
PN_LOCAL =
    (any (PN_CHARS_U ++ chars ":" ++ digits) ∣ PLX)
    · opt (star (any (PN_CHARS ++ chars ".:") ∣ PLX) · (any (PN_CHARS ++ chars ":") ∣ PLX))

-- [139s] PNAME_NS ::= PN_PREFIX? ':'
abbrev pname_ns : Re
pname_ns = opt PN_PREFIX · word ":"

-- [140s] PNAME_LN ::= PNAME_NS PN_LOCAL
abbrev pname_ln : Re
pname_ln = opt PN_PREFIX · word ":" · PN_LOCAL

-- [141s] BLANK_NODE_LABEL ::= '_:' (PN_CHARS_U | [0-9]) ((PN_CHARS | '.')* PN_CHARS)?
abbrev blank_node_label : Re
blank_node_label = word "_" · word ":" · any (PN_CHARS_U ++ digits) · dotted

-- [144s] LANGTAG ::= '@' [a-zA-Z]+ ('-' [a-zA-Z0-9]+)*
abbrev langtag : Re
langtag = word "@" · plus (any (capitals ++ smalls)) · star (word "-" · plus (any (digits ++ capitals ++ smalls)))

-- ---- Numbers

-- [+-]?
abbrev sign : Re
sign = opt (any (chars "+-"))

abbrev digit : Re
digit = any digits

-- [20] INTEGER ::= [+-]? [0-9]+
abbrev integer : Re
integer = sign · plus digit

-- [21] DECIMAL ::= [+-]? ([0-9]* '.' [0-9]+)
abbrev decimal : Re
decimal = sign · star digit · word "." · plus digit

-- [154s] EXPONENT ::= [eE] [+-]? [0-9]+
abbrev EXPONENT : Re
EXPONENT = any (chars "Ee") · sign · plus digit

-- [22] DOUBLE ::= [+-]? ([0-9]+ '.' [0-9]* EXPONENT | '.' [0-9]+ EXPONENT | [0-9]+ EXPONENT)
abbrev double : Re
double = sign · (plus digit · word "." · star digit · EXPONENT ∣ word "." · plus digit · EXPONENT ∣ plus digit · EXPONENT)

-- ---- Strings, where q is the quote

-- [23] STRING_LITERAL_QUOTE ::= '"' ([^#x22#x5C#xA#xD] | ECHAR | UCHAR)* '"', and [24] with #x27
abbrev string : Char → Re
string q = char (code q) · star (none_of ((code q – code q) ∷ chars "\\\n\r") ∣ ECHAR ∣ UCHAR) · char (code q)

-- [26] STRING_LITERAL_LONG_QUOTE ::= '"""' (('"' | '""')? ([^"\] | ECHAR | UCHAR))* '"""', and [25] with "'"
abbrev pub long_string : Char → Re
long_string q =
    let c = char (code q) in
    c · c · c · star (opt (c ∣ c · c) · (none_of ((code q – code q) ∷ chars "\\") ∣ ECHAR ∣ UCHAR)) · c · c · c

-- ---- All of them, with their kinds

abbrev pub terminals : List Item
terminals =
    item (kind_code IRIREF) iriref ∷ item (kind_code PNAME_NS) pname_ns ∷ item (kind_code PNAME_LN) pname_ln
    ∷ item (kind_code BLANK_NODE_LABEL) blank_node_label
    ∷ item (kind_code at_prefix) (word "@prefix") ∷ item (kind_code at_base) (word "@base") ∷ item (kind_code LANGTAG) langtag
    ∷ item (kind_code INTEGER) integer ∷ item (kind_code DECIMAL) decimal ∷ item (kind_code DOUBLE) double
    ∷ item (kind_code STRING_LITERAL_QUOTE) (string "\"") ∷ item (kind_code STRING_LITERAL_SINGLE_QUOTE) (string "'")
    ∷ item (kind_code kw_a) (word "a") ∷ item (kind_code kw_true) (word "true") ∷ item (kind_code kw_false) (word "false")
    ∷ item (kind_code PREFIX) (any_case "PREFIX") ∷ item (kind_code BASE) (any_case "BASE") ∷ item (kind_code GRAPH) (any_case "GRAPH")
    ∷ item (kind_code dot) (word ".") ∷ item (kind_code comma) (word ",") ∷ item (kind_code semicolon) (word ";")
    ∷ item (kind_code open_bracket) (word "[") ∷ item (kind_code close_bracket) (word "]")
    ∷ item (kind_code open_paren) (word "(") ∷ item (kind_code close_paren) (word ")")
    ∷ item (kind_code open_brace) (word "{") ∷ item (kind_code close_brace) (word "}")
    ∷ item (kind_code carets) (word "^^") ∷ []

abbrev pub long_terminals : List Item
long_terminals =
    item (kind_code STRING_LITERAL_LONG_QUOTE) (long_string "\"") ∷ item (kind_code STRING_LITERAL_LONG_SINGLE_QUOTE) (long_string "'") ∷ []

-- ---- The token at the front of a text

abbrev pub three_quotes : ℕ → ℕ → ℕ → Bool
three_quotes a b c = (is "\"" a && is "\"" b && is "\"" c) || (is "'" a && is "'" b && is "'" c)

abbrev pub tripled : List ℕ → Bool
tripled [] = false
tripled (a ∷ []) = false
tripled (a ∷ b ∷ []) = false
tripled (a ∷ b ∷ c ∷ t) = three_quotes a b c

-- "Three equal quotes open a long string and nothing else"
abbrev pub terminals_at : List ℕ → List Item
terminals_at cs = cond (tripled cs) long_terminals terminals

-- "When tokenizing the input .. the longest match is chosen" (4.5, note 4)
unfoldable pub token_at : List ℕ → Match
token_at cs = best width (terminals_at cs) cs
