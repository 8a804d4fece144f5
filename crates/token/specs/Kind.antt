-- The kinds of token (TriG, section 4.5). ANON and NIL are two tokens each.
use Rattle.std.specs.Prelude.{List, [], ◌∷◌, Bool, false, ◌||◌, ℕ, pred, eqb, length, get_or}

-- A terminal has its own name; a keyword or a mark is named in lower case, but for those in any case.
pub data Kind : Type 0 where
  IRIREF PNAME_NS PNAME_LN BLANK_NODE_LABEL at_prefix at_base LANGTAG : Kind
  INTEGER DECIMAL DOUBLE STRING_LITERAL_QUOTE STRING_LITERAL_SINGLE_QUOTE : Kind
  kw_a kw_true kw_false PREFIX BASE GRAPH : Kind
  dot comma semicolon open_bracket close_bracket open_paren close_paren open_brace close_brace carets : Kind
  STRING_LITERAL_LONG_QUOTE STRING_LITERAL_LONG_SINGLE_QUOTE : Kind

-- The number of a kind. Where two terminals match as much, the smaller number wins:
-- "Where @prefix or @base is the whole match, it is the keyword, never a LANGTAG". No kind has the number 0.
abbrev pub kind_code : Kind → ℕ
kind_code IRIREF = 1
kind_code PNAME_NS = 2
kind_code PNAME_LN = 3
kind_code BLANK_NODE_LABEL = 4
kind_code at_prefix = 5
kind_code at_base = 6
kind_code LANGTAG = 7
kind_code INTEGER = 8
kind_code DECIMAL = 9
kind_code DOUBLE = 10
kind_code STRING_LITERAL_QUOTE = 11
kind_code STRING_LITERAL_SINGLE_QUOTE = 12
kind_code kw_a = 13
kind_code kw_true = 14
kind_code kw_false = 15
kind_code PREFIX = 16
kind_code BASE = 17
kind_code GRAPH = 18
kind_code dot = 19
kind_code comma = 20
kind_code semicolon = 21
kind_code open_bracket = 22
kind_code close_bracket = 23
kind_code open_paren = 24
kind_code close_paren = 25
kind_code open_brace = 26
kind_code close_brace = 27
kind_code carets = 28
kind_code STRING_LITERAL_LONG_QUOTE = 29
kind_code STRING_LITERAL_LONG_SINGLE_QUOTE = 30

-- The kinds in the order of their numbers.
abbrev pub kinds : List Kind
kinds =
    IRIREF ∷ PNAME_NS ∷ PNAME_LN ∷ BLANK_NODE_LABEL ∷ at_prefix ∷ at_base ∷ LANGTAG
    ∷ INTEGER ∷ DECIMAL ∷ DOUBLE ∷ STRING_LITERAL_QUOTE ∷ STRING_LITERAL_SINGLE_QUOTE
    ∷ kw_a ∷ kw_true ∷ kw_false ∷ PREFIX ∷ BASE ∷ GRAPH
    ∷ dot ∷ comma ∷ semicolon ∷ open_bracket ∷ close_bracket ∷ open_paren ∷ close_paren ∷ open_brace ∷ close_brace ∷ carets
    ∷ STRING_LITERAL_LONG_QUOTE ∷ STRING_LITERAL_LONG_SINGLE_QUOTE ∷ []

-- Their numbers go from 1 to the last.
abbrev pub last_kind : ℕ
last_kind = length kinds

-- What stands for a kind where there is no token: at the end, and where none can be read. Kinds that are added have numbers below.
abbrev pub end_kind : ℕ
end_kind = 0

abbrev pub unreadable_kind : ℕ
unreadable_kind = 63

-- The kind with a number.
abbrev pub kind_of_code : ℕ → Kind
kind_of_code n = get_or kinds (pred n) dot

-- Is the kind one of these?
abbrev pub among : List Kind → Kind → Bool
among [] k = false
among (j ∷ js) k = eqb (kind_code j) (kind_code k) || among js k

-- Prefixed names; what stands for an IRI; the four kinds of string.
abbrev pub names : List Kind
names = PNAME_NS ∷ PNAME_LN ∷ []

abbrev pub iris : List Kind
iris = IRIREF ∷ names

abbrev pub long_strings : List Kind
long_strings = STRING_LITERAL_LONG_QUOTE ∷ STRING_LITERAL_LONG_SINGLE_QUOTE ∷ []

abbrev pub strings : List Kind
strings = STRING_LITERAL_QUOTE ∷ STRING_LITERAL_SINGLE_QUOTE ∷ long_strings
