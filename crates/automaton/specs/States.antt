-- The states of the automaton: what is left of the terminals after the text read so far. A state is named by what was read.
use Rattle.std.specs.Prelude.{List, [], ◌∷◌, ℕ, zero, suc}
use Prim.Native.String.{String}
use Rattle.text.specs.Text.{ascii}
use Rattle.token.specs.Regular.{Item, Match, nothing, hit, step}
use Rattle.token.specs.Terminals.{terminals, long_terminals}

abbrev pub State : Type 0
State = List Item

-- What is left after some code points.
abbrev pub steps : List ℕ → State → State
steps [] q = q
steps (c ∷ cs) q = steps cs (step c q)

abbrev read : String → State
read w = steps (ascii w) terminals

-- The match where a token of the kind k ends; 0 for none.
abbrev pub ending : ℕ → Match
ending zero = nothing
ending (suc k) = hit (suc k) 0

-- ---- The beginning, and nothing left

unfoldable pub start : State
start = terminals

unfoldable pub long_start : State
long_start = long_terminals

abbrev pub dead : State
dead = []

-- ---- IRIREF

unfoldable pub in_iri : State
in_iri = read "<"

unfoldable pub in_iri_escape : State
in_iri_escape = read "<\\"

unfoldable pub after_iri : State
after_iri = read "<>"

-- ---- Strings, by the quote

unfoldable pub in_string : ℕ → State
in_string q = steps (q ∷ []) terminals

unfoldable pub in_string_escape : ℕ → State
in_string_escape q = steps (q ∷ 92 ∷ []) terminals

unfoldable pub after_string : ℕ → State
after_string q = steps (q ∷ q ∷ []) terminals

unfoldable pub one_quote : ℕ → State
one_quote q = steps (q ∷ []) long_terminals

unfoldable pub two_quotes : ℕ → State
two_quotes q = steps (q ∷ q ∷ []) long_terminals

-- Within a long string; after one and after two quotes there; after a backslash; and after the last quote.
unfoldable pub in_long : ℕ → State
in_long q = steps (q ∷ q ∷ q ∷ []) long_terminals

unfoldable pub in_long_one : ℕ → State
in_long_one q = steps (q ∷ q ∷ q ∷ q ∷ []) long_terminals

unfoldable pub in_long_two : ℕ → State
in_long_two q = steps (q ∷ q ∷ q ∷ q ∷ q ∷ []) long_terminals

unfoldable pub in_long_escape : ℕ → State
in_long_escape q = steps (q ∷ q ∷ q ∷ 92 ∷ []) long_terminals

unfoldable pub after_long : ℕ → State
after_long q = steps (q ∷ q ∷ q ∷ q ∷ q ∷ q ∷ []) long_terminals

-- ---- Numbers

unfoldable pub after_sign : State
after_sign = read "+"

unfoldable pub in_integer : State
in_integer = read "1"

unfoldable pub integer_dot : State
integer_dot = read "1."

unfoldable pub after_dot : State
after_dot = read "."

unfoldable pub sign_dot : State
sign_dot = read "+."

unfoldable pub in_fraction : State
in_fraction = read "1.5"

unfoldable pub after_e : State
after_e = read "1e"

unfoldable pub exponent_sign : State
exponent_sign = read "1e+"

unfoldable pub in_exponent : State
in_exponent = read "1e5"

-- ---- Language tags, @prefix and @base

unfoldable pub after_at : State
after_at = read "@"

unfoldable pub in_tag : State
in_tag = read "@x"

unfoldable pub tag_dash : State
tag_dash = read "@x-"

unfoldable pub in_subtag : State
in_subtag = read "@x-y"

-- ---- Names, labels and keywords. A keyword that has begun is in a state that does as `in_prefix` but for its next letter.

unfoldable pub first_letter : State
first_letter = read "x"

unfoldable pub in_prefix : State
in_prefix = read "xy"

unfoldable pub prefix_dot : State
prefix_dot = read "x."

unfoldable pub after_colon : State
after_colon = read ":"

unfoldable pub first_local : State
first_local = read ":x"

unfoldable pub in_local : State
in_local = read ":xy"

unfoldable pub local_dot : State
local_dot = read ":x."

unfoldable pub after_underscore : State
after_underscore = read "_"

unfoldable pub label_colon : State
label_colon = read "_:"

unfoldable pub first_label : State
first_label = read "_:x"

unfoldable pub in_label : State
in_label = read "_:xy"

unfoldable pub label_dot : State
label_dot = read "_:x."

-- ---- Marks

unfoldable pub after_caret : State
after_caret = read "^"

unfoldable pub after_carets : State
after_carets = read "^^"

-- A state that a test computes with names it here.
unfoldable pub open_states : ℕ
unfolding start long_start in_iri in_iri_escape after_iri in_string in_string_escape after_string one_quote two_quotes in_long in_long_one in_long_two in_long_escape after_long after_sign in_integer integer_dot after_dot sign_dot in_fraction after_e exponent_sign in_exponent after_at in_tag tag_dash in_subtag first_letter in_prefix prefix_dot after_colon first_local in_local local_dot after_underscore label_colon first_label in_label label_dot after_caret after_carets
open_states = 0
