-- The refusals that a token meets, from what the directives before it set, how many brackets are open, and how much room there is.
use Rattle.std.specs.Prelude.{List, [], ◌∷◌, ◌++◌, Bool, true, false, not, ◌&&◌, ◌||◌, ℕ, ◌+◌, ◌-◌, leb, ltb, length}
use Rattle.text.specs.Text.{Text, cond, empty, is_none}
use Rattle.limits.specs.Limits.{iri_limit, prefix_limit, prefixes_limit, depth_limit}
use Rattle.token.specs.Kind.{names, strings, open_bracket, close_bracket, open_paren, close_paren, IRIREF}
use Rattle.token.specs.Tokens.{Token, has_kind}
use Rattle.escape.specs.Escape.{bad_escape}
use Rattle.iri.specs.Iri.{has_scheme}
use Rattle.iri.specs.Resolve.{resolve_with_dots}
use Rattle.environment.specs.Environment.{Environment, lookup}
use Rattle.table.specs.Tables.{store_size}
use Rattle.dataset.specs.Constructors.{reference, prefix, joined_name, InForce, Awaited, nothing, prefix_name, new_base, namespace_of}
use Rattle.machine.specs.Memory.{Memory}
use Rattle.machine.specs.Call.{Room, Test, ◌when◌}

-- Is the token awaited as the prefix that a directive declares?
abbrev pub declared_name : Awaited → Bool
declared_name nothing = false
declared_name prefix_name = true
declared_name new_base = false
declared_name (namespace_of p) = false

-- Is it awaited as the namespace of a prefix that was not declared before?
abbrev pub new_prefix : Awaited → Environment → Bool
new_prefix nothing e = false
new_prefix prefix_name e = false
new_prefix new_base e = false
new_prefix (namespace_of p) e = is_none (lookup p e.namespaces)

-- 7: "numeric escape names D800 to DFFF or over 10FFFF"
unfoldable pub no_character : Token → Bool
no_character t = has_kind (IRIREF ∷ strings) t && bad_escape t.text

-- 9: "prefix not declared before"
unfoldable pub undeclared : InForce → Token → Bool
undeclared f t = has_kind names t && not (declared_name f.awaited) && is_none (lookup (prefix t) f.environment.namespaces)

-- 10: "relative reference, no base in force"
unfoldable pub no_base : InForce → Token → Bool
no_base f t = has_kind (IRIREF ∷ []) t && not (has_scheme (reference t)) && empty f.environment.base

-- 11: "IRI over 1,024 bytes, as written unescaped, as joined, or as resolved before its dot segments go; declared prefix over 64"
abbrev pub long_resolved : Text → Text → Bool
long_resolved b r = not (has_scheme r) && ltb iri_limit (length (resolve_with_dots b r))

unfoldable pub too_long : InForce → Token → Bool
too_long f t =
    (has_kind (IRIREF ∷ []) t && (ltb iri_limit (length (reference t)) || long_resolved f.environment.base (reference t)))
    || (has_kind names t && not (declared_name f.awaited) && ltb iri_limit (length (joined_name f.environment t)))
    || (declared_name f.awaited && ltb prefix_limit (length (prefix t)))

-- 12: "a 33rd distinct prefix"
unfoldable pub one_prefix_more : InForce → Bool
one_prefix_more f = new_prefix f.awaited f.environment && leb prefixes_limit (length f.environment.namespaces)

-- 13: "a 65th [ or ( open at once"
abbrev pub opens : Token → Bool
opens t = has_kind (open_bracket ∷ open_paren ∷ []) t

abbrev pub closes : Token → Bool
closes t = has_kind (close_bracket ∷ close_paren ∷ []) t

unfoldable pub too_deep : ℕ → Token → Bool
too_deep depth t = opens t && leb depth_limit depth

-- How many are open after the token.
unfoldable pub new_depth : ℕ → Token → ℕ
new_depth depth t = cond (opens t) (depth + 1) (cond (closes t) (depth - 1) depth)

-- ---- The tests of a token, in number order

-- Of its escapes: 7.
abbrev pub escape_tests : Token → List Test
escape_tests t = 7 when no_character t ∷ []

-- Of the IRI that it stands for, under what is in force.
abbrev pub iri_tests : InForce → Token → List Test
iri_tests f t = 9 when undeclared f t ∷ 10 when no_base f t ∷ 11 when too_long f t ∷ []

-- Of the prefix that it declares.
abbrev pub prefix_tests : InForce → List Test
prefix_tests f = 12 when one_prefix_more f ∷ []

-- Of how many brackets are open.
abbrev pub depth_tests : ℕ → Token → List Test
depth_tests depth t = 13 when too_deep depth t ∷ []

-- These three: 9 to 13.
abbrev pub force_tests : InForce → ℕ → Token → List Test
force_tests f depth t = iri_tests f t ++ prefix_tests f ++ depth_tests depth t

-- Of so many rows, terms and store bytes; and of all that is written with it.
abbrev pub size_tests : Room → ℕ → ℕ → ℕ → List Test
size_tests room rows terms bytes = 14 when ltb room.rows rows ∷ 15 when ltb room.terms terms ∷ 16 when ltb room.store bytes ∷ []

abbrev pub room_tests : Room → Memory → List Test
room_tests room m = size_tests room (length m.rows) (length m.terms) (store_size m.terms)
