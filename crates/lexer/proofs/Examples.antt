-- Worked examples of the token at the front, by computing.
use mathlib.Core.Path.{◌≡◌, refl}
use mathlib.Core.List.{List, [], ◌∷◌}
use Prim.Native.Nat.{ℕ}
use Prim.Native.String.{String}
use Rattle.text.specs.Text.{ascii}
use Rattle.token.specs.Kind.{Kind, kind_code, INTEGER, DECIMAL, DOUBLE, LANGTAG, at_base, kw_a, kw_true, PREFIX, dot, open_bracket, IRIREF, PNAME_NS, PNAME_LN, BLANK_NODE_LABEL, STRING_LITERAL_QUOTE, STRING_LITERAL_LONG_QUOTE}
use Rattle.token.specs.Regular.{nothing, hit}
use Rattle.token.specs.Terminals.{token_at}

-- A text, and the kind and the length of the token at its front.
data Example : Type 0 where
  example : String → Kind → ℕ → Example

abbrev Hold : List Example → Type 0
Hold [] = Unit {0}
Hold (example w k n ∷ es) = (token_at (ascii w) ≡ hit (kind_code k) n) × Hold es

examples : List Example
examples =
    example "1." INTEGER 1
    ∷ example "1.5.2" DECIMAL 3
    ∷ example "1.e0." DOUBLE 4
    ∷ example "1e+x" INTEGER 1
    ∷ example "..5" dot 1
    ∷ example "true.ex:t ." PNAME_LN 9
    ∷ example "true.ex t" kw_true 4
    ∷ example "atrue" kw_a 1
    ∷ example "PREFIX: <x:n#>" PNAME_NS 7
    ∷ example "prefix : <x:n#>" PREFIX 6
    ∷ example "m:a.b ." PNAME_LN 5
    ∷ example "m:a. ." PNAME_LN 3
    ∷ example "m:a#b" PNAME_LN 3
    ∷ example "_:a.b. " BLANK_NODE_LABEL 5
    ∷ example "@base ." at_base 5
    ∷ example "@basee" LANGTAG 6
    ∷ example "<x:\\u0041>" IRIREF 10
    ∷ example "\"\"x" STRING_LITERAL_QUOTE 2
    ∷ example "\"\"\"a\"b\"\" c\"\"\"@en" STRING_LITERAL_LONG_QUOTE 13
    ∷ example "[]" open_bracket 1
    ∷ []

all_hold : Hold examples
unfolding examples token_at
all_hold = (refl, (refl, (refl, (refl, (refl, (refl, (refl, (refl, (refl, (refl, (refl, (refl, (refl, (refl, (refl, (refl, (refl, (refl, (refl, (refl, tt))))))))))))))))))))

-- Three quotes open a long string and nothing else; a backslash, or an underscore without its colon, begins nothing.
no_token : (token_at (ascii "\"\"\"x") ≡ nothing) × (token_at (ascii "\\") ≡ nothing) × (token_at (ascii "_x") ≡ nothing)
unfolding token_at
no_token = (refl, refl, refl)
