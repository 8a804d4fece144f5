-- Computed: each sample is one token of its kind; a trial.
use mathlib.Core.Path.{◌≡◌, refl}
use mathlib.Core.Bool.{Bool, true, false, ◌&&◌}
use mathlib.Core.List.{List, [], ◌∷◌}
use Prim.Native.Nat.{ℕ}
use native.Mathlib.Omega.{arith}
use lib.Dec.{eqb}
use Rattle.text.specs.Text.{Text, ascii}
use Rattle.text.proofs.Table.{◌⇒◌, Gives}
use Rattle.token.specs.Kind.{Kind, kind_code, kinds, IRIREF, STRING_LITERAL_QUOTE, comma}
use Rattle.token.specs.Tokens.{Token, Lexeme, token, unreadable, lexemes, computing as token_computing}
use Rattle.machine.specs.Read.{Lent, lends, computing as read_computing}
use Rattle.diagnosis.specs.Samples.{samples, sample, with_sample, trial, allowed}
use Rattle.diagnosis.proofs.Meaning.{as_lexemes, Probed}

is_one : Kind → List Lexeme → Bool
is_one k [] = false
is_one k (unreadable p ∷ ls) = false
is_one k (token t ∷ []) = eqb (kind_code t.kind) (kind_code k) && eqb t.start 1
is_one k (token t ∷ l ∷ ls) = false

all_one : List Kind → Bool
all_one [] = true
all_one (k ∷ ks) = is_one k (lexemes (sample (kind_code k))) && all_one ks

-- The sample of each kind is cut into one token, of this kind, behind the line end.
each_sample : all_one kinds ≡ true
unfolding token_computing is_one all_one sample samples
each_sample = refl

-- Behind an object.
lent : Lent
lent = lends 35840 50 50 500

behind_object : ℕ → Bool
behind_object kind = allowed (trial (ascii "<x:s> <x:p> \"a\" ........") 16 kind 0 lent) 17

-- An IRI, a language tag, a string, a dot, a comma, a closing bracket, ^^
allowed_there : Gives behind_object ((1 ⇒ false) ∷ (7 ⇒ true) ∷ (11 ⇒ false) ∷ (19 ⇒ true) ∷ (20 ⇒ true) ∷ (23 ⇒ false) ∷ (28 ⇒ true) ∷ [])
unfolding read_computing token_computing behind_object trial sample samples lent
allowed_there = refl

-- The law of Meaning applies there.
a_token : Kind → ℕ → Text → Token
a_token k at s = record { kind = k; start = at; text = s }

before_comma : List Token
before_comma = a_token IRIREF 0 (ascii "<x:s>") ∷ a_token IRIREF 6 (ascii "<x:p>") ∷ a_token STRING_LITERAL_QUOTE 12 (ascii "\"a\"") ∷ []

comma_probed : Probed (with_sample (ascii "<x:s> <x:p> \"a\" ........") 16 20) 17 before_comma (a_token comma 17 (ascii ","))
unfolding token_computing sample samples as_lexemes before_comma a_token
comma_probed = record { cut = refl; earlier = (omega arith, (omega arith, (omega arith, tt))); there = refl; inside = omega arith }
