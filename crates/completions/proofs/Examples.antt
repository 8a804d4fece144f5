-- What tokens write, computed: of a list whose bracket is open nothing but what stands before it, of a string its row, and of one that awaits its tag nothing.
use mathlib.Core.Path.{◌≡◌, refl, ap}
use mathlib.Core.Bool.{true, false}
use mathlib.Core.List.{[], ◌∷◌}
use Prim.Native.Nat.{ℕ, ◌*◌}
use native.Mathlib.Omega.{arith}
use lib.Dec.{leb→le}
use lib.ListN.{take}
use Rattle.text.specs.Text.{Text, ascii}
use Rattle.limits.specs.Limits.{work_size}
use Rattle.token.specs.Tokens.{lexemes, place_of}
use Rattle.grammar.specs.Productions.{trig}
use Rattle.dataset.specs.Terms.{iri, literal, xsd_string}
use Rattle.table.specs.Layout.{row_size}
use Rattle.machine.specs.Read.{Lent, lends, Answer, computing}
use Rattle.machine.specs.Demand.{document_tokens}
use Rattle.machine.proofs.Demands.{obey, after_rules}
use Rattle.machine.proofs.Link.{follow, finished, machine_verdict}
use Rattle.completions.specs.Written.{Written}
use Rattle.completions.specs.FailsFirst.{FailsFirst}
use Rattle.completions.specs.Refused.{Refused}
use Rattle.completions.proofs.FailsFirst.{state_written, fails_written, fails_answer, eight_fails_first}
use Rattle.completions.proofs.Refused.{refused_answer, refused_only}

abbrev open_list : Text
open_list = ascii "<x:s> <x:p> ( ."

list_written : Written false trig [] (take 3 (document_tokens open_list)) [] (iri (ascii "x:s") ∷ iri (ascii "x:p") ∷ [])
unfolding computing after_rules obey machine_verdict follow finished
list_written = fails_written trig [] 3 (lexemes open_list) (record { state = _; reached = refl; here = refl })

abbrev string_alone : Text
string_alone = ascii "<x:s> <x:p> \"a\" <x:q>"

string_written : Written false trig [] (take 3 (document_tokens string_alone))
    (record { graph = 0; subject = 1; predicate = 2; object = 4; position = 12 } ∷ [])
    (iri (ascii "x:s") ∷ iri (ascii "x:p") ∷ iri xsd_string ∷ literal (ascii "a") xsd_string ∷ [])
unfolding computing after_rules obey machine_verdict follow finished
string_written = fails_written trig [] 3 (lexemes string_alone) (record { state = _; reached = refl; here = refl })

abbrev tagged_string : Text
tagged_string = ascii "<x:s> <x:p> \"a\"@en ."

awaited_written : Written true trig [] (take 3 (document_tokens tagged_string)) [] (iri (ascii "x:s") ∷ iri (ascii "x:p") ∷ [])
unfolding computing after_rules obey
awaited_written = state_written trig [] 3 (lexemes tagged_string) _ refl

-- ---- Where the grammar fails first

abbrev list_alone : Text
list_alone = ascii "(1) ."

abbrev lent : ℕ → Lent
lent rows = lends work_size (rows * row_size) 100 1000

-- At the dot, where there is room for the list's two rows,
at_the_dot : (i : ℕ) × FailsFirst list_alone 0 [] (lent 2) i × (4 ≡ place_of 5 (lexemes list_alone) i)
unfolding computing
at_the_dot = eight_fails_first list_alone 0 [] (lent 2) refl

-- and nowhere where there is room for one: 14 stands at the closing bracket.
not_first : (i : ℕ) → FailsFirst list_alone 0 [] (lent 1) i → ⊥
unfolding computing
not_first i f = let e : ◌≡◌ {A = ℕ} 14 8 = ap (λ (a : Answer). a.number) (fails_answer list_alone 0 [] (lent 1) i f) in omega arith

-- ---- Which refusal stands where

abbrev two_objects : Text
two_objects = ascii "<x:s> <x:p> 1, 2 ."

-- At the second object, where there is room for one row.
at_the_second : (i : ℕ) × Refused two_objects 0 [] (lent 1) i 14 × (15 ≡ place_of 18 (lexemes two_objects) i)
unfolding computing
at_the_second = refused_only two_objects 0 [] (lent 1) (leb→le 6 14 tt)

-- At the tag, where there is room for none,
at_the_tag : (i : ℕ) × Refused tagged_string 0 [] (lent 0) i 14 × (15 ≡ place_of 20 (lexemes tagged_string) i)
unfolding computing
at_the_tag = refused_only tagged_string 0 [] (lent 0) (leb→le 6 14 tt)

-- and not at its string.
not_at_the_string : (n : ℕ) → Refused tagged_string 0 [] (lent 0) 2 n → ⊥
unfolding computing
not_at_the_string n r = let e : ◌≡◌ {A = ℕ} 15 12 = ap (λ (a : Answer). a.position) (refused_answer tagged_string 0 [] (lent 0) 2 n r) in omega arith

abbrev not_cut : Text
not_cut = ascii "<x:s> %"

-- Where no token can be read, and not the grammar's, which the tokens do not meet either.
at_the_percent_sign : (i : ℕ) × Refused not_cut 0 [] (lent 0) i 6 × (6 ≡ place_of 7 (lexemes not_cut) i)
unfolding computing
at_the_percent_sign = refused_only not_cut 0 [] (lent 0) (leb→le 6 6 tt)
