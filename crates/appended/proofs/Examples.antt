-- Documents with text added, computed: that the theorem applies, that it needs the line feed, and what cannot be told from the parts alone.
use mathlib.Core.Path.{◌≡◌, refl}
use mathlib.Core.List.{List, [], ◌∷◌, ◌++◌, map}
use Prim.Native.Nat.{ℕ}
use native.Mathlib.Omega.{arith}
use Rattle.text.specs.Text.{Text, ascii}
use Rattle.limits.specs.Limits.{work_size}
use Rattle.token.specs.Tokens.{lexemes}
use Rattle.table.specs.LongForm.{long_form}
use Rattle.machine.specs.Read.{Lent, lends, Answer, read, computing}
use Rattle.readback.specs.ReadBack.{slices_after}
use Rattle.appended.specs.Appended.{with_text_added, IsBeginning, Begins}
use Rattle.appended.specs.Parts.{moved, MeetsBehind}
use Rattle.appended.proofs.Parts.{told_from_parts}
use Rattle.appended.proofs.Appended.{appended}

abbrev lent : Lent
lent = lends work_size 1000 1000 10000

abbrev little : Lent
little = lends work_size 10 20 100

-- A document, with and without text added, in mode 0 and with no base.
abbrev answered : Text → Answer
answered doc = read doc 0 [] lent

abbrev joined : Text → Text → Answer
joined doc more = answered (with_text_added doc more)

-- ---- The definitions

added : with_text_added (ascii "a b") (ascii "c") ≡ ascii "a b\nc"
added = refl

-- Two of three words, whatever lies past them; a word put in front leaves no beginning, and neither does a word that was taken away.
beginning : IsBeginning 2 (1 ∷ 2 ∷ 9 ∷ []) 3 (1 ∷ 2 ∷ 3 ∷ [])
beginning = (omega arith, 3 ∷ [], refl)

no_beginning : (IsBeginning 2 (1 ∷ 2 ∷ []) 3 (3 ∷ 1 ∷ 2 ∷ []) → ⊥) × (IsBeginning 2 [] 1 [] → ⊥)
no_beginning = (λ (l, rest, e). let z : ◌≡◌ {A = ℕ} 3 1 = cc in omega arith, λ (l, rest, e). omega arith)

-- The tokens of the text stand as they would alone, six bytes further on.
further_on : lexemes (with_text_added (ascii "<x:s>") (ascii "a 1 |")) ≡ lexemes (ascii "<x:s>") ++ map (moved 6) (lexemes (ascii "a 1 |"))
unfolding computing
further_on = refl

-- ---- A comment at the end; a directive without a dot; nothing. Behind them a list, a datatype and a predicate that come again, a long string over two lines.

abbrev commented : Text
commented = ascii "<x:s> a 1 .# c"

abbrev more : Text
more = ascii "_:a <x:s> (1 \"\"\"2\n\"\"\") ."

abbrev both_accepted : Text → ℕ × ℕ
both_accepted doc = ((answered doc).number, (joined doc more).number)

accepted : (both_accepted commented ≡ (0, 0)) × (both_accepted (ascii "PREFIX p: <x:>") ≡ (0, 0)) × (both_accepted [] ≡ (0, 0))
unfolding computing
accepted = (refl, refl, refl)

-- The first call may be lent less than the second, and other slices.
begins : (rows terms : List ℕ) (store : Text) → Begins (slices_after (read commented 0 [] little) rows terms store) (slices_after (joined commented more) [] [] [])
unfolding computing
begins rows terms store = appended commented more 0 [] little lent refl refl rows [] terms [] store []

-- ---- Two files that declare one prefix: each line keeps its meaning

abbrev motor : Text
motor = ascii "@prefix m: <x:m#> .\nm:41 m:stop \"open\" ."

abbrev spare : Text
spare = ascii "@prefix m: <x:n#> .\nm:41 m:stop \"shut\" ."

abbrev statements_of : Answer → Text
statements_of a = long_form (slices_after a [] [] [])

line_by_line :
    (statements_of (answered motor) ≡ ascii "<x:m#41> <x:m#stop> \"open\" .\n")
    × (statements_of (answered spare) ≡ ascii "<x:n#41> <x:n#stop> \"shut\" .\n")
    × (statements_of (joined motor spare) ≡ ascii "<x:m#41> <x:m#stop> \"open\" .\n<x:n#41> <x:n#stop> \"shut\" .\n")
unfolding computing
line_by_line = (refl, refl, refl)

-- It needs the line feed: behind a comment the second file's directive is a part of it, and its stop becomes one of the first motor's.
abbrev with_comment : Text
with_comment = motor ++ ascii "# door"

comment_goes_on :
    (statements_of (answered (with_comment ++ spare)) ≡ ascii "<x:m#41> <x:m#stop> \"open\" .\n<x:m#41> <x:m#stop> \"shut\" .\n")
    × (statements_of (joined with_comment spare) ≡ ascii "<x:m#41> <x:m#stop> \"open\" .\n<x:n#41> <x:n#stop> \"shut\" .\n")
unfolding computing
comment_goes_on = (refl, refl)

-- ---- What the parts alone do not tell

-- Refused alone, accepted behind a document that declares its prefix.
abbrev name : Text
name = ascii "m:41 m:stop \"shut\" ."

declared_before :
    ((answered name).number ≡ 9) × ((joined motor name).number ≡ 0) × (statements_of (joined motor name) ≡ ascii "<x:m#41> <x:m#stop> \"open\" .\n<x:m#41> <x:m#stop> \"shut\" .\n")
unfolding computing
declared_before = (refl, refl, refl)

meets_behind : MeetsBehind motor name 0 [] lent
unfolding computing
meets_behind = (told_from_parts motor name 0 [] lent lent refl).0 refl

-- Accepted alone, and refused behind a document that has declared as many prefixes as may be.
abbrev declaring : Text → Text
declaring [] = []
declaring (c ∷ cs) = ascii "PREFIX " ++ c ∷ ascii ":<x:>" ++ declaring cs

abbrev prefixes : Text
prefixes = declaring (ascii "abcdefghijklmnopqrstuvwxyzABCDEF")

one_prefix_more : ((answered prefixes).number ≡ 0) × ((answered (declaring (ascii "G"))).number ≡ 0) × ((joined prefixes (declaring (ascii "G"))).number ≡ 12)
unfolding computing
one_prefix_more = (refl, refl, refl)

meets_not : MeetsBehind prefixes (declaring (ascii "G")) 0 [] lent → ⊥
unfolding computing
meets_not z = let e = (told_from_parts prefixes (declaring (ascii "G")) 0 [] lent lent refl).1 z in omega arith

-- Accepted alone and behind a document, with other statements: the reference is resolved against the base in force.
abbrev against : Text → Text
against doc = statements_of (read doc 0 (ascii "x:/") lent)

other_base :
    (against (ascii "<b> <p> <c> .") ≡ ascii "<x:/b> <x:/p> <x:/c> .\n")
    × (against (with_text_added (ascii "@base <y/> .") (ascii "<b> <p> <c> .")) ≡ ascii "<x:/y/b> <x:/y/p> <x:/y/c> .\n")
unfolding computing
other_base = (refl, refl)
