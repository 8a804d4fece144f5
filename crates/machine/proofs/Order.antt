-- The order of refusals and of writing, in documents that would show a change, by computing.
use mathlib.Core.Path.{◌≡◌, refl}
use mathlib.Core.List.{List, [], ◌∷◌, map}
use Prim.Native.Nat.{ℕ}
use Prim.Native.String.{String}
use Rattle.text.specs.Text.{ascii}
use Rattle.machine.specs.Read.{lends, Answer, After, kept, zeroed, written, contents, read, computing}

-- A document with so many row words, term words and store bytes, and its answer's number and position.
pub record Call : Type 0 where
  pub document : String
  pub rows : ℕ
  pub terms : ℕ
  pub store : ℕ

abbrev call : ℕ → ℕ → ℕ → String → Call
call r t s d = record { document = d; rows = r; terms = t; store = s }

abbrev ample : String → Call
ample d = call 500 500 5000 d

abbrev answer_of : Call → Answer
answer_of c = read (ascii c.document) 0 [] (lends 35840 c.rows c.terms c.store)

abbrev place : Call → ℕ × ℕ
place c = let a = answer_of c in (a.number, a.position)

refusals : map place
    -- 7 before 8; 8 before 9, 10 and 13; 9 and 10 before 14; 10 before 11
    (ample "\"\\uD800\"" ∷ ample "<x:s> <x:p> 1 p:q" ∷ ample "<x:s> <g> 1 <g>" ∷ call 0 500 5000 "<x:s> <x:p> q:r ." ∷ call 0 500 5000 "<x:s> <x:p> <g> ."
    -- 14 before 15, 15 before 16, each over all that the token writes
    ∷ call 0 10 6 "<x:s> <x:p> 1 ." ∷ call 5 10 0 "<x:s> <x:p> 1 ." ∷ call 5 10 6 "<x:s> <x:p> 1 ." ∷ call 5 20 46 "<x:s> <x:p> 1 ." ∷ call 5 20 47 "<x:s> <x:p> 1 ."
    -- the first element of a list writes two rows, the literal's come at the tag or the type
    ∷ call 5 500 5000 "<x:s> <x:p> (1) ." ∷ call 10 500 5000 "<x:s> <x:p> (1) ." ∷ call 0 500 5000 "<x:s> <x:p> \"a\"@en ." ∷ call 0 500 5000 "<x:s> <x:p> \"a\"^^<x:t> ."
    -- a string's own refusals come before those of the token behind it
    ∷ call 0 500 5000 "<x:s> <x:p> \"a\" |" ∷ ample "<x:s> <x:p> \"a\" |"
    -- the term of [ is numbered at the bracket
    ∷ call 500 0 5000 "GRAPH [ a 1 ] {}"
    -- each name under the latest directive before it
    ∷ ample "@prefix p: <x:> . p:a p:b p:c . PREFIX p: <y> p:a" ∷ [])
    ≡ (7, 0) ∷ (8, 14) ∷ (10, 6) ∷ (9, 12) ∷ (10, 12)
    ∷ (14, 12) ∷ (16, 0) ∷ (15, 12) ∷ (16, 12) ∷ (0, 15)
    ∷ (14, 13) ∷ (14, 14) ∷ (14, 15) ∷ (14, 17)
    ∷ (14, 12) ∷ (6, 16)
    ∷ (15, 6)
    ∷ (10, 42) ∷ []
unfolding computing
refusals = refl

abbrev words : After → List ℕ
words kept = []
words zeroed = []
words (written ws) = ws

-- <x:s> <x:p> ( "a"@en [ a 1 ] ) .  Cell 3 is held by the row of <x:s>; rdf:first is numbered when its row is made, the datatype before its literal.
rows_of_a_list : ◌≡◌ {A = List ℕ × List ℕ} (let a = answer_of (ample "<x:s> <x:p> (\"a\"@en[a 1]) .") in (words a.rows, words a.terms)) (
  0 ∷ 1 ∷ 2 ∷ 3 ∷ 12 ∷ 0 ∷ 3 ∷ 5 ∷ 4 ∷ 13 ∷ 0 ∷ 3 ∷ 7 ∷ 6 ∷ 19 ∷ 0 ∷ 6 ∷ 5 ∷ 8 ∷ 19 ∷ 0 ∷ 8 ∷ 9 ∷ 11 ∷ 22 ∷ 0 ∷ 6 ∷ 7 ∷ 12 ∷ 24 ∷ [],
  1 ∷ 0 ∷ 3 ∷ 0 ∷ 0 ∷ 1 ∷ 3 ∷ 3 ∷ 0 ∷ 0 ∷ 2 ∷ 6 ∷ 0 ∷ 0 ∷ 0 ∷ 4 ∷ 6 ∷ 1 ∷ 7 ∷ 2 ∷ 1 ∷ 9 ∷ 48 ∷ 0 ∷ 0 ∷ 2 ∷ 57 ∷ 0 ∷ 1 ∷ 0 ∷ 1 ∷ 57 ∷ 47 ∷ 0 ∷ 0
      ∷ 2 ∷ 104 ∷ 0 ∷ 2 ∷ 0 ∷ 1 ∷ 104 ∷ 47 ∷ 0 ∷ 0 ∷ 1 ∷ 151 ∷ 40 ∷ 0 ∷ 0 ∷ 3 ∷ 191 ∷ 1 ∷ 10 ∷ 0 ∷ 1 ∷ 192 ∷ 46 ∷ 0 ∷ 0 ∷ [],
)
unfolding computing
rows_of_a_list = refl

-- What the lent slices hold after 4, after 8 and after 0; three words that were nines.
nines : List ℕ
nines = 9 ∷ 9 ∷ 9 ∷ []

abbrev held : Answer → List (List ℕ)
held a = contents a.work nines ∷ contents a.rows nines ∷ contents a.terms nines ∷ contents a.store nines ∷ []

memory : map held
    (read [] 0 [] (lends 35839 0 0 0)
    ∷ read (ascii ".") 0 [] (lends 35840 0 0 0)
    ∷ read (ascii "[]{}") 0 [] (lends 35840 5 5 0) ∷ [])
    ≡ (nines ∷ nines ∷ nines ∷ nines ∷ [])
    ∷ ((0 ∷ 0 ∷ 0 ∷ []) ∷ (0 ∷ 0 ∷ 0 ∷ []) ∷ (0 ∷ 0 ∷ 0 ∷ []) ∷ (0 ∷ 0 ∷ 0 ∷ []) ∷ [])
    ∷ ((0 ∷ 0 ∷ 0 ∷ []) ∷ nines ∷ (2 ∷ 0 ∷ 0 ∷ 0 ∷ 0 ∷ []) ∷ nines ∷ []) ∷ []
unfolding computing nines
memory = refl
