-- The worked example: its rows and terms, its long form, and the writer's refusals.
use mathlib.Core.Path.{◌≡◌, refl}
use mathlib.Core.List.{[], ◌∷◌, ◌++◌}
use Prim.Native.Nat.{suc}
use lib.ListN.{replicate}
use Rattle.text.specs.Text.{Text}
use Rattle.table.specs.Layout.{Slices}
use Rattle.table.specs.LongForm.{write}
use Rattle.machine.specs.Read.{computing}
use Rattle.examples.specs.Call.{utf8, lines, Call, trig, accepts, answered, short, slices, printed, written_into}

abbrev document : Call
document =
    trig (lines (
    "@prefix m: <x:m#> ."
    ∷ "m:41 m:stop \"open\" ."
    ∷ "@prefix m: <x:n#> ."
    ∷ "m:41 { m:41 m:side ( 7 [ m:at m:41 ] ) }"
    ∷ []))

-- Seven rows, fifteen terms.
tables : short document ≡
    accepts 102 (7 ∷ 15 ∷ 259 ∷ [])
    (0 ∷ 1 ∷ 2 ∷ 4 ∷ 32
    ∷ 5 ∷ 5 ∷ 6 ∷ 7 ∷ 80
    ∷ 5 ∷ 7 ∷ 10 ∷ 9 ∷ 82
    ∷ 5 ∷ 7 ∷ 12 ∷ 11 ∷ 84
    ∷ 5 ∷ 11 ∷ 10 ∷ 13 ∷ 84
    ∷ 5 ∷ 13 ∷ 14 ∷ 5 ∷ 91
    ∷ 5 ∷ 11 ∷ 12 ∷ 15 ∷ 98
    ∷ [])
    (1 ∷ 0 ∷ 6 ∷ 0 ∷ 0
    ∷ 1 ∷ 6 ∷ 8 ∷ 0 ∷ 0
    ∷ 1 ∷ 14 ∷ 39 ∷ 0 ∷ 0
    ∷ 3 ∷ 53 ∷ 4 ∷ 3 ∷ 0
    ∷ 1 ∷ 57 ∷ 6 ∷ 0 ∷ 0
    ∷ 1 ∷ 63 ∷ 8 ∷ 0 ∷ 0
    ∷ 2 ∷ 71 ∷ 0 ∷ 0 ∷ 0
    ∷ 1 ∷ 71 ∷ 40 ∷ 0 ∷ 0
    ∷ 3 ∷ 111 ∷ 1 ∷ 8 ∷ 0
    ∷ 1 ∷ 112 ∷ 48 ∷ 0 ∷ 0
    ∷ 2 ∷ 160 ∷ 0 ∷ 1 ∷ 0
    ∷ 1 ∷ 160 ∷ 47 ∷ 0 ∷ 0
    ∷ 2 ∷ 207 ∷ 0 ∷ 2 ∷ 0
    ∷ 1 ∷ 207 ∷ 6 ∷ 0 ∷ 0
    ∷ 1 ∷ 213 ∷ 46 ∷ 0 ∷ 0
    ∷ [])
    (utf8 "x:m#41" ++ utf8 "x:m#stop" ++ utf8 "http://www.w3.org/2001/XMLSchema#string" ++ utf8 "open" ++ utf8 "x:n#41" ++ utf8 "x:n#side"
    ++ utf8 "http://www.w3.org/2001/XMLSchema#integer" ++ utf8 "7" ++ utf8 "http://www.w3.org/1999/02/22-rdf-syntax-ns#first"
    ++ utf8 "http://www.w3.org/1999/02/22-rdf-syntax-ns#rest" ++ utf8 "x:n#at" ++ utf8 "http://www.w3.org/1999/02/22-rdf-syntax-ns#nil")
unfolding computing
tables = refl

abbrev one_row_more : Slices → Slices
one_row_more s =
    record { rows = s.rows; row_count = suc s.row_count; terms = s.terms; term_count = s.term_count; store = s.store; store_count = s.store_count }

abbrev form : Text
form =
    lines (
    "<x:m#41> <x:m#stop> \"open\" ."
    ∷ "<x:n#41> { <x:n#41> <x:n#side> _:b0 . }"
    ∷ "<x:n#41> { _:b0 <http://www.w3.org/1999/02/22-rdf-syntax-ns#first> \"7\"^^<http://www.w3.org/2001/XMLSchema#integer> . }"
    ∷ "<x:n#41> { _:b0 <http://www.w3.org/1999/02/22-rdf-syntax-ns#rest> _:b1 . }"
    ∷ "<x:n#41> { _:b1 <http://www.w3.org/1999/02/22-rdf-syntax-ns#first> _:b2 . }"
    ∷ "<x:n#41> { _:b2 <x:n#at> <x:n#41> . }"
    ∷ "<x:n#41> { _:b1 <http://www.w3.org/1999/02/22-rdf-syntax-ns#rest> <http://www.w3.org/1999/02/22-rdf-syntax-ns#nil> . }"
    ∷ [])

-- "It is read again in mode 0."
read_again : printed (trig form) ≡ form
unfolding computing
read_again = refl

-- In a buffer of two bytes more than the long form has, these stay. One byte less is 17.
writes : written_into 498 document ≡ record { number = 0; position = 496; output = form ++ 0 ∷ 0 ∷ [] }
unfolding computing
writes = refl

full : written_into 495 document ≡ record { number = 17; position = 0; output = replicate 495 0 }
unfolding computing
full = refl

-- One row more than the slice has, and no room in the buffer: 18 goes before 17.
unusable : write (one_row_more (slices (answered document))) (7 ∷ []) ≡ record { number = 18; position = 0; output = 7 ∷ [] }
unfolding computing
unusable = refl
