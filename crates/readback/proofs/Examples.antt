-- The long form of small tables, computed, and read again.
use mathlib.Core.Path.{◌≡◌, refl}
use mathlib.Core.Bool.{true}
use mathlib.Core.List.{List, [], ◌∷◌, ◌++◌}
use Prim.Native.String.{String}
use Rattle.text.specs.Text.{Text, ascii}
use Rattle.utf8.specs.Utf8.{encodes}
use Rattle.limits.specs.Limits.{work_size}
use Rattle.table.specs.Layout.{Slices}
use Rattle.table.specs.Usable.{for_long_form, usable}
use Rattle.table.specs.LongForm.{long_form}
use Rattle.machine.specs.Read.{Lent, lends, read, computing}
use Rattle.readback.specs.ReadBack.{long_form_mode, slices_after, RoundTrip}
use Rattle.readback.proofs.RoundTrip.{written_again}

abbrev utf8 : String → Text
utf8 s = encodes (ascii s)

abbrev lines : List String → Text
lines [] = []
lines (s ∷ ss) = utf8 s ++ 10 ∷ lines ss

abbrev lent : Lent
lent = lends work_size 1000 1000 10000

-- The tables that a document makes.
abbrev tables_of : Text → Slices
tables_of doc = slices_after (read doc long_form_mode [] lent) [] [] []

-- Each escape, each kind of term, a named graph; a blank node as subject, object and graph.
abbrev document : Text
document =
    lines (
    "<x:\\u0020\\u003C\\u003e\\u005C\\u0060\\u007C> <x:é> \"\"\"\"q\\\\\\t\\b\r\n'\"\"\", 7, \"é\\u0000\"@en-US ."
    ∷ "_:g { _:s <x:p> [ <x:p> () ] }"
    ∷ [])

abbrev form : Text
form =
    lines (
    "<x:\\u0020\\u003C\\u003E\\u005C\\u0060\\u007C> <x:é> \"\\\"q\\\\\t\u{8}\\r\\n'\" ."
    ∷ "<x:\\u0020\\u003C\\u003E\\u005C\\u0060\\u007C> <x:é> \"7\"^^<http://www.w3.org/2001/XMLSchema#integer> ."
    ∷ "<x:\\u0020\\u003C\\u003E\\u005C\\u0060\\u007C> <x:é> \"é\0\"@en-US ."
    ∷ "_:b0 { _:b1 <x:p> _:b2 . }"
    ∷ "_:b0 { _:b2 <x:p> <http://www.w3.org/1999/02/22-rdf-syntax-ns#nil> . }"
    ∷ [])

takes : usable for_long_form (tables_of document) ≡ true
unfolding computing
takes = refl

prints : long_form (tables_of document) ≡ form
unfolding computing
prints = refl

-- Read again, it is printed alike: its blank nodes come in the order of their numbers.
again : long_form (tables_of form) ≡ form
unfolding computing
again = refl

-- The theorem, of this document.
document_again : RoundTrip document long_form_mode [] (tables_of document)
unfolding computing
document_again = written_again document long_form_mode [] lent refl [] [] []

-- The output of the scope's worked example.
abbrev worked : Text
worked =
    lines (
    "<x:m#41> <x:m#stop> \"open\" ."
    ∷ "<x:n#41> { <x:n#41> <x:n#side> _:b0 . }"
    ∷ "<x:n#41> { _:b0 <http://www.w3.org/1999/02/22-rdf-syntax-ns#first> \"7\"^^<http://www.w3.org/2001/XMLSchema#integer> . }"
    ∷ "<x:n#41> { _:b0 <http://www.w3.org/1999/02/22-rdf-syntax-ns#rest> _:b1 . }"
    ∷ "<x:n#41> { _:b1 <http://www.w3.org/1999/02/22-rdf-syntax-ns#first> _:b2 . }"
    ∷ "<x:n#41> { _:b2 <x:n#at> <x:n#41> . }"
    ∷ "<x:n#41> { _:b1 <http://www.w3.org/1999/02/22-rdf-syntax-ns#rest> <http://www.w3.org/1999/02/22-rdf-syntax-ns#nil> . }"
    ∷ [])

worked_again : long_form (tables_of worked) ≡ worked
unfolding computing
worked_again = refl
