-- Words of rows and terms, usable tables, a term's text and the long form, by computing.
use mathlib.Core.Path.{◌≡◌, refl}
use mathlib.Core.Bool.{true, false}
use mathlib.Core.List.{List, [], ◌∷◌, ◌++◌}
use mathlib.Core.Option.{none, some}
use Prim.Native.Nat.{ℕ, zero, suc, ◌+◌}
use lib.ListN.{replicate}
use Rattle.text.specs.Text.{Text, ascii}
use Rattle.text.proofs.Table.{◌⇒◌, Gives}
use Rattle.dataset.specs.Terms.{label, bracket, cell, numbered, Term, iri, blank, literal, tagged, xsd_string}
use Rattle.table.specs.Layout.{Row, row_room, term_room, Slices, row_at, entry_at}
use Rattle.table.specs.Tables.{number, term_at, terms_words, store_bytes, store_size, rows_words, quads}
use Rattle.table.specs.Usable.{is_tag, for_long_form, usable, quads_held}
use Rattle.table.specs.TermText.{term_text}
use Rattle.table.specs.LongForm.{decimal, iri_form, string_form, type_form, term_form, long_form, Written, write, computing}

-- ---- Layout

abbrev row : ℕ → ℕ → ℕ → ℕ → ℕ → Row
row g s p o at = record { graph = g; subject = s; predicate = p; object = o; position = at }

abbrev ten : List ℕ
ten = 10 ∷ 11 ∷ 12 ∷ 13 ∷ 14 ∷ 15 ∷ 16 ∷ 17 ∷ 18 ∷ 19 ∷ []

rows_at : Gives (row_at ten) (0 ⇒ row 10 11 12 13 14 ∷ 1 ⇒ row 15 16 17 18 19 ∷ [])
unfolding computing
rows_at = refl

entries_at : Gives (entry_at ten) (
    1 ⇒ record { kind = 10; start = 11; size = 12; fourth = 13; fifth = 14 }
    ∷ 2 ⇒ record { kind = 15; start = 16; size = 17; fourth = 18; fifth = 19 }
    ∷ [])
unfolding computing
entries_at = refl

-- What is left over has room for nothing.
row_rooms : Gives row_room (4 ⇒ 0 ∷ 5 ⇒ 1 ∷ 9 ⇒ 1 ∷ 10 ⇒ 2 ∷ [])
row_rooms = refl

term_rooms : Gives term_room (4 ⇒ 0 ∷ 5 ⇒ 1 ∷ 9 ⇒ 1 ∷ 10 ⇒ 2 ∷ [])
term_rooms = refl

-- ---- Terms, their numbers and their words

-- One of each kind, and more that differ in one place from others.
abbrev terms : List Term
terms =
    iri (ascii "x:t")
    ∷ blank (label (ascii "a"))
    ∷ literal (ascii "a") (ascii "x:t")
    ∷ tagged (ascii "a") (ascii "en")
    ∷ blank (bracket 7)
    ∷ blank (cell 7)
    ∷ literal [] (ascii "x:t")
    ∷ blank (numbered 7)
    ∷ []

-- Equal terms share a number.
numbers : Gives (λ t. number t terms) (
    iri (ascii "x:t") ⇒ some 1
    ∷ iri (ascii "x:") ⇒ none
    ∷ iri (ascii "a") ⇒ none
    ∷ blank (label (ascii "a")) ⇒ some 2
    ∷ blank (label (ascii "b")) ⇒ none
    ∷ literal (ascii "a") (ascii "x:t") ⇒ some 3
    ∷ literal (ascii "a") (ascii "x:u") ⇒ none
    ∷ literal (ascii "b") (ascii "x:t") ⇒ none
    ∷ tagged (ascii "a") (ascii "en") ⇒ some 4
    ∷ tagged (ascii "a") (ascii "EN") ⇒ none
    ∷ tagged (ascii "") (ascii "en") ⇒ none
    ∷ blank (bracket 7) ⇒ some 5
    ∷ blank (bracket 8) ⇒ none
    ∷ blank (cell 7) ⇒ some 6
    ∷ blank (cell 8) ⇒ none
    ∷ literal [] (ascii "x:t") ⇒ some 7
    ∷ blank (numbered 7) ⇒ some 8
    ∷ blank (numbered 8) ⇒ none
    ∷ [])
unfolding computing
numbers = refl

numbered_terms : Gives (term_at terms) (0 ⇒ none ∷ 1 ⇒ some (iri (ascii "x:t")) ∷ 5 ⇒ some (blank (bracket 7)) ∷ 8 ⇒ some (blank (numbered 7)) ∷ 9 ⇒ none ∷ [])
unfolding computing
numbered_terms = refl

-- Blank numbers from 0; a tag after its text; an empty text starts at the count then used.
words : terms_words terms ≡
    1 ∷ 0 ∷ 3 ∷ 0 ∷ 0
    ∷ 2 ∷ 3 ∷ 1 ∷ 0 ∷ 0
    ∷ 3 ∷ 4 ∷ 1 ∷ 1 ∷ 0
    ∷ 4 ∷ 5 ∷ 1 ∷ 6 ∷ 2
    ∷ 2 ∷ 8 ∷ 0 ∷ 1 ∷ 0
    ∷ 2 ∷ 8 ∷ 0 ∷ 2 ∷ 0
    ∷ 3 ∷ 8 ∷ 0 ∷ 1 ∷ 0
    ∷ 2 ∷ 8 ∷ 0 ∷ 3 ∷ 0
    ∷ []
unfolding computing
words = refl

bytes : store_bytes terms ≡ ascii "x:taaaen"
unfolding computing
bytes = refl

sizes : Gives store_size ([] ⇒ 0 ∷ terms ⇒ 8 ∷ [])
unfolding computing
sizes = refl

two_rows : rows_words (row 0 1 2 3 4 ∷ row 5 6 7 8 9 ∷ []) ≡ 0 ∷ 1 ∷ 2 ∷ 3 ∷ 4 ∷ 5 ∷ 6 ∷ 7 ∷ 8 ∷ 9 ∷ []
unfolding computing
two_rows = refl

-- Graph 0 is the default graph.
statements : quads terms (row 0 2 1 4 99 ∷ row 1 5 1 3 99 ∷ []) ≡
    record { graph = none; triple = record { subject = blank (label (ascii "a")); predicate = iri (ascii "x:t"); object = tagged (ascii "a") (ascii "en") } }
    ∷ record { graph = some (iri (ascii "x:t")); triple = record { subject = blank (bracket 7); predicate = iri (ascii "x:t"); object = literal (ascii "a") (ascii "x:t") } }
    ∷ []
unfolding computing
statements = refl

-- ---- Usable tables

-- Two rows, six terms: x:s, x:p, x:t, "a"^^x:t, "a"@en, and a blank node with the label b and the number 12.
abbrev rows_of : List ℕ
rows_of = 0 ∷ 1 ∷ 2 ∷ 4 ∷ 7 ∷ 6 ∷ 6 ∷ 2 ∷ 5 ∷ 9 ∷ []

abbrev terms_of : List ℕ
terms_of =
    1 ∷ 0 ∷ 3 ∷ 0 ∷ 0
    ∷ 1 ∷ 3 ∷ 3 ∷ 0 ∷ 0
    ∷ 1 ∷ 6 ∷ 3 ∷ 0 ∷ 0
    ∷ 3 ∷ 9 ∷ 1 ∷ 3 ∷ 0
    ∷ 4 ∷ 9 ∷ 1 ∷ 10 ∷ 2
    ∷ 2 ∷ 12 ∷ 1 ∷ 12 ∷ 0
    ∷ []

abbrev store_of : Text
store_of = ascii "x:sx:px:taenb"

abbrev held_in : List ℕ → ℕ → List ℕ → ℕ → Text → ℕ → Slices
held_in rows m terms n store k = record { rows = rows; row_count = m; terms = terms; term_count = n; store = store; store_count = k }

abbrev good : Slices
good = held_in rows_of 2 terms_of 6 store_of 13

-- The same where the word at i, from 0 on, is another.
abbrev put : ℕ → ℕ → List ℕ → List ℕ
put i w [] = []
put zero w (v ∷ vs) = w ∷ vs
put (suc i) w (v ∷ vs) = v ∷ put i w vs

-- With another word i in the rows, or in the terms; with another byte i in the store.
abbrev with_row : ℕ → ℕ → Slices
with_row i w = held_in (put i w rows_of) 2 terms_of 6 store_of 13

abbrev with_term : ℕ → ℕ → Slices
with_term i w = held_in rows_of 2 (put i w terms_of) 6 store_of 13

abbrev with_byte : ℕ → ℕ → Slices
with_byte i w = held_in rows_of 2 terms_of 6 (put i w store_of) 13

-- An IRI of n + 2 bytes.
abbrev long_iri : ℕ → Slices
long_iri n = held_in [] 0 (1 ∷ 0 ∷ (2 + n) ∷ 0 ∷ 0 ∷ []) 1 (ascii "x:" ++ replicate n 97) (2 + n)

usables : Gives (usable for_long_form) (
    good ⇒ true
    ∷ held_in [] 0 [] 0 [] 0 ⇒ true
    -- slices may be longer than the counts say, not shorter
    ∷ held_in (rows_of ++ 9 ∷ []) 2 (terms_of ++ 9 ∷ []) 6 (store_of ++ 0x80 ∷ []) 13 ⇒ true
    ∷ held_in rows_of 3 terms_of 6 store_of 13 ⇒ false
    ∷ held_in rows_of 2 terms_of 7 store_of 13 ⇒ false
    ∷ held_in rows_of 2 terms_of 6 store_of 14 ⇒ false
    -- a row names a missing term: graph, subject, predicate, object
    ∷ held_in rows_of 2 terms_of 5 store_of 13 ⇒ false
    ∷ with_row 5 7 ⇒ false
    ∷ with_row 6 0 ⇒ false
    ∷ with_row 6 7 ⇒ false
    ∷ with_row 7 0 ⇒ false
    ∷ with_row 7 7 ⇒ false
    ∷ with_row 8 0 ⇒ false
    ∷ with_row 8 7 ⇒ false
    ∷ with_row 8 6 ⇒ true
    -- a kind is not 1 to 4
    ∷ with_term 25 0 ⇒ false
    ∷ with_term 25 5 ⇒ false
    -- a span leaves the used store
    ∷ with_term 17 4 ⇒ true
    ∷ with_term 17 5 ⇒ false
    ∷ with_term 26 13 ⇒ false
    ∷ held_in rows_of 2 (put 26 13 (put 27 0 terms_of)) 6 store_of 13 ⇒ true
    ∷ held_in rows_of 2 (put 26 14 (put 27 0 terms_of)) 6 store_of 13 ⇒ false
    ∷ held_in rows_of 2 terms_of 6 store_of 12 ⇒ false
    -- a text is not UTF-8, a blank node's too
    ∷ with_byte 9 0x80 ⇒ false
    ∷ with_byte 12 0x80 ⇒ false
    -- an IRI has no scheme, or is over 1,024 bytes
    ∷ with_byte 1 47 ⇒ false
    ∷ long_iri 1022 ⇒ true
    ∷ long_iri 1023 ⇒ false
    -- a datatype is not an earlier IRI term
    ∷ with_term 18 0 ⇒ false
    ∷ with_term 18 1 ⇒ true
    ∷ with_term 18 4 ⇒ false
    ∷ with_term 18 6 ⇒ false
    ∷ held_in rows_of 2 (put 20 3 (put 23 3 terms_of)) 6 store_of 13 ⇒ true
    ∷ held_in rows_of 2 (put 20 3 (put 23 4 terms_of)) 6 store_of 13 ⇒ false
    ∷ held_in [] 0 (3 ∷ 0 ∷ 0 ∷ 2 ∷ 0 ∷ 1 ∷ 0 ∷ 3 ∷ 0 ∷ 0 ∷ []) 2 store_of 3 ⇒ false
    -- a tag leaves the used store, or is none
    ∷ with_term 23 12 ⇒ false
    ∷ with_term 24 3 ⇒ true
    ∷ with_term 24 0 ⇒ false
    ∷ with_byte 10 49 ⇒ false
    -- graph or subject is a literal
    ∷ with_row 5 1 ⇒ true
    ∷ with_row 5 4 ⇒ false
    ∷ with_row 5 5 ⇒ false
    ∷ with_row 6 1 ⇒ true
    ∷ with_row 6 4 ⇒ false
    ∷ with_row 6 5 ⇒ false
    -- predicate not an IRI
    ∷ with_row 7 4 ⇒ false
    ∷ with_row 7 5 ⇒ false
    ∷ with_row 7 6 ⇒ false
    -- words that mean nothing there, and positions, are not looked at
    ∷ with_term 3 99 ⇒ true
    ∷ with_term 4 99 ⇒ true
    ∷ with_term 19 99 ⇒ true
    ∷ with_term 29 99 ⇒ true
    ∷ with_row 4 99 ⇒ true
    ∷ [])
unfolding computing
usables = refl

-- LANGTAG without its @, but base and prefix.
tags : Gives (λ s. is_tag (ascii s)) (
    "en" ⇒ true
    ∷ "en-GB-1a" ⇒ true
    ∷ "" ⇒ false
    ∷ "1n" ⇒ false
    ∷ "e1" ⇒ false
    ∷ "en-" ⇒ false
    ∷ "en " ⇒ false
    ∷ "base" ⇒ false
    ∷ "prefix" ⇒ false
    ∷ "BASE" ⇒ true
    ∷ "bases" ⇒ true
    ∷ "prefix-x" ⇒ true
    ∷ [])
unfolding computing
tags = refl

-- The blank number is the node.
held_statements : quads_held good ≡
    record { graph = none; triple = record { subject = iri (ascii "x:s"); predicate = iri (ascii "x:p"); object = literal (ascii "a") (ascii "x:t") } }
    ∷ record { graph = some (blank (numbered 12)); triple = record { subject = blank (numbered 12); predicate = iri (ascii "x:p"); object = tagged (ascii "a") (ascii "en") } }
    ∷ []
unfolding computing
held_statements = refl

-- ---- A term's text

texts : Gives (term_text good) (
    0 ⇒ none
    ∷ 1 ⇒ some (ascii "x:s")
    ∷ 4 ⇒ some (ascii "a")
    ∷ 5 ⇒ some (ascii "a")
    ∷ 6 ⇒ some (ascii "b")
    ∷ 7 ⇒ none
    ∷ [])
unfolding computing
texts = refl

last_texts : Gives (λ s. term_text s 6) (
    -- a count past its slice
    held_in [] 9 terms_of 6 store_of 13 ⇒ some (ascii "b")
    ∷ held_in [] 0 terms_of 7 store_of 13 ⇒ none
    ∷ held_in [] 0 terms_of 6 store_of 14 ⇒ none
    -- a kind not 1 to 4, of this term
    ∷ with_term 25 0 ⇒ none
    ∷ with_term 25 1 ⇒ some (ascii "b")
    ∷ with_term 25 4 ⇒ some (ascii "b")
    ∷ with_term 25 5 ⇒ none
    ∷ with_term 20 5 ⇒ some (ascii "b")
    -- a span outside the used store
    ∷ with_term 27 2 ⇒ none
    ∷ with_term 26 13 ⇒ none
    ∷ held_in [] 0 terms_of 6 store_of 12 ⇒ none
    ∷ held_in [] 0 (put 26 13 (put 27 0 terms_of)) 6 store_of 13 ⇒ some []
    ∷ [])
unfolding computing
last_texts = refl

-- ---- The long form

decimals : Gives decimal (0 ⇒ ascii "0" ∷ 9 ⇒ ascii "9" ∷ 10 ⇒ ascii "10" ∷ 109 ⇒ ascii "109" ∷ 4294967295 ⇒ ascii "4294967295" ∷ [])
unfolding computing
decimals = refl

-- What IRIREF forbids as \u and four capital hex digits.
iri_forms : Gives iri_form (
    [] ⇒ ascii "<>"
    ∷ ascii "x:!#$%&'()*+,-./09:;=?@AZ[]_az~\u{7f}" ⇒ ascii "<x:!#$%&'()*+,-./09:;=?@AZ[]_az~\u{7f}>"
    ∷ (0x00 ∷ 0x09 ∷ 0x0A ∷ 0x1F ∷ 0x20 ∷ 0x21 ∷ []) ⇒ ascii "<\\u0000\\u0009\\u000A\\u001F\\u0020!>"
    ∷ ascii "<>\"{}|^`\\" ⇒ ascii "<\\u003C\\u003E\\u0022\\u007B\\u007D\\u007C\\u005E\\u0060\\u005C>"
    ∷ (0xC2 ∷ 0x80 ∷ []) ⇒ (60 ∷ 0xC2 ∷ 0x80 ∷ 62 ∷ [])
    ∷ [])
unfolding computing
iri_forms = refl

-- Only " \ LF CR are escaped.
string_forms : Gives string_form (
    [] ⇒ ascii "\"\""
    ∷ ascii "a\"b\\c\nd\re" ⇒ ascii "\"a\\\"b\\\\c\\nd\\re\""
    ∷ (0x00 ∷ 0x08 ∷ 0x09 ∷ 0x0C ∷ 0x27 ∷ 0x7F ∷ 0xC2 ∷ 0x80 ∷ []) ⇒ (34 ∷ 0x00 ∷ 0x08 ∷ 0x09 ∷ 0x0C ∷ 0x27 ∷ 0x7F ∷ 0xC2 ∷ 0x80 ∷ 34 ∷ [])
    ∷ [])
unfolding computing
string_forms = refl

type_forms : Gives type_form (xsd_string ⇒ [] ∷ ascii "x:t|" ⇒ ascii "^^<x:t\\u007C>" ∷ [])
unfolding computing
type_forms = refl

term_forms : Gives (term_form good) (1 ⇒ ascii "<x:s>" ∷ 4 ⇒ ascii "\"a\"^^<x:t>" ∷ 5 ⇒ ascii "\"a\"@en" ∷ 6 ⇒ ascii "_:b12" ∷ [])
unfolding computing
term_forms = refl

abbrev form : Text
form = ascii "<x:s> <x:p> \"a\"^^<x:t> .\n_:b12 { _:b12 <x:p> \"a\"@en . }\n"

lines : long_form good ≡ form
unfolding computing
lines = refl

-- 18 goes before 17; both leave the buffer as it was, and 0 leaves the bytes past the long form.
abbrev answer : ℕ → ℕ → Text → Written
answer n p out = record { number = n; position = p; output = out }

written_forms : Gives (λ s. write s (replicate 57 7)) (good ⇒ answer 0 56 (form ++ 7 ∷ []) ∷ with_term 25 5 ⇒ answer 18 0 (replicate 57 7) ∷ [])
unfolding computing
written_forms = refl

buffers : Gives (write good) (replicate 56 7 ⇒ answer 0 56 form ∷ replicate 55 7 ⇒ answer 17 0 (replicate 55 7) ∷ [])
unfolding computing
buffers = refl

bad_in_small_buffer : write (with_term 25 5) [] ≡ answer 18 0 []
unfolding computing
bad_in_small_buffer = refl
