-- The decisions of docs/DECISIONS.md, as calls.
use mathlib.Core.Path.{refl}
use mathlib.Core.List.{List, [], ◌∷◌, ◌++◌}
use Prim.Native.Nat.{ℕ}
use Rattle.text.proofs.Table.{◌⇒◌, Gives}
use Rattle.machine.specs.Read.{Lent, lends, After, kept, zeroed, written, contents, computing}
use Rattle.examples.specs.Call.{utf8, lines, times, S, ample_words, ample_bytes, ample, call, trig, turtle, against, within, with_rows, with_store, ◌at◌, verdict, accepts, short, object_text, afterwards, printed}

-- ---- Lent memory

memory : Gives verdict (
    -- a token whose terms all exist writes nothing
    with_store 6 (S "<x:s>, <x:\\u0073>, <x:s> .") ⇒ 0 at 38
    ∷ with_store 46 (S "\"a\", \"\\u0061\", \"a\" .") ⇒ 0 at 32
    ∷ with_store 3 (utf8 "@base <x:/a/b/c/d> . <x:/> <x:/> <../../../../> .") ⇒ 0 at 49
    -- words that make no whole row have no room
    ∷ with_rows 4 (S "1 .") ⇒ 14 at 12
    ∷ with_rows 9 (S "1 .") ⇒ 0 at 15
    -- what writes nothing fits anywhere
    ∷ within 0 0 0 (utf8 "@prefix p: <x:> .") ⇒ 0 at 17
    ∷ with_store 6 (S "[] .") ⇒ 0 at 16
    ∷ [])
unfolding computing
memory = refl

-- The slices are ample, but for a work slice of so many bytes.
abbrev with_work : ℕ → Lent
with_work n = lends n ample_words ample_words ample_bytes

abbrev all_kept : List After
all_kept = kept ∷ kept ∷ kept ∷ kept ∷ []

abbrev all_zero : List After
all_zero = zeroed ∷ zeroed ∷ zeroed ∷ zeroed ∷ []

work : Gives afterwards (
    -- 2, 3 and 4 leave all lent memory unchanged
    call 2 [] ample (S "1 .") ⇒ all_kept
    ∷ against (utf8 "x") (S "1 .") ⇒ all_kept
    ∷ call 0 [] (with_work 35839) (S "1 .") ⇒ all_kept
    -- 5, 6, 8 and 14 leave zeros, whatever was written before
    ∷ trig (0x80 ∷ []) ⇒ all_zero
    ∷ trig (utf8 "|") ⇒ all_zero
    ∷ trig (S "1") ⇒ all_zero
    ∷ with_rows 5 (S "1, 1 .") ⇒ all_zero
    -- on acceptance the work slice is zero
    ∷ trig (utf8 "<x:g> {}") ⇒ (zeroed ∷ written [] ∷ written (1 ∷ 0 ∷ 3 ∷ 0 ∷ 0 ∷ []) ∷ written (utf8 "x:g") ∷ [])
    ∷ [])
unfolding computing
work = refl

-- Zeroing is of the whole slice; what lies past the written part stays.
slices_after : Gives (λ after. contents after (7 ∷ 8 ∷ 9 ∷ [])) (kept ⇒ (7 ∷ 8 ∷ 9 ∷ []) ∷ zeroed ⇒ (0 ∷ 0 ∷ 0 ∷ []) ∷ written (1 ∷ []) ⇒ (1 ∷ 8 ∷ 9 ∷ []) ∷ [])
slices_after = refl

-- ---- Numbers, their order and positions

answers : Gives verdict (
    -- 2 before 3, 3 before 4, and these before 5
    call 2 (utf8 "x") (with_work 0) (0x80 ∷ []) ⇒ 2 at 0
    ∷ call 1 (utf8 "x") (with_work 0) (0x80 ∷ []) ⇒ 3 at 0
    ∷ call 1 [] (with_work 35839) (0x80 ∷ []) ⇒ 4 at 0
    ∷ call 1 [] (with_work 35840) (0x80 ∷ []) ⇒ 5 at 0
    -- at one token in number order: 7 before 10, 8 before 9, 10 and 13, 9 and 10 before 14, 15 before 16
    ∷ trig (S "<\\uD800> .") ⇒ 7 at 12
    ∷ trig (S "1 p:a .") ⇒ 8 at 14
    ∷ trig (S "1 <g> .") ⇒ 8 at 14
    ∷ trig (S "" ++ times 63 "[<x:p>" ++ utf8 "[[") ⇒ 8 at 391
    ∷ with_rows 0 (S "p:a .") ⇒ 9 at 12
    ∷ with_rows 0 (S "<g> .") ⇒ 10 at 12
    ∷ within ample_words 15 45 (S "\"a\" .") ⇒ 15 at 12
    -- 14 to 16 count everything that the token writes
    ∷ with_rows 5 (S "( 1 ) .") ⇒ 14 at 14
    ∷ within 5 10 ample_bytes (S "( 1 ) .") ⇒ 14 at 14
    ∷ within 10 25 ample_bytes (S "( 1 ) .") ⇒ 15 at 14
    ∷ within 10 30 ample_bytes (S "( 1 ) .") ⇒ 14 at 16
    ∷ within ample_words 15 ample_bytes (S "\"a\" .") ⇒ 15 at 12
    ∷ with_store 46 (S "1 .") ⇒ 16 at 12
    -- what follows a string is looked at for its kind alone
    ∷ with_rows 0 (S "\"a\" |") ⇒ 14 at 12
    ∷ with_rows 0 (S "\"a\"@base .") ⇒ 14 at 12
    ∷ with_rows 0 (S "\"a\"@en |") ⇒ 14 at 15
    ∷ with_rows 0 (S "\"a\"^^ |") ⇒ 6 at 18
    ∷ with_rows 0 (S "\"a\"^^<g> .") ⇒ 10 at 17
    ∷ with_rows 0 (S "\"a\" # c\n @en .") ⇒ 14 at 21
    ∷ trig (S "\"a\" <x:\\uD800>") ⇒ 7 at 16
    ∷ with_rows 0 (S "\"a\" <x:\\uD800>") ⇒ 14 at 12
    -- 7 before 8, at a token that is reached
    ∷ trig (utf8 "\"\\uD800\"") ⇒ 7 at 0
    ∷ trig (utf8 "\"\\uD800") ⇒ 6 at 0
    ∷ trig (utf8 ". \"\\uD800\"") ⇒ 8 at 0
    ∷ trig (S "\"\\\\uD800\" .") ⇒ 0 at 23
    -- 5 before what else stands anywhere, at the first byte of the sequence
    ∷ trig (0x7C ∷ 0x20 ∷ 0xE2 ∷ 0x82 ∷ []) ⇒ 5 at 2
    ∷ trig (0xE2 ∷ 0x82 ∷ 0x28 ∷ []) ⇒ 5 at 0
    ∷ trig (0xC0 ∷ 0x80 ∷ []) ⇒ 5 at 0
    ∷ trig (0x61 ∷ 0xF4 ∷ 0x90 ∷ 0x80 ∷ 0x80 ∷ []) ⇒ 5 at 1
    -- 8 at the end stands behind trailing blanks and comments
    ∷ trig (S "1 # c\n\n") ⇒ 8 at 19
    -- the first token that begins no grammatical text, where empty brackets are two tokens
    ∷ trig (utf8 "GRAPH [ a 1 ] {}") ⇒ 8 at 8
    ∷ trig (utf8 "[ a 1 ] {}") ⇒ 8 at 8
    ∷ trig (utf8 "[] .") ⇒ 8 at 3
    ∷ trig (utf8 "<x:s> [] 1 .") ⇒ 8 at 6
    ∷ within ample_words 0 ample_bytes (utf8 "GRAPH [ a 1 ] {}") ⇒ 15 at 6
    -- 9 where a name is used
    ∷ trig (utf8 "@prefix p:a <x:> .") ⇒ 8 at 8
    ∷ trig (times 65 "p" ++ utf8 ":a <x:p> 1 .") ⇒ 9 at 0
    -- a declared prefix over 64 bytes
    ∷ trig (utf8 "@prefix " ++ times 64 "p" ++ utf8 ": <x:> .") ⇒ 0 at 80
    ∷ trig (utf8 "@prefix " ++ times 65 "p" ++ utf8 ": <g> .") ⇒ 11 at 8
    -- [ and ( count together, those of empty ones too
    ∷ trig (S "" ++ times 64 "(" ++ utf8 "()" ++ times 64 ")" ++ utf8 " .") ⇒ 13 at 76
    ∷ trig (utf8 "<x:g> {" ++ S "" ++ times 64 "(" ++ times 64 ")" ++ utf8 "}") ⇒ 0 at 148
    ∷ with_rows 320 (S "" ++ times 64 "[<x:p>" ++ utf8 "[") ⇒ 13 at 396
    -- the lent base is not unescaped
    ∷ against (utf8 "x:\\u0041") [] ⇒ 3 at 0
    ∷ against (utf8 "x:#f") [] ⇒ 0 at 0
    ∷ against (utf8 "é:") [] ⇒ 3 at 0
    ∷ [])
unfolding computing
answers = refl

-- ---- Tokens

tokens : Gives verdict (
    -- no blank is needed between tokens
    trig (utf8 "<x:s>atrue.") ⇒ 0 at 11
    ∷ trig (utf8 "<x:s>a truex") ⇒ 6 at 11
    ∷ trig (S "(1+1-1.5.5).") ⇒ 0 at 24
    -- names take in what follows, but for dots at their end
    ∷ trig (utf8 "@prefix m: <x:> . " ++ S "m:a.m:b <x:q> 1 .") ⇒ 8 at 38
    ∷ trig (utf8 "@prefix m: <x:> . " ++ S "m:-1 .") ⇒ 8 at 32
    ∷ trig (utf8 "PREFIX : <x:> _:a._:b:c.") ⇒ 8 at 23
    ∷ trig (S "_:a....") ⇒ 8 at 16
    -- keywords as prefixes
    ∷ trig (utf8 "PREFIXp:<x:>") ⇒ 9 at 0
    ∷ trig (utf8 "@prefixp:<x:>.") ⇒ 8 at 0
    ∷ trig (utf8 "@prefix a:<x:>.a:a a:a a:a.") ⇒ 0 at 27
    ∷ trig (utf8 "PREFIX PREFIX:<x:>PREFIX:a a 1.") ⇒ 0 at 31
    -- in any case: of ASCII
    ∷ trig (utf8 "BAſE <x:>") ⇒ 6 at 0
    -- three quotes open a long string and nothing else
    ∷ trig (S "\"\"\" .") ⇒ 6 at 12
    ∷ trig (S "\"\"\"\"a\"\"\" .") ⇒ 0 at 22
    ∷ trig (S "\"\"\"a\"\"\"\" .") ⇒ 6 at 19
    ∷ trig (S "\"a\"\"\" .") ⇒ 8 at 15
    -- @base and @prefix are keywords where they are the whole match
    ∷ trig (S "\"a\"@base-x .") ⇒ 0 at 24
    ∷ trig (S "\"a\"@base1 .") ⇒ 8 at 15
    ∷ trig (S "\"a\"@BASE .") ⇒ 0 at 22
    ∷ trig (utf8 "@BASE <x:> .") ⇒ 8 at 0
    ∷ trig (S "\"a\"@en- .") ⇒ 6 at 18
    -- a byte order mark is a character of names
    ∷ trig (utf8 "\u{feff}" ++ S "1 .") ⇒ 6 at 0
    ∷ trig (utf8 "\u{feff}m:a a 1 .") ⇒ 9 at 0
    -- numbers
    ∷ trig (utf8 "<x:s> a <x:o>.5") ⇒ 8 at 13
    ∷ trig (S "1.e") ⇒ 6 at 14
    -- braces and GRAPH are tokens in mode 1
    ∷ turtle (utf8 "GRAPH <x:g> {}") ⇒ 8 at 0
    ∷ [])
unfolding computing
tokens = refl

-- ---- Grammar

grammar : Gives verdict (
    -- a bracket with properties stands alone; empty brackets and lists do not
    trig (utf8 "[ a 1 ] .") ⇒ 0 at 9
    ∷ turtle (utf8 "[ a 1 ] .") ⇒ 0 at 9
    ∷ trig (utf8 "{ [ a 1 ] }") ⇒ 0 at 11
    ∷ trig (utf8 "{ [ a 1 ] . }") ⇒ 0 at 13
    ∷ trig (utf8 "() .") ⇒ 8 at 3
    ∷ turtle (utf8 "(1) .") ⇒ 8 at 4
    -- a list is no graph label
    ∷ trig (utf8 "() {}") ⇒ 8 at 3
    ∷ trig (utf8 "GRAPH () {}") ⇒ 8 at 6
    -- dots and semicolons
    ∷ trig (utf8 "{}") ⇒ 0 at 2
    ∷ trig (utf8 "{ . }") ⇒ 8 at 2
    ∷ trig (S "1 . .") ⇒ 8 at 16
    ∷ trig (S "1 ; ; .") ⇒ 0 at 19
    ∷ trig (utf8 "<x:s> ; a 1 .") ⇒ 8 at 6
    ∷ trig (utf8 "PREFIX p: <x:> .") ⇒ 8 at 15
    -- directives stand outside braces
    ∷ trig (utf8 "{ @base <x:> . }") ⇒ 8 at 2
    ∷ [])
unfolding computing
grammar = refl

-- ---- IRIs: the object's

no_base : Gives verdict (
    trig (S "<1a:b> .") ⇒ 10 at 12
    ∷ trig (S "<:b> .") ⇒ 10 at 12
    ∷ trig (S "<a_b:c> .") ⇒ 10 at 12
    ∷ against (utf8 "x:y") (S "<1a:b> .") ⇒ 0 at 20
    ∷ [])
unfolding computing
no_base = refl

iris : Gives object_text (
    -- a reference with a scheme is taken as written
    trig (S "<x:a/../b> .") ⇒ utf8 "x:a/../b"
    ∷ against (utf8 "http://a/b") (S "<http:g> .") ⇒ utf8 "http:g"
    ∷ against (utf8 "x:y") (S "<1a:b> .") ⇒ utf8 "x:1a:b"
    -- escapes are undone first
    ∷ trig (S "<a\\u003Ab> .") ⇒ utf8 "a:b"
    ∷ trig (S "<x:\\u0020> .") ⇒ utf8 "x: "
    ∷ against (utf8 "x:y") (S "<\\u0023f> .") ⇒ utf8 "x:y#f"
    ∷ against (utf8 "x:/a/b") (S "<\\u002E\\U0000002E/g> .") ⇒ utf8 "x:/g"
    -- an empty path keeps the base's dots
    ∷ against (utf8 "x:/a/../b#f") (S "<> .") ⇒ utf8 "x:/a/../b"
    ∷ against (utf8 "x:/a/../b#f") (S "<c> .") ⇒ utf8 "x:/c"
    -- bases without authority or slash
    ∷ against (utf8 "x:y") (S "<g> .") ⇒ utf8 "x:g"
    ∷ against (utf8 "x:") (S "<g> .") ⇒ utf8 "x:g"
    ∷ against (utf8 "x:y/z") (S "<..> .") ⇒ utf8 "x:/"
    ∷ against (utf8 "x:y/z") (S "<../g> .") ⇒ utf8 "x:/g"
    ∷ against (utf8 "http://h") (S "<g> .") ⇒ utf8 "http://h/g"
    -- a path that begins with two slashes
    ∷ against (utf8 "x:/a") (S "</.//b> .") ⇒ utf8 "x://b"
    -- parts that are defined and empty stay
    ∷ against (utf8 "x:/a?q") (S "<?> .") ⇒ utf8 "x:/a?"
    ∷ against (utf8 "x:/a?q") (S "<#> .") ⇒ utf8 "x:/a?q#"
    ∷ against (utf8 "x:/a?q") (S "<//> .") ⇒ utf8 "x://"
    -- names are not resolved again, and keep percent signs
    ∷ trig (utf8 "@prefix p: <x:> . " ++ S "p:a\\/..\\/b .") ⇒ utf8 "x:a/../b"
    ∷ trig (utf8 "@prefix p: <x:> . " ++ S "p:%66 .") ⇒ utf8 "x:%66"
    -- directives are resolved under the base before them
    ∷ against (utf8 "x:/a/") (utf8 "@prefix p: <b/> . @base <c/> . " ++ S "p:d .") ⇒ utf8 "x:/a/b/d"
    ∷ against (utf8 "x:/a/") (utf8 "BASE <b/> BASE <c/> " ++ S "<d> .") ⇒ utf8 "x:/a/b/c/d"
    ∷ [])
unfolding computing
iris = refl

-- ---- Rows and terms

room : Gives verdict (
    -- the cell and its row are written at the element's first token, the element at its last
    with_rows 0 (S "(\"a\"@en) .") ⇒ 14 at 13
    ∷ with_rows 5 (S "(\"a\"@en) .") ⇒ 14 at 16
    ∷ with_rows 0 (S "(()) .") ⇒ 14 at 13
    ∷ with_rows 5 (S "(()) .") ⇒ 14 at 14
    ∷ with_rows 0 (S "() .") ⇒ 14 at 13
    ∷ [])
unfolding computing
room = refl

rows : Gives short (
    -- lists: the order of cells, elements and the names that a list supplies
    trig (S "(1 (2) ()) .") ⇒
    accepts 24 (9 ∷ 12 ∷ 189 ∷ [])
    (0 ∷ 1 ∷ 2 ∷ 3 ∷ 12
    ∷ 0 ∷ 3 ∷ 6 ∷ 5 ∷ 13
    ∷ 0 ∷ 3 ∷ 8 ∷ 7 ∷ 15
    ∷ 0 ∷ 7 ∷ 6 ∷ 9 ∷ 15
    ∷ 0 ∷ 9 ∷ 6 ∷ 10 ∷ 16
    ∷ 0 ∷ 9 ∷ 8 ∷ 11 ∷ 17
    ∷ 0 ∷ 7 ∷ 8 ∷ 12 ∷ 19
    ∷ 0 ∷ 12 ∷ 6 ∷ 11 ∷ 19
    ∷ 0 ∷ 12 ∷ 8 ∷ 11 ∷ 21
    ∷ [])
    (1 ∷ 0 ∷ 3 ∷ 0 ∷ 0
    ∷ 1 ∷ 3 ∷ 3 ∷ 0 ∷ 0
    ∷ 2 ∷ 6 ∷ 0 ∷ 0 ∷ 0
    ∷ 1 ∷ 6 ∷ 40 ∷ 0 ∷ 0
    ∷ 3 ∷ 46 ∷ 1 ∷ 4 ∷ 0
    ∷ 1 ∷ 47 ∷ 48 ∷ 0 ∷ 0
    ∷ 2 ∷ 95 ∷ 0 ∷ 1 ∷ 0
    ∷ 1 ∷ 95 ∷ 47 ∷ 0 ∷ 0
    ∷ 2 ∷ 142 ∷ 0 ∷ 2 ∷ 0
    ∷ 3 ∷ 142 ∷ 1 ∷ 4 ∷ 0
    ∷ 1 ∷ 143 ∷ 46 ∷ 0 ∷ 0
    ∷ 2 ∷ 189 ∷ 0 ∷ 3 ∷ 0
    ∷ [])
    (utf8 "x:sx:phttp://www.w3.org/2001/XMLSchema#integer1http://www.w3.org/1999/02/22-rdf-syntax-ns#first"
    ++ utf8 "http://www.w3.org/1999/02/22-rdf-syntax-ns#rest2http://www.w3.org/1999/02/22-rdf-syntax-ns#nil")
    -- tags as written, behind their texts; xsd:string as a term
    ∷ trig (S "\"a\"@en, \"a\", \"a\"@en, \"a\"@EN .") ⇒
    accepts 41 (4 ∷ 6 ∷ 52 ∷ [])
    (0 ∷ 1 ∷ 2 ∷ 3 ∷ 12
    ∷ 0 ∷ 1 ∷ 2 ∷ 5 ∷ 20
    ∷ 0 ∷ 1 ∷ 2 ∷ 3 ∷ 25
    ∷ 0 ∷ 1 ∷ 2 ∷ 6 ∷ 33
    ∷ [])
    (1 ∷ 0 ∷ 3 ∷ 0 ∷ 0
    ∷ 1 ∷ 3 ∷ 3 ∷ 0 ∷ 0
    ∷ 4 ∷ 6 ∷ 1 ∷ 7 ∷ 2
    ∷ 1 ∷ 9 ∷ 39 ∷ 0 ∷ 0
    ∷ 3 ∷ 48 ∷ 1 ∷ 4 ∷ 0
    ∷ 4 ∷ 49 ∷ 1 ∷ 50 ∷ 2
    ∷ [])
    (utf8 "x:sx:paenhttp://www.w3.org/2001/XMLSchema#stringaaEN")
    -- a label is one node throughout; blank numbers; a graph label without rows is a term
    ∷ trig (utf8 "_:a <x:p> [] . <x:g> { _:a <x:p> [] } [] {}") ⇒
    accepts 43 (2 ∷ 6 ∷ 7 ∷ [])
    (0 ∷ 1 ∷ 2 ∷ 3 ∷ 10
    ∷ 4 ∷ 1 ∷ 2 ∷ 5 ∷ 33
    ∷ [])
    (2 ∷ 0 ∷ 1 ∷ 0 ∷ 0
    ∷ 1 ∷ 1 ∷ 3 ∷ 0 ∷ 0
    ∷ 2 ∷ 4 ∷ 0 ∷ 1 ∷ 0
    ∷ 1 ∷ 4 ∷ 3 ∷ 0 ∷ 0
    ∷ 2 ∷ 7 ∷ 0 ∷ 2 ∷ 0
    ∷ 2 ∷ 7 ∷ 0 ∷ 3 ∷ 0
    ∷ [])
    (utf8 "ax:px:g")
    -- equal terms, however they are written
    ∷ trig (utf8 "<x:s> a 1, 01, \"1\"^^<http://www.w3.org/2001/XMLSchema#integer> .") ⇒
    accepts 64 (3 ∷ 5 ∷ 93 ∷ [])
    (0 ∷ 1 ∷ 2 ∷ 4 ∷ 8
    ∷ 0 ∷ 1 ∷ 2 ∷ 5 ∷ 11
    ∷ 0 ∷ 1 ∷ 2 ∷ 4 ∷ 15
    ∷ [])
    (1 ∷ 0 ∷ 3 ∷ 0 ∷ 0
    ∷ 1 ∷ 3 ∷ 47 ∷ 0 ∷ 0
    ∷ 1 ∷ 50 ∷ 40 ∷ 0 ∷ 0
    ∷ 3 ∷ 90 ∷ 1 ∷ 3 ∷ 0
    ∷ 3 ∷ 91 ∷ 2 ∷ 3 ∷ 0
    ∷ [])
    (utf8 "x:shttp://www.w3.org/1999/02/22-rdf-syntax-ns#typehttp://www.w3.org/2001/XMLSchema#integer101")
    ∷ [])
unfolding computing
rows = refl

-- ---- Errors that readers make

not_yet_declared : Gives verdict (trig (utf8 "m:a a 1 . PREFIX m: <x:>") ⇒ 9 at 0 ∷ [])
unfolding computing
not_yet_declared = refl

errors : Gives printed (
    -- a name stands under the latest declaration before it
    trig (utf8 "PREFIX m: <x:1#> m:a m:b m:c . PREFIX m: <x:2#> m:a m:b m:c .") ⇒ lines ("<x:1#a> <x:1#b> <x:1#c> ." ∷ "<x:2#a> <x:2#b> <x:2#c> ." ∷ [])
    -- m:a.b is one name, m:a. is a name and a dot
    ∷ trig (utf8 "PREFIX m: <x:> m:a.b m:p m:a.") ⇒ lines ("<x:a.b> <x:p> <x:a> ." ∷ [])
    -- # opens a comment
    ∷ trig (utf8 "PREFIX m: <x:> m:s m:p m:a#b\n.") ⇒ lines ("<x:s> <x:p> <x:a> ." ∷ [])
    -- %66 is not decoded
    ∷ trig (utf8 "PREFIX m: <x:> m:s m:p m:%66 .") ⇒ lines ("<x:s> <x:p> <x:%66> ." ∷ [])
    -- blank labels do not start afresh in each graph
    ∷ trig (utf8 "<x:g> { _:a <x:p> _:b } <x:h> { _:b <x:p> _:a }") ⇒ lines ("<x:g> { _:b0 <x:p> _:b1 . }" ∷ "<x:h> { _:b1 <x:p> _:b0 . }" ∷ [])
    ∷ [])
unfolding computing
errors = refl
