-- Two editions compared, by computing.
use mathlib.Core.Path.{refl}
use mathlib.Core.Bool.{Bool, true, false}
use mathlib.Core.List.{List, [], ◌∷◌, map}
use Prim.Native.Nat.{ℕ}
use Prim.Native.String.{String}
use lib.ListN.{length, replicate}
use Rattle.text.specs.Text.{ascii}
use Rattle.text.proofs.Table.{◌⇒◌, Gives}
use Rattle.dataset.specs.Terms.{label, Term, iri, blank, literal, tagged, rdf_type, xsd_integer}
use Rattle.table.specs.Layout.{Row, Slices}
use Rattle.table.specs.Tables.{terms_words, store_bytes, store_size, rows_words}
use Rattle.usable.specs.Lent.{slices}
use Rattle.comparison.specs.Comparison.{Comparison, compare, computing}

-- ---- Editions

-- The position of an object is its number, so that equal statements stand at different ones.
abbrev row : ℕ → ℕ → ℕ → ℕ → Row
row g s p o = record { graph = g; subject = s; predicate = p; object = o; position = o }

abbrev made : List Term → List Row → Slices
made ts rs = slices (rows_words rs) (length rs) (terms_words ts) (length ts) (store_bytes ts) (store_size ts)

abbrev integer : String → Term
integer s = literal (ascii s) xsd_integer

-- <x:s> a ..: the objects by their numbers; the terms of the list begin at 4.
abbrev said : List Term → List ℕ → Slices
said ts os = made (iri (ascii "x:s") ∷ iri rdf_type ∷ iri xsd_integer ∷ ts) (map (row 0 1 2) os)

-- 1, 2, 2 and 2, 3 and 2, 1, 2, 1
abbrev old : Slices
old = said (integer "1" ∷ integer "2" ∷ []) (4 ∷ 5 ∷ 5 ∷ [])

abbrev new : Slices
new = said (integer "2" ∷ integer "3" ∷ []) (4 ∷ 5 ∷ [])

abbrev twice : Slices
twice = said (integer "2" ∷ integer "1" ∷ []) (4 ∷ 5 ∷ 4 ∷ 5 ∷ [])

abbrev only_2 : Slices
only_2 = said (integer "2" ∷ []) (4 ∷ [])

abbrev nothing : Slices
nothing = made [] []

-- <x:s> a 1 . and <x:s> <x:s> 1 .
abbrev s_is_1 : Slices
s_is_1 = said (integer "1" ∷ []) (4 ∷ [])

abbrev s_of_s_is_1 : Slices
s_of_s_is_1 = made (iri (ascii "x:s") ∷ iri xsd_integer ∷ integer "1" ∷ []) (row 0 1 1 3 ∷ [])

-- Literals that differ in datatype or in tag alone, and one with the text of the IRI x:s, which is 1.
abbrev with_object : ℕ → Slices
with_object n =
    said (integer "1" ∷ literal (ascii "1") (ascii "x:s") ∷ tagged (ascii "1") (ascii "en") ∷ tagged (ascii "1") (ascii "fr") ∷ integer "x:s" ∷ []) (n ∷ [])

-- <x:s> a 1 in the graph of this number: 0, <x:g>, <x:h>, _:g
abbrev in_graph : ℕ → Slices
in_graph g = made (iri (ascii "x:g") ∷ iri (ascii "x:h") ∷ blank (label (ascii "g")) ∷ iri (ascii "x:s") ∷ iri rdf_type ∷ iri xsd_integer ∷ integer "1" ∷ []) (row g 4 5 7 ∷ [])

-- _:a a _:b . and _:b a _:a . The first label has the blank number 0, the second 1.
abbrev nodes : String → String → Slices
nodes a b = made (blank (label (ascii a)) ∷ iri rdf_type ∷ blank (label (ascii b)) ∷ []) (row 0 1 2 3 ∷ [])

abbrev a_to_b : Slices
a_to_b = nodes "a" "b"

abbrev b_to_a : Slices
b_to_a = nodes "b" "a"

-- _:a a 1 . where a has the number 0, and where it has 1; and _:a {}
abbrev a_is_1 : Slices
a_is_1 = made (blank (label (ascii "a")) ∷ iri rdf_type ∷ iri xsd_integer ∷ integer "1" ∷ []) (row 0 1 2 4 ∷ [])

abbrev later_is_1 : Slices
later_is_1 = made (blank (label (ascii "b")) ∷ blank (label (ascii "a")) ∷ iri rdf_type ∷ iri xsd_integer ∷ integer "1" ∷ []) (row 0 2 3 5 ∷ [])

abbrev unstated : Slices
unstated = made (blank (label (ascii "a")) ∷ []) []

-- One text under two numbers, and the blank number 8 under two.
abbrev two_texts : Slices
two_texts = made (iri (ascii "x:p") ∷ iri (ascii "x:p") ∷ []) (row 0 1 1 2 ∷ row 0 2 2 1 ∷ [])

abbrev two_nodes : Slices
two_nodes = slices (rows_words (row 0 1 2 3 ∷ row 0 3 2 1 ∷ [])) 2 (2 ∷ 0 ∷ 0 ∷ 8 ∷ 0 ∷ 1 ∷ 0 ∷ 3 ∷ 0 ∷ 0 ∷ 2 ∷ 0 ∷ 0 ∷ 8 ∷ 0 ∷ []) 3 (ascii "x:p") 3

-- What lies past the counts: a row, and the term of a blank node.
abbrev past_counts : Slices
past_counts = slices (0 ∷ 1 ∷ 1 ∷ 1 ∷ 0 ∷ 0 ∷ 2 ∷ 1 ∷ 1 ∷ 0 ∷ []) 1 (1 ∷ 0 ∷ 3 ∷ 0 ∷ 0 ∷ 2 ∷ 0 ∷ 0 ∷ 0 ∷ 0 ∷ []) 1 (ascii "x:p") 3

-- A row with a missing term.
abbrev broken : Slices
broken = said [] (4 ∷ [])

-- ---- Questions and answers

pub record Question : Type 0 where
  pub left : Slices
  pub right : Slices
  pub pairing : List ℕ
  pub left_room : ℕ
  pub right_room : ℕ

abbrev differ_in : ℕ → ℕ → Slices → Slices → List ℕ → Question
differ_in m n l r p = record { left = l; right = r; pairing = p; left_room = m; right_room = n }

abbrev differ : Slices → Slices → List ℕ → Question
differ = differ_in 3 3

-- The lists are lent full of nines.
abbrev asked : Question → Comparison
asked q = compare q.left q.right q.pairing (replicate q.left_room 9) (replicate q.right_room 9)

abbrev told : ℕ → ℕ → Bool → List ℕ → List ℕ → Comparison
told m n b ls rs = record { number = 0; left_count = m; right_count = n; same = b; left_list = ls; right_list = rs }

abbrev as_lent : List ℕ
as_lent = 9 ∷ 9 ∷ 9 ∷ []

abbrev first_row : List ℕ
first_row = 0 ∷ 9 ∷ 9 ∷ []

abbrev equal : Comparison
equal = told 0 0 true as_lent as_lent

abbrev unequal : Comparison
unequal = told 1 1 false first_row first_row

abbrev left_only : Comparison
left_only = told 1 0 false first_row as_lent

-- "lists unchanged, counts 0, answer no"
abbrev unchanged : ℕ → List ℕ → List ℕ → Comparison
unchanged n ls rs = record { number = n; left_count = 0; right_count = 0; same = false; left_list = ls; right_list = rs }

abbrev refusal : ℕ → Comparison
refusal n = unchanged n as_lent as_lent

listings : Gives asked (
    differ old new [] ⇒ told 1 1 false first_row (1 ∷ 9 ∷ 9 ∷ [])
    ∷ differ new old [] ⇒ told 1 1 false (1 ∷ 9 ∷ 9 ∷ []) first_row
    ∷ differ only_2 old [] ⇒ told 0 1 false as_lent first_row
    ∷ differ old only_2 [] ⇒ left_only
    -- each once, by its first row, in row order
    ∷ differ twice nothing [] ⇒ told 2 0 false (0 ∷ 1 ∷ 9 ∷ []) as_lent
    ∷ differ nothing twice [] ⇒ told 0 2 false as_lent (0 ∷ 1 ∷ 9 ∷ [])
    ∷ differ twice old [] ⇒ equal
    ∷ differ nothing nothing [] ⇒ equal
    -- exactly enough, and too small
    ∷ differ_in 1 1 old new [] ⇒ told 1 1 false (0 ∷ []) (1 ∷ [])
    ∷ differ_in 0 1 old new [] ⇒ unchanged 26 [] (9 ∷ [])
    ∷ differ_in 1 0 old new [] ⇒ unchanged 26 (9 ∷ []) []
    ∷ differ_in 0 0 twice old [] ⇒ told 0 0 true [] []
    ∷ differ_in 1 0 twice nothing [] ⇒ unchanged 26 (9 ∷ []) []
    ∷ [])
unfolding computing
listings = refl

values : Gives asked (
    -- literals by text and datatype, tagged ones by text and tag
    differ (with_object 4) (with_object 4) [] ⇒ equal
    ∷ differ (with_object 4) (with_object 5) [] ⇒ unequal
    ∷ differ (with_object 4) (with_object 6) [] ⇒ unequal
    ∷ differ (with_object 6) (with_object 6) [] ⇒ equal
    ∷ differ (with_object 6) (with_object 7) [] ⇒ unequal
    ∷ differ (with_object 1) (with_object 8) [] ⇒ unequal
    ∷ differ s_is_1 s_of_s_is_1 [] ⇒ unequal
    -- the default graph is not any label
    ∷ differ (in_graph 1) (in_graph 0) [] ⇒ unequal
    ∷ differ (in_graph 0) (in_graph 1) [] ⇒ unequal
    ∷ differ (in_graph 1) (in_graph 1) [] ⇒ equal
    ∷ differ (in_graph 1) (in_graph 2) [] ⇒ unequal
    ∷ differ (in_graph 3) (in_graph 0) (0 ∷ 0 ∷ []) ⇒ unequal
    ∷ differ (in_graph 3) (in_graph 3) (0 ∷ 0 ∷ []) ⇒ equal
    -- blank nodes are equal through the pairing alone
    ∷ differ a_to_b a_to_b [] ⇒ unequal
    ∷ differ a_to_b b_to_a (0 ∷ 0 ∷ 1 ∷ 1 ∷ []) ⇒ equal
    ∷ differ a_to_b b_to_a (1 ∷ 1 ∷ 0 ∷ 0 ∷ []) ⇒ equal
    ∷ differ a_to_b b_to_a (0 ∷ 1 ∷ 1 ∷ 0 ∷ []) ⇒ unequal
    ∷ differ a_to_b a_to_b (0 ∷ 0 ∷ []) ⇒ unequal
    ∷ differ a_is_1 later_is_1 (0 ∷ 1 ∷ []) ⇒ equal
    ∷ differ later_is_1 a_is_1 (1 ∷ 0 ∷ []) ⇒ equal
    ∷ differ s_is_1 a_is_1 [] ⇒ unequal
    ∷ differ a_is_1 s_is_1 [] ⇒ unequal
    ∷ differ a_is_1 unstated (0 ∷ 0 ∷ []) ⇒ left_only
    -- one text and one blank number under two numbers
    ∷ differ two_texts nothing [] ⇒ left_only
    ∷ differ two_nodes nothing [] ⇒ left_only
    ∷ differ two_nodes two_nodes (8 ∷ 8 ∷ []) ⇒ equal
    ∷ differ past_counts nothing [] ⇒ left_only
    ∷ [])
unfolding computing
values = refl

refusals : Gives asked (
    -- 18 for either side
    differ broken nothing [] ⇒ refusal 18
    ∷ differ nothing broken [] ⇒ refusal 18
    -- 25: an odd word,
    ∷ differ a_is_1 a_is_1 (0 ∷ []) ⇒ refusal 25
    ∷ differ a_is_1 a_is_1 (0 ∷ 0 ∷ 1 ∷ []) ⇒ refusal 25
    -- a number missing on the left, on the right, or past the count, or that is no blank node's,
    ∷ differ a_is_1 a_to_b (1 ∷ 0 ∷ []) ⇒ refusal 25
    ∷ differ a_to_b a_is_1 (0 ∷ 1 ∷ []) ⇒ refusal 25
    ∷ differ past_counts a_to_b (0 ∷ 0 ∷ []) ⇒ refusal 25
    ∷ differ a_to_b past_counts (0 ∷ 0 ∷ []) ⇒ refusal 25
    ∷ differ old a_to_b (0 ∷ 0 ∷ []) ⇒ refusal 25
    -- paired twice on the left, on the right, the same pair twice
    ∷ differ a_to_b a_to_b (0 ∷ 0 ∷ 0 ∷ 1 ∷ []) ⇒ refusal 25
    ∷ differ a_to_b a_to_b (0 ∷ 0 ∷ 1 ∷ 0 ∷ []) ⇒ refusal 25
    ∷ differ a_is_1 a_is_1 (0 ∷ 0 ∷ 0 ∷ 0 ∷ []) ⇒ refusal 25
    -- 18 before 25, 25 before 26, 18 before 26
    ∷ differ broken nothing (0 ∷ []) ⇒ refusal 18
    ∷ differ nothing broken (0 ∷ []) ⇒ refusal 18
    ∷ differ_in 0 0 a_to_b a_to_b (0 ∷ []) ⇒ unchanged 25 [] []
    ∷ differ_in 0 3 old broken [] ⇒ unchanged 18 [] as_lent
    ∷ [])
unfolding computing
refusals = refl
