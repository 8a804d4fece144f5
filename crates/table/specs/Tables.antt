-- Rows and terms as they are written, and the words and bytes that hold them.
use Rattle.std.specs.Prelude.{List, [], ◌∷◌, ◌++◌, Bool, true, false, ◌&&◌, ℕ, zero, suc, ◌+◌, eqb, length}
use Rattle.std.proofs.Math.Option.{Option, none, some}
use Rattle.text.specs.Text.{Text, cond, same_text}
use Rattle.dataset.specs.Terms.{Blank, label, bracket, cell, numbered, Term, iri, blank, literal, tagged, Quad}
use Rattle.table.specs.Layout.{Row, row_words, Entry, entry_words, iri_kind, blank_kind, literal_kind, tagged_kind}

-- ---- Terms and their numbers

-- "Equal terms share a number": IRIs by their text, blank nodes by their label, literals by text and datatype, tagged ones by text and tag as written.
unfoldable pub same_blank : Blank → Blank → Bool
same_blank (label s) (label t) = same_text s t
same_blank (label s) (bracket q) = false
same_blank (label s) (cell q) = false
same_blank (label s) (numbered q) = false
same_blank (bracket p) (label t) = false
same_blank (bracket p) (bracket q) = eqb p q
same_blank (bracket p) (cell q) = false
same_blank (bracket p) (numbered q) = false
same_blank (cell p) (label t) = false
same_blank (cell p) (bracket q) = false
same_blank (cell p) (cell q) = eqb p q
same_blank (cell p) (numbered q) = false
same_blank (numbered p) (label t) = false
same_blank (numbered p) (bracket q) = false
same_blank (numbered p) (cell q) = false
same_blank (numbered p) (numbered q) = eqb p q

unfoldable pub same_term : Term → Term → Bool
same_term (iri s) (iri t) = same_text s t
same_term (iri s) (blank c) = false
same_term (iri s) (literal t e) = false
same_term (iri s) (tagged t h) = false
same_term (blank b) (iri t) = false
same_term (blank b) (blank c) = same_blank b c
same_term (blank b) (literal t e) = false
same_term (blank b) (tagged t h) = false
same_term (literal s d) (iri t) = false
same_term (literal s d) (blank c) = false
same_term (literal s d) (literal t e) = same_text s t && same_text d e
same_term (literal s d) (tagged t h) = false
same_term (tagged s g) (iri t) = false
same_term (tagged s g) (blank c) = false
same_term (tagged s g) (literal t e) = false
same_term (tagged s g) (tagged t h) = same_text s t && same_text g h

-- "Terms are numbered from 1": the number of a term in the list, where the first has the number n.
unfoldable pub number_from : ℕ → Term → List Term → Option ℕ
number_from n t [] = none
number_from n t (u ∷ us) = let r = number_from (suc n) t us in cond (same_term t u) (some n) r

unfoldable pub number : Term → List Term → Option ℕ
number t ts = number_from 1 t ts

abbrev pub or_zero : Option ℕ → ℕ
or_zero none = 0
or_zero (some n) = n

-- The term with a number.
unfoldable pub term_at : List Term → ℕ → Option Term
term_at [] n = none
term_at (t ∷ ts) zero = none
term_at (t ∷ ts) (suc zero) = some t
term_at (t ∷ ts) (suc (suc n)) = term_at ts (suc n)

-- ---- Words and bytes

abbrev pub is_blank : Term → Bool
is_blank (iri s) = false
is_blank (blank b) = true
is_blank (literal s d) = false
is_blank (tagged s g) = false

-- The bytes that a term has in the store: "a tag after its text". A blank node's text is its label.
abbrev pub label_of : Blank → Text
label_of (label s) = s
label_of (bracket p) = []
label_of (cell p) = []
label_of (numbered p) = []

abbrev pub text_of : Term → Text
text_of (iri s) = s
text_of (blank b) = label_of b
text_of (literal s d) = s
text_of (tagged s g) = s

abbrev pub tag_of : Term → Text
tag_of (iri s) = []
tag_of (blank b) = []
tag_of (literal s d) = []
tag_of (tagged s g) = g

abbrev pub term_bytes : Term → Text
term_bytes t = text_of t ++ tag_of t

abbrev pub entry : ℕ → ℕ → ℕ → ℕ → ℕ → Entry
entry k start size a b = record { kind = k; start = start; size = size; fourth = a; fifth = b }

-- The words of a term, where `used` bytes of the store are used before it, there are so many blank nodes before it, and `all` are all terms.
abbrev pub entry_of : List Term → ℕ → ℕ → Term → Entry
entry_of all used blanks (iri s) = entry iri_kind used (length s) 0 0
entry_of all used blanks (blank b) = entry blank_kind used (length (label_of b)) blanks 0
entry_of all used blanks (literal s d) = entry literal_kind used (length s) (or_zero (number (iri d) all)) 0
entry_of all used blanks (tagged s g) = entry tagged_kind used (length s) (used + length s) (length g)

unfoldable pub words_from : List Term → ℕ → ℕ → List Term → List ℕ
words_from all used blanks [] = []
words_from all used blanks (t ∷ ts) =
    entry_words (entry_of all used blanks t) ++ words_from all (used + length (term_bytes t)) (cond (is_blank t) (suc blanks) blanks) ts

-- "blank number from 0"; "a datatype is numbered before its literal".
unfoldable pub terms_words : List Term → List ℕ
terms_words ts = words_from ts 0 0 ts

-- "A new term's text is written into the unused end of the store"
unfoldable pub store_bytes : List Term → Text
store_bytes [] = []
store_bytes (t ∷ ts) = term_bytes t ++ store_bytes ts

unfoldable pub store_size : List Term → ℕ
store_size [] = 0
store_size (t ∷ ts) = length (term_bytes t) + store_size ts

unfoldable pub rows_words : List Row → List ℕ
rows_words [] = []
rows_words (r ∷ rs) = row_words r ++ rows_words rs

-- ---- The statements that rows and terms hold

abbrev pub or_nil : Option Term → Term
or_nil none = iri []
or_nil (some t) = t

abbrev pub term_of : List Term → ℕ → Term
term_of ts n = or_nil (term_at ts n)

-- "graph 0 is the default graph"
abbrev pub graph_of : List Term → ℕ → Option Term
graph_of ts zero = none
graph_of ts (suc g) = some (term_of ts (suc g))

abbrev pub quad_of : List Term → Row → Quad
quad_of ts r =
    record {
      graph = graph_of ts r.graph;
      triple = record { subject = term_of ts r.subject; predicate = term_of ts r.predicate; object = term_of ts r.object };
    }

unfoldable pub quads : List Term → List Row → List Quad
quads ts [] = []
quads ts (r ∷ rs) = quad_of ts r ∷ quads ts rs
