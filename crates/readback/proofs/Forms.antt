-- The statements that the writer takes, and their long form as a list of parts.
use mathlib.Core.Path.{◌≡◌, refl, sym, ap, ap₂, ◌∙◌}
use mathlib.Core.Bool.{true}
use mathlib.Core.List.{List, [], ◌∷◌, ◌++◌, append_assoc, append-nil}
use mathlib.Core.Option.{Option, none, some}
use Prim.Native.Nat.{ℕ, ◌≤◌}
use lib.ListN.{length}
use Rattle.text.specs.Text.{Text, ascii, cond, same_text}
use Rattle.limits.specs.Limits.{iri_limit}
use Rattle.utf8.specs.Utf8.{encodes, decode, first_bad}
use Rattle.utf8.proofs.Decoding.{encodes_append, valid_encoded}
use Rattle.utf8.proofs.Tests.{by}
use Rattle.token.specs.Kind.{Kind, IRIREF, STRING_LITERAL_QUOTE, BLANK_NODE_LABEL, LANGTAG, carets, dot, open_brace, close_brace}
use Rattle.dataset.specs.Terms.{Blank, label, bracket, cell, numbered, Term, iri, blank, literal, tagged, Triple, Quad, xsd_string}
use Rattle.table.specs.Usable.{is_tag, Takes, for_long_form}
use Rattle.table.specs.LongForm.{decimal, iri_byte, string_byte, escaped, iri_form, string_form, type_form}
use Rattle.readback.proofs.Cutting.{Part, printed, gap, points, bytes, bytes_append}
use Rattle.readback.proofs.Undone.{Rule, iri_rule, string_rule, lows_encodes, escaped_encodes}
use Rattle.readback.proofs.Printed.{marked, label_points, label_lows}
use Rattle.readback.proofs.Tags.{tag_token}

-- ---- Statements that a writer takes

pub record GoodIri (v : Takes) (s : Text) : Type 0 where
  pub taken : v.iri s ≡ true
  pub short : length s ≤ iri_limit
  pub utf8 : first_bad s ≡ none

abbrev pub Numbered : Blank → Type 0
Numbered (label s) = ⊥
Numbered (bracket p) = ⊥
Numbered (cell p) = ⊥
Numbered (numbered n) = Unit {0}

abbrev pub Good : Takes → Term → Type 0
Good v (iri s) = GoodIri v s
Good v (blank b) = Numbered b
Good v (literal s d) = (first_bad s ≡ none) × GoodIri v d
Good v (tagged s g) = (first_bad s ≡ none) × (v.tag g ≡ true)

-- An IRI; an IRI or a blank node.
abbrev pub GoodPredicate : Takes → Term → Type 0
GoodPredicate v (iri s) = GoodIri v s
GoodPredicate v (blank b) = ⊥
GoodPredicate v (literal s d) = ⊥
GoodPredicate v (tagged s g) = ⊥

abbrev pub GoodResource : Takes → Term → Type 0
GoodResource v (iri s) = GoodIri v s
GoodResource v (blank b) = Numbered b
GoodResource v (literal s d) = ⊥
GoodResource v (tagged s g) = ⊥

abbrev pub GoodGraph : Takes → Option Term → Type 0
GoodGraph v none = Unit {0}
GoodGraph v (some g) = GoodResource v g

pub record GoodQuad (v : Takes) (q : Quad) : Type 0 where
  pub graph : GoodGraph v q.graph
  pub subject : GoodResource v q.triple.subject
  pub predicate : GoodPredicate v q.triple.predicate
  pub object : Good v q.triple.object

abbrev pub GoodQuads : Takes → List Quad → Type 0
GoodQuads v [] = Unit {0}
GoodQuads v (q ∷ qs) = GoodQuad v q × GoodQuads v qs

pub predicate_good : (v : Takes) (t : Term) → GoodPredicate v t → Good v t
predicate_good v (iri s) g = g
predicate_good v (blank b) g = absurd g
predicate_good v (literal s d) g = absurd g
predicate_good v (tagged s h) g = absurd g

pub resource_good : (v : Takes) (t : Term) → GoodResource v t → Good v t
resource_good v (iri s) g = g
resource_good v (blank b) g = g
resource_good v (literal s d) g = absurd g
resource_good v (tagged s h) g = absurd g

-- ---- Their parts

-- The code points of a printed IRI and of a printed string.
abbrev pub iri_points : Text → List ℕ
iri_points s = marked 60 62 (escaped iri_byte (decode s))

abbrev pub string_points : Text → List ℕ
string_points s = marked 34 34 (escaped string_byte (decode s))

abbrev pub iri_part : Text → Part
iri_part s = printed IRIREF (iri_points s)

abbrev pub string_part : Text → Part
string_part s = printed STRING_LITERAL_QUOTE (string_points s)

abbrev pub number_of : Blank → ℕ
number_of (label s) = 0
number_of (bracket p) = 0
number_of (cell p) = 0
number_of (numbered n) = n

abbrev pub type_parts : Text → List Part
type_parts d = cond (same_text d xsd_string) [] (printed carets (94 ∷ 94 ∷ []) ∷ iri_part d ∷ [])

abbrev pub term_parts : Term → List Part
term_parts (iri s) = iri_part s ∷ []
term_parts (blank b) = printed BLANK_NODE_LABEL (label_points (number_of b)) ∷ []
term_parts (literal s d) = string_part s ∷ type_parts d
term_parts (tagged s g) = string_part s ∷ printed LANGTAG (64 ∷ g) ∷ []

-- Three terms and a dot; a line; the lines.
abbrev pub triple_parts : Triple → List Part → List Part
triple_parts t rest =
    term_parts t.subject ++ gap 32 ∷ (term_parts t.predicate ++ gap 32 ∷ (term_parts t.object ++ gap 32 ∷ printed dot (46 ∷ []) ∷ rest))

abbrev pub line_parts : Option Term → Triple → List Part → List Part
line_parts none t rest = triple_parts t (gap 10 ∷ rest)
line_parts (some g) t rest =
    term_parts g ++ gap 32 ∷ printed open_brace (123 ∷ []) ∷ gap 32 ∷ triple_parts t (gap 32 ∷ printed close_brace (125 ∷ []) ∷ gap 10 ∷ rest)

unfoldable pub parts : List Quad → List Part
parts [] = []
parts (q ∷ qs) = line_parts q.graph q.triple (parts qs)

-- ---- Their text

abbrev pub form : Term → Text
form (iri s) = iri_form s
form (blank b) = ascii "_:b" ++ decimal (number_of b)
form (literal s d) = string_form s ++ type_form d
form (tagged s g) = string_form s ++ ascii "@" ++ g

abbrev pub triple_text : Triple → Text
triple_text t = form t.subject ++ ascii " " ++ form t.predicate ++ ascii " " ++ form t.object ++ ascii " ."

abbrev pub line_text : Option Term → Triple → Text
line_text none t = triple_text t ++ ascii "\n"
line_text (some g) t = (form g ++ ascii " { " ++ triple_text t ++ ascii " }") ++ ascii "\n"

unfoldable pub text_of : List Quad → Text
text_of [] = []
text_of (q ∷ qs) = line_text q.graph q.triple ++ text_of qs

-- ---- The bytes of the parts are the text

module _ {f : ℕ → Text} (rule : Rule f) where
  pub marked_bytes : (a b : ℕ) (s : Text) → encodes (a ∷ []) ≡ a ∷ [] → encodes (b ∷ []) ≡ b ∷ [] → first_bad s ≡ none
      → encodes (marked a b (escaped f (decode s))) ≡ marked a b (escaped f s)
  marked_bytes a b s e d v =
      encodes_append (a ∷ []) (escaped f (decode s) ++ b ∷ [])
      ∙ ap₂ (λ (x y : Text). x ++ y) e
      (encodes_append (escaped f (decode s)) (b ∷ [])
      ∙ ap₂ (λ (x y : Text). x ++ y) (escaped_encodes rule (decode s) ∙ ap (escaped f) (sym (valid_encoded s v).bytes)) d)

-- The text of a token alone.
pub iri_bytes : (s : Text) → first_bad s ≡ none → encodes (iri_points s) ≡ iri_form s
unfolding encodes
iri_bytes s v = marked_bytes iri_rule 60 62 s refl refl v

pub string_bytes : (s : Text) → first_bad s ≡ none → encodes (string_points s) ≡ string_form s
unfolding encodes
string_bytes s v = marked_bytes string_rule 34 34 s refl refl v

pub label_bytes : (n : ℕ) → encodes (label_points n) ≡ label_points n
label_bytes n = lows_encodes (label_points n) (label_lows n)

pub tag_bytes : (g : Text) → is_tag g ≡ true → encodes (64 ∷ g) ≡ 64 ∷ g
tag_bytes g e = lows_encodes (64 ∷ g) (tag_token g e).ascii_only

bytes_printed : (k : Kind) (cs : List ℕ) (ps : List Part) → bytes (printed k cs ∷ ps) ≡ encodes cs ++ bytes ps
unfolding bytes points
bytes_printed k cs ps = encodes_append cs (points ps)

type_bytes : (d : Text) → GoodIri for_long_form d → bytes (type_parts d) ≡ type_form d
unfolding bytes points encodes
type_bytes d g =
    by (same_text d xsd_string) (λ e. rw e refl)
    (λ e. rw e (ap (λ (x : Text). 94 ∷ 94 ∷ x) (ap encodes (append-nil (iri_points d)) ∙ iri_bytes d g.utf8)))

pub term_bytes : (t : Term) → Good for_long_form t → bytes (term_parts t) ≡ form t
unfolding bytes points encodes
term_bytes (iri s) g = ap encodes (append-nil (iri_points s)) ∙ iri_bytes s g.utf8
term_bytes (blank b) g = ap encodes (append-nil (label_points (number_of b))) ∙ label_bytes (number_of b)
term_bytes (literal s d) g = bytes_printed STRING_LITERAL_QUOTE (string_points s) (type_parts d) ∙ ap₂ (λ (x y : Text). x ++ y) (string_bytes s g.0) (type_bytes d g.1)
term_bytes (tagged s t) g =
    bytes_printed STRING_LITERAL_QUOTE (string_points s) (printed LANGTAG (64 ∷ t) ∷ [])
    ∙ ap₂ (λ (x y : Text). x ++ y) (string_bytes s g.0) (ap encodes (append-nil (64 ∷ t)) ∙ tag_bytes t g.1)
    ∙ sym (append_assoc (string_form s) (64 ∷ []) t)

-- A term and a blank.
blank_bytes : (t : Term) → Good for_long_form t → (rest : List Part) → bytes (term_parts t ++ gap 32 ∷ rest) ≡ form t ++ 32 ∷ bytes rest
unfolding bytes points encodes
blank_bytes t g rest = bytes_append (term_parts t) (gap 32 ∷ rest) ∙ ap (λ (x : Text). x ++ 32 ∷ bytes rest) (term_bytes t g)

module _ (t : Triple) (s : Good for_long_form t.subject) (p : Good for_long_form t.predicate) (o : Good for_long_form t.object) where
  triple_bytes : (rest : List Part) → bytes (triple_parts t rest) ≡ triple_text t ++ bytes rest
  unfolding bytes points encodes
  triple_bytes rest =
      blank_bytes t.subject s (term_parts t.predicate ++ gap 32 ∷ (term_parts t.object ++ gap 32 ∷ printed dot (46 ∷ []) ∷ rest))
      ∙ ap (λ (x : Text). form t.subject ++ 32 ∷ x)
      (blank_bytes t.predicate p (term_parts t.object ++ gap 32 ∷ printed dot (46 ∷ []) ∷ rest)
      ∙ ap (λ (x : Text). form t.predicate ++ 32 ∷ x) (blank_bytes t.object o (printed dot (46 ∷ []) ∷ rest)))
      ∙ join (form t.subject) (form t.predicate) (form t.object) (bytes rest)
    where
      join : (a b c r : Text) → a ++ 32 ∷ (b ++ 32 ∷ (c ++ 32 ∷ 46 ∷ r)) ≡ a ++ ascii " " ++ b ++ ascii " " ++ c ++ ascii " ." ++ r
      join a b c r = simp append_assoc

  line_bytes : (g : Option Term) → GoodGraph for_long_form g → (rest : List Part) → bytes (line_parts g t rest) ≡ line_text g t ++ bytes rest
  unfolding bytes points encodes
  line_bytes none h rest = triple_bytes (gap 10 ∷ rest) ∙ sym (append_assoc (triple_text t) (10 ∷ []) (bytes rest))
  line_bytes (some g) h rest =
      blank_bytes g (resource_good for_long_form g h) (printed open_brace (123 ∷ []) ∷ gap 32 ∷ triple_parts t (gap 32 ∷ printed close_brace (125 ∷ []) ∷ gap 10 ∷ rest))
      ∙ ap (λ (x : Text). form g ++ 32 ∷ 123 ∷ 32 ∷ x) (triple_bytes (gap 32 ∷ printed close_brace (125 ∷ []) ∷ gap 10 ∷ rest))
      ∙ join (form g) (triple_text t) (bytes rest)
    where
      join : (a b r : Text) → a ++ 32 ∷ 123 ∷ 32 ∷ (b ++ 32 ∷ 125 ∷ 10 ∷ r) ≡ (a ++ ascii " { " ++ b ++ ascii " }") ++ ascii "\n" ++ r
      join a b r = simp append_assoc

pub parts_bytes : (qs : List Quad) → GoodQuads for_long_form qs → bytes (parts qs) ≡ text_of qs
unfolding bytes points encodes parts text_of
parts_bytes [] g = refl
parts_bytes (q ∷ qs) g =
    let h = g.0 in
    line_bytes q.triple (resource_good for_long_form q.triple.subject h.subject) (predicate_good for_long_form q.triple.predicate h.predicate) h.object q.graph h.graph (parts qs)
    ∙ ap (λ (x : Text). line_text q.graph q.triple ++ x) (parts_bytes qs g.1)
