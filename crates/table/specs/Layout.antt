-- How rows and terms lie in lent words. This is the one place that knows.
use Rattle.std.specs.Prelude.{List, [], ◌∷◌, ℕ, pred, ◌+◌, ◌*◌, ◌/◌, get_or, take, drop}
use Rattle.text.specs.Text.{Text}

-- "A row is five words: graph, subject, predicate, object, position of the object's first byte."
-- Numbers are of terms; "graph 0 is the default graph".
pub record Row : Type 0 where
  pub graph : ℕ
  pub subject : ℕ
  pub predicate : ℕ
  pub object : ℕ
  pub position : ℕ

abbrev pub row_size : ℕ
row_size = 5

unfoldable pub row_words : Row → List ℕ
row_words r = r.graph ∷ r.subject ∷ r.predicate ∷ r.object ∷ r.position ∷ []

-- "A term is five words": its kind, the start and length of its text, and two that depend on the kind.
pub record Entry : Type 0 where
  pub kind : ℕ
  pub start : ℕ
  pub size : ℕ
  pub fourth : ℕ
  pub fifth : ℕ

abbrev pub term_size : ℕ
term_size = 5

unfoldable pub entry_words : Entry → List ℕ
entry_words t = t.kind ∷ t.start ∷ t.size ∷ t.fourth ∷ t.fifth ∷ []

-- The kinds of term: "1 IRI, 2 blank, 3 literal, 4 tagged literal".
abbrev pub iri_kind : ℕ
iri_kind = 1

abbrev pub blank_kind : ℕ
blank_kind = 2

abbrev pub literal_kind : ℕ
literal_kind = 3

abbrev pub tagged_kind : ℕ
tagged_kind = 4

-- How many rows and terms so many words have room for.
abbrev pub row_room : ℕ → ℕ
row_room words = words / row_size

abbrev pub term_room : ℕ → ℕ
term_room words = words / term_size

-- "32-bit words": what a word holds is below this.
abbrev pub word_limit : ℕ
word_limit = 4294967296

-- ---- What lent slices hold

pub record Slices : Type 0 where
  pub rows : List ℕ
  pub row_count : ℕ
  pub terms : List ℕ
  pub term_count : ℕ
  pub store : Text
  pub store_count : ℕ

-- The row i, from 0 on, and the term n, from 1 on.
unfoldable pub row_at : List ℕ → ℕ → Row
row_at words i =
    let at = row_size * i in
    record { graph = get_or words at 0; subject = get_or words (at + 1) 0; predicate = get_or words (at + 2) 0; object = get_or words (at + 3) 0; position = get_or words (at + 4) 0 }

unfoldable pub entry_at : List ℕ → ℕ → Entry
entry_at words n =
    let at = term_size * pred n in
    record { kind = get_or words at 0; start = get_or words (at + 1) 0; size = get_or words (at + 2) 0; fourth = get_or words (at + 3) 0; fifth = get_or words (at + 4) 0 }

-- A part of the store.
abbrev pub span : Text → ℕ → ℕ → Text
span store start size = take size (drop start store)
