-- Which tables the writer takes, whatever lent slices hold, and the statements in them.
use Rattle.std.specs.Prelude.{List, [], ◌∷◌, Bool, true, false, ◌&&◌, ◌||◌, ℕ, zero, suc, ◌+◌, ◌*◌, eqb, leb, ltb, length}
use Rattle.std.proofs.Math.Option.{Option, none, some}
use Rattle.text.specs.Text.{Text, cond, between, is_none}
use Rattle.limits.specs.Limits.{iri_limit}
use Rattle.utf8.specs.Utf8.{first_bad}
use Rattle.token.specs.Kind.{kind_code, LANGTAG}
use Rattle.token.specs.Regular.{Match, nothing, hit}
use Rattle.token.specs.Terminals.{token_at}
use Rattle.iri.specs.Iri.{has_scheme}
use Rattle.dataset.specs.Terms.{numbered, Term, iri, blank, literal, tagged, Quad}
use Rattle.table.specs.Layout.{Row, row_size, row_at, Entry, term_size, entry_at, iri_kind, blank_kind, literal_kind, tagged_kind, Slices, span}

-- The test holds of every number from `from` on, n of them.
unfoldable pub each : (ℕ → Bool) → ℕ → ℕ → Bool
each p from zero = true
each p from (suc n) = let r = each p (suc from) n in p from && r

-- "a tag is not LANGTAG without its @ or is exactly base or prefix": behind its @ it is a token of that kind, as a whole.
unfoldable pub is_match : Match → ℕ → ℕ → Bool
is_match nothing k n = false
is_match (hit j m) k n = eqb j k && eqb m n

unfoldable pub is_tag : Text → Bool
is_tag g = is_match (token_at (64 ∷ g)) (kind_code LANGTAG) (suc (length g))

-- What a writer takes beyond the layout: which texts are IRIs to it, and which are tags.
pub record Takes : Type 0 where
  pub iri : Text → Bool
  pub tag : Text → Bool

-- The long form's: not "an IRI has no scheme", and not "a tag is not LANGTAG without its @ or is exactly base or prefix".
abbrev pub for_long_form : Takes
for_long_form = record { iri = has_scheme; tag = is_tag }

module _ (s : Slices) where
  abbrev pub the : ℕ → Entry
  the n = entry_at s.terms n

  abbrev pub text : ℕ → Text
  text n = span s.store (the n).start (the n).size

  abbrev pub tag : ℕ → Text
  tag n = span s.store (the n).fourth (the n).fifth

  -- "a span leaves the used store": the sum is one of whole numbers.
  abbrev pub inside : ℕ → ℕ → Bool
  inside start size = leb (start + size) s.store_count

  -- "a count goes past its slice"
  unfoldable pub counts_fit : Bool
  counts_fit =
      leb (row_size * s.row_count) (length s.rows) && leb (term_size * s.term_count) (length s.terms)
      && leb s.store_count (length s.store)

  abbrev pub has_kind : ℕ → ℕ → Bool
  has_kind k n = eqb (the n).kind k

  -- "a datatype is not an earlier IRI term"
  abbrev pub good_datatype : ℕ → Bool
  good_datatype n = let d = (the n).fourth in leb 1 d && ltb d n && has_kind iri_kind d

  -- "a row names a missing term"; "graph or subject is a literal, predicate not an IRI"
  abbrev pub present : ℕ → Bool
  present n = between 1 s.term_count n

  abbrev pub resource : ℕ → Bool
  resource n = present n && (has_kind iri_kind n || has_kind blank_kind n)

  unfoldable pub good_row : Row → Bool
  good_row r =
      (eqb r.graph 0 || resource r.graph) && resource r.subject
      && (present r.predicate && has_kind iri_kind r.predicate) && present r.object

module _ (w : Takes) (s : Slices) where
  -- "an IRI has no scheme or is over 1,024 bytes"
  abbrev pub good_iri : ℕ → Bool
  good_iri n = w.iri (text s n) && leb (the s n).size iri_limit

  abbrev pub good_tag : ℕ → Bool
  good_tag n = inside s (the s n).fourth (the s n).fifth && w.tag (tag s n)

  -- Not: "a span leaves the used store", "a text is not UTF-8"; and what a term of each kind must be.
  unfoldable pub good_term : ℕ → Bool
  good_term n =
      inside s (the s n).start (the s n).size && is_none (first_bad (text s n))
      && ((has_kind s iri_kind n && good_iri n) || has_kind s blank_kind n || (has_kind s literal_kind n && good_datatype s n) || (has_kind s tagged_kind n && good_tag n))

  -- The tables that the writer takes; all others give 18.
  unfoldable pub usable : Bool
  usable =
      counts_fit s && each good_term 1 s.term_count && each (λ i. good_row s (row_at s.rows i)) 0 s.row_count

-- ---- The statements in usable tables: "blank number .. (it is the node)"

module _ (s : Slices) where
  abbrev pub term : ℕ → Term
  term n =
      cond (has_kind s iri_kind n) (iri (text s n))
      (cond (has_kind s blank_kind n) (blank (numbered (the s n).fourth))
      (cond (has_kind s literal_kind n) (literal (text s n) (text s (the s n).fourth))
      (tagged (text s n) (tag s n))))

  abbrev pub graph : ℕ → Option Term
  graph zero = none
  graph (suc g) = some (term (suc g))

  abbrev pub quad : Row → Quad
  quad r = record { graph = graph r.graph; triple = record { subject = term r.subject; predicate = term r.predicate; object = term r.object } }

  unfoldable pub quads_from : ℕ → ℕ → List Quad
  quads_from i zero = []
  quads_from i (suc n) = quad (row_at s.rows i) ∷ quads_from (suc i) n

  unfoldable pub quads_held : List Quad
  quads_held = quads_from 0 s.row_count
