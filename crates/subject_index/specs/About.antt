-- What statements are about: the walk that an index and its look-up spare, over a list of statements.
use Rattle.std.specs.Prelude.{List, [], ◌∷◌, ℕ, zero, suc, length}
use Rattle.std.proofs.Math.Option.{Option, none, some}
use Rattle.text.specs.Text.{Text}
use Rattle.dataset.specs.Terms.{Term, iri, blank, literal, tagged, Quad}
use Rattle.look_up.specs.declared.Rows.{Rows}
use Rattle.subject_index.specs.Index.{walk}

-- The text of an IRI, none for another term.
abbrev pub iri_text : Term → Option Text
iri_text (iri t) = some t
iri_text (blank b) = none
iri_text (literal t d) = none
iri_text (tagged t g) = none

-- The IRI that is the subject of the statement i, from 0 on.
abbrev pub subject_of : List Quad → ℕ → Option Text
subject_of [] i = none
subject_of (q ∷ qs) zero = iri_text q.triple.subject
subject_of (q ∷ qs) (suc i) = subject_of qs i

-- How many statements are about an IRI, and the number of the first.
abbrev pub about : List Quad → Text → Rows
about qs t = walk (subject_of qs) t (length qs)
