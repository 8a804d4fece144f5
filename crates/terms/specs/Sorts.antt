-- The sort of a term, and what is sought, as the definitions of terms speak of them.
use Rattle.std.specs.Prelude.{ℕ}
use Rattle.text.specs.Text.{Text}
use Rattle.spelling.specs.Form.{joined}
use Rattle.table.specs.Layout.{iri_kind, blank_kind, literal_kind, tagged_kind}
use Rattle.terms.specs.declared.Sort.{Sort}
use Rattle.terms.specs.declared.Sort.TheVariants.{Iri, Blank, Literal, Tagged}
use Rattle.terms.specs.declared.Sought.{Sought}

-- The number of its kind.
abbrev pub kind_of : Sort → ℕ
kind_of Iri = iri_kind
kind_of Blank = blank_kind
kind_of (Literal d) = literal_kind
kind_of Tagged = tagged_kind

-- The number of a literal's datatype, 0 for any other term.
abbrev pub type_of : Sort → ℕ
type_of Iri = 0
type_of Blank = 0
type_of (Literal d) = d
type_of Tagged = 0

-- The text: the front, and the back with its escapes undone.
abbrev pub text_in : Sought → Text
text_in s = joined s.front.now s.form s.back.now
