-- RDF terms and the statements of a dataset (RDF 1.1 Concepts, sections 3 and 4).
use Rattle.std.proofs.Math.Option.{Option}
use Rattle.std.specs.Prelude.{ℕ}
use Rattle.text.specs.Text.{Text, ascii}

-- A label stands for one blank node throughout the document. Each [ and each list cell is a new one, told from the others by its place:
-- that of the [, and that of the first token of the cell's element. In tables a blank node is known by its number.
pub data Blank : Type 0 where
  label : Text → Blank
  bracket cell numbered : ℕ → Blank

-- An IRI; a blank node; a literal with its datatype's IRI; a literal with a language tag, whose datatype is rdf:langString.
pub data Term : Type 0 where
  iri : Text → Term
  blank : Blank → Term
  literal : Text → Text → Term
  tagged : Text → Text → Term

pub record Triple : Type 0 where
  pub subject : Term
  pub predicate : Term
  pub object : Term

-- A triple of the default graph (none), or of a graph with a name.
pub record Quad : Type 0 where
  pub graph : Option Term
  pub triple : Triple

-- ---- Names that the language supplies

abbrev pub rdf_type : Text
rdf_type = ascii "http://www.w3.org/1999/02/22-rdf-syntax-ns#type"

abbrev pub rdf_first : Text
rdf_first = ascii "http://www.w3.org/1999/02/22-rdf-syntax-ns#first"

abbrev pub rdf_rest : Text
rdf_rest = ascii "http://www.w3.org/1999/02/22-rdf-syntax-ns#rest"

abbrev pub rdf_nil : Text
rdf_nil = ascii "http://www.w3.org/1999/02/22-rdf-syntax-ns#nil"

abbrev pub xsd_string : Text
xsd_string = ascii "http://www.w3.org/2001/XMLSchema#string"

abbrev pub xsd_integer : Text
xsd_integer = ascii "http://www.w3.org/2001/XMLSchema#integer"

abbrev pub xsd_decimal : Text
xsd_decimal = ascii "http://www.w3.org/2001/XMLSchema#decimal"

abbrev pub xsd_double : Text
xsd_double = ascii "http://www.w3.org/2001/XMLSchema#double"

abbrev pub xsd_boolean : Text
xsd_boolean = ascii "http://www.w3.org/2001/XMLSchema#boolean"
