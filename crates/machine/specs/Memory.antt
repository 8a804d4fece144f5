-- What is known and written while a document is read: the environment, the open graph, rows and terms.
use Rattle.std.specs.Prelude.{List, [], ◌∷◌, ◌++◌, ℕ, suc, length}
use Rattle.std.proofs.Math.Option.{Option, none, some}
use Rattle.text.specs.Text.{Text}
use Rattle.token.specs.Tokens.{Token}
use Rattle.dataset.specs.Terms.{Term, iri, literal}
use Rattle.environment.specs.Environment.{Environment, declare, set_base, start_environment}
use Rattle.dataset.specs.Constructors.{iri_of}
use Rattle.table.specs.Layout.{Row}
use Rattle.table.specs.Tables.{number}

-- A term as it stands in a row: its number.
abbrev pub RowTerm : Type 0
RowTerm = ℕ

-- `graph` is the graph that is open, 0 for the default graph.
pub record Memory : Type 0 where
  pub environment : Environment
  pub graph : RowTerm
  pub rows : List Row
  pub terms : List Term

abbrev pub start_memory : Text → Memory
start_memory base = record { environment = start_environment base; graph = 0; rows = []; terms = [] }

-- The memory with one part changed.
abbrev pub with_environment : Environment → Memory → Memory
with_environment e m = record { environment = e; graph = m.graph; rows = m.rows; terms = m.terms }

abbrev pub with_graph : RowTerm → Memory → Memory
with_graph g m = record { environment = m.environment; graph = g; rows = m.rows; terms = m.terms }

abbrev pub with_rows : List Row → Memory → Memory
with_rows rs m = record { environment = m.environment; graph = m.graph; rows = rs; terms = m.terms }

abbrev pub with_terms : List Term → Memory → Memory
with_terms ts m = record { environment = m.environment; graph = m.graph; rows = m.rows; terms = ts }

-- ---- Writing: a step that changes the memory and has a result

abbrev pub Write : Type 0 → Type 0
Write A = Memory → A × Memory

abbrev pub return : {A : Type 0} → A → Write A
return a m = (a, m)

infixl 10 ◌>>=◌
infixl 10 ◌>>◌
abbrev pub ◌>>=◌ : {A B : Type 0} → Write A → (A → Write B) → Write B
◌>>=◌ w f m = let r = w m in f r.0 r.1

abbrev pub ◌>>◌ : {A B : Type 0} → Write A → Write B → Write B
◌>>◌ w v m = let r = w m in v r.1

pub data Done : Type 0 where
  done : Done

-- ---- Terms

-- A new term, at the end.
abbrev pub new_term : Term → Write RowTerm
new_term t m = (suc (length m.terms), with_terms (m.terms ++ t ∷ []) m)

-- "Equal terms share a number, except that each [ and each list cell is new": the number of the equal term, or of a new one.
abbrev pub term_by : Option RowTerm → Term → Write RowTerm
term_by (some n) t m = (n, m)
term_by none t m = new_term t m

abbrev pub term : Term → Write RowTerm
term t m = term_by (number t m.terms) t m

-- A literal of a datatype: "a datatype is numbered before its literal".
abbrev pub typed : Text → Text → Write RowTerm
typed s d = do
  term (iri d)
  term (literal s d)

-- The IRI of a token, and the literal whose datatype it is.
abbrev pub iri_term : Token → Write RowTerm
iri_term t m = term (iri (iri_of m.environment t)) m

abbrev pub typed_by : Text → Token → Write RowTerm
typed_by s t m = typed s (iri_of m.environment t) m

-- ---- Rows

-- A row in the graph that is open.
abbrev pub row : RowTerm → RowTerm → RowTerm → ℕ → Write Done
row s p o at m = (done, with_rows (m.rows ++ record { graph = m.graph; subject = s; predicate = p; object = o; position = at } ∷ []) m)

-- The rows that follow stand in the graph g.
abbrev pub enter : RowTerm → Write Done
enter g m = (done, with_graph g m)

-- ---- Directives: "Namespaces and new bases are resolved when declared."

abbrev pub in_environment : Environment → Write Done
in_environment e m = (done, with_environment e m)

abbrev pub declare_prefix : Text → Token → Write Done
declare_prefix p t m = in_environment (declare p (iri_of m.environment t) m.environment) m

abbrev pub declare_base : Token → Write Done
declare_base t m = in_environment (set_base (iri_of m.environment t) m.environment) m
