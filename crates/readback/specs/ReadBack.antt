-- "The long form, read again, gives the same statements up to renaming of blank nodes"
use Rattle.std.specs.Prelude.{◌≡◌, true, List, [], ◌∷◌, ◌++◌, map, ℕ, ◌≤◌, ◌<◌, length, take}
use Rattle.std.proofs.Math.Option.{Option, none, some}
use Rattle.text.specs.Text.{Text, ascii}
use Rattle.limits.specs.Limits.{document_limit, work_size}
use Rattle.grammar.specs.Ebnf.{leaves}
use Rattle.grammar.specs.Productions.{trig, production, kind_of, Derivation}
use Rattle.dataset.specs.Terms.{Blank, label, bracket, cell, numbered, Term, iri, blank, literal, tagged, Quad}
use Rattle.dataset.specs.Statements.{statements}
use Rattle.table.specs.Layout.{word_limit, Slices}
use Rattle.table.specs.Tables.{quads}
use Rattle.table.specs.Usable.{for_long_form, usable, term, quads_held}
use Rattle.table.specs.LongForm.{decimal, long_form, write}
use Rattle.machine.specs.Memory.{Memory}
use Rattle.machine.specs.Read.{Lent, contents, Answer, mode_of, room_of, success, read}
use Rattle.machine.specs.Construction.{tables}
use Rattle.machine.specs.Demand.{document_tokens, room_for, Fits, Meets}

-- "It is read again in mode 0."
abbrev pub long_form_mode : ℕ
long_form_mode = 0

-- ---- The renaming

-- Terms, and statements, with another name for each blank node.
abbrev pub with_blanks_term : (Blank → Blank) → Term → Term
with_blanks_term f (iri s) = iri s
with_blanks_term f (blank b) = blank (f b)
with_blanks_term f (literal s d) = literal s d
with_blanks_term f (tagged s g) = tagged s g

abbrev pub with_blanks_graph : (Blank → Blank) → Option Term → Option Term
with_blanks_graph f none = none
with_blanks_graph f (some g) = some (with_blanks_term f g)

abbrev pub with_blanks : (Blank → Blank) → Quad → Quad
with_blanks f q =
    record {
      graph = with_blanks_graph f q.graph;
      triple = record {
        subject = with_blanks_term f q.triple.subject;
        predicate = with_blanks_term f q.triple.predicate;
        object = with_blanks_term f q.triple.object;
      };
    }

-- "Blanks as _:b and the blank number": the label under which the node with a number is read again.
abbrev pub label_of_number : ℕ → Text
label_of_number n = ascii "b" ++ decimal n

abbrev pub renamed_blank : Blank → Blank
renamed_blank (label s) = label s
renamed_blank (bracket p) = bracket p
renamed_blank (cell p) = cell p
renamed_blank (numbered n) = label (label_of_number n)

-- Terms, and statements, renamed so.
abbrev pub renamed_term : Term → Term
renamed_term = with_blanks_term renamed_blank

abbrev pub renamed : Quad → Quad
renamed = with_blanks renamed_blank

-- ---- The statements

-- The words of a lent slice.
abbrev pub Words : List ℕ → Type 0
Words [] = Unit {0}
Words (w ∷ ws) = (w < word_limit) × Words ws

-- No two blank nodes of the tables get one label: terms that are renamed alike are the same.
pub record KeepsApart (s : Slices) : Type 0 where
  pub apart : (m n : ℕ) → renamed_term (term s m) ≡ renamed_term (term s n) → term s m ≡ term s n

-- The long form of the tables has a derivation whose statements are those in the tables, renamed; and with a work slice and room for what that
-- derivation writes, the long form is accepted.
pub record ReadsBack (s : Slices) : Type 0 where
  pub derivation : Derivation trig
  pub tokens : leaves kind_of (production trig) derivation ≡ document_tokens (long_form s)
  pub same : statements trig derivation [] ≡ map renamed (quads_held s)
  pub accepted : (lent : Lent) → work_size ≤ lent.work → Fits (room_of lent) (tables trig derivation []) → Meets (long_form s) long_form_mode [] lent

-- The same of the reader's answer: where there is room for what it writes, it accepts, and its tables hold the statements, renamed.
pub record ReadAgain (s : Slices) : Type 0 where
  pub memory : Memory
  pub same : quads memory.terms memory.rows ≡ map renamed (quads_held s)
  pub answer :
      (lent : Lent) → work_size ≤ lent.work → Fits (room_of lent) memory → read (long_form s) long_form_mode [] lent ≡ success (length (long_form s)) memory

-- ---- Over documents

-- What the reader's answer leaves in slices that held these before, with its counts: what is handed to the writer.
abbrev pub slices_after : Answer → List ℕ → List ℕ → Text → Slices
slices_after a rows terms store =
    record {
      rows = contents a.rows rows;
      row_count = a.row_count;
      terms = contents a.terms terms;
      term_count = a.term_count;
      store = contents a.store store;
      store_count = a.store_count;
    }

-- A text is accepted in mode 0, where there is room for what it writes, and its tables then hold the statements of the document, in order, with other
-- names for blank nodes: no two get the same.
pub record SameStatements (doc : Text) (mode : ℕ) (base : Text) (text : Text) : Type 0 where
  pub derivation : Derivation (mode_of mode)
  pub tokens : leaves kind_of (production (mode_of mode)) derivation ≡ document_tokens doc
  pub memory : Memory
  pub answer : (lent : Lent) → work_size ≤ lent.work → Fits (room_of lent) memory → read text long_form_mode [] lent ≡ success (length text) memory
  pub room : Fits (room_for (length text)) memory
  pub rename : Blank → Blank
  pub apart : (b c : Blank) → rename b ≡ rename c → b ≡ c
  pub same : quads memory.terms memory.rows ≡ map (with_blanks rename) (statements (mode_of mode) derivation base)

-- The tables s, which reading the document left.
pub record RoundTrip (doc : Text) (mode : ℕ) (base : Text) (s : Slices) : Type 0 where
  -- The writer never returns 18 for them, and 0 where the buffer holds the long form.
  pub usable : usable for_long_form s ≡ true
  pub never : (out : Text) → (write s out).number ≡ 18 → ⊥
  pub written : (out : Text) → length (long_form s) ≤ length out → (write s out).number ≡ 0
  -- What it wrote, if it is no larger than a document may be, "read again, gives the same statements up to renaming of blank nodes".
  pub again : (out : Text) → (write s out).number ≡ 0 → (write s out).position ≤ document_limit
      → SameStatements doc mode base (take (write s out).position (write s out).output)
