-- The contract of the reader's call: its answer, and what the lent slices hold after it, are what `read` says.
use Rattle.std.specs.Prelude.{◌≡◌, Result, Ok, Err, List, ℕ, length}
use Rattle.text.specs.Text.{Text}
use Rattle.limits.specs.Refusal.{number}
use Rattle.machine.specs.Read.{Lent, lends, Answer, contents, read}
use Rattle.reader.specs.declared.Accepted.{Accepted}
use Rattle.reader.specs.declared.Refused.{Refused}

-- What the lent slices hold, rows and terms in words.
pub record LentSlices : Type 0 where
  pub work : Text
  pub rows : List ℕ
  pub terms : List ℕ
  pub store : Text

abbrev pub lent_slices : Text → List ℕ → List ℕ → Text → LentSlices
lent_slices work rows terms store = record { work = work; rows = rows; terms = terms; store = store }

abbrev pub lengths : LentSlices → Lent
lengths s = lends (length s.work) (length s.rows) (length s.terms) (length s.store)

-- The answer in numbers: that of the refusal, or 0; the position; and how many rows, terms and store bytes there are.
pub record Reading : Type 0 where
  pub number : ℕ
  pub position : ℕ
  pub rows : ℕ
  pub terms : ℕ
  pub store : ℕ

abbrev pub reading : Result Accepted Refused → Reading
reading (Ok a) = record { number = 0; position = a.position; rows = a.rows; terms = a.terms; store = a.store }
reading (Err e) = record { number = number e.refusal; position = e.position; rows = 0; terms = 0; store = 0 }

-- The call gives the answer a, and leaves in each slice what a says, by what it held before.
pub record Gives (a : Answer) (old new : LentSlices) (r : Reading) : Type 0 where
  pub number : r.number ≡ a.number
  pub position : r.position ≡ a.position
  pub row_count : r.rows ≡ a.row_count
  pub term_count : r.terms ≡ a.term_count
  pub store_count : r.store ≡ a.store_count
  pub work : new.work ≡ contents a.work old.work
  pub rows : new.rows ≡ contents a.rows old.rows
  pub terms : new.terms ≡ contents a.terms old.terms
  pub store : new.store ≡ contents a.store old.store

-- All that is promised of a call.
abbrev pub Contract : Text → ℕ → Text → LentSlices → LentSlices → Reading → Type 0
Contract doc mode base old new r = Gives (read doc mode base (lengths old)) old new r
