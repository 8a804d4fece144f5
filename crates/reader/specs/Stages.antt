-- What each stage of a call leaves: checked, started, finished.
use Rattle.std.specs.Prelude.{◌≡◌, List, false, ℕ, ◌-◌, ◌≤◌, length, get_or, drop, replicate}
use Rattle.std.proofs.Math.Option.{none}
use Rattle.text.specs.Text.{Text}
use Rattle.limits.specs.Limits.{document_limit, work_size}
use Rattle.utf8.specs.Utf8.{first_bad}
use Rattle.token.specs.Tokens.{lexemes}
use Rattle.environment.specs.Environment.{start_environment}
use Rattle.environment.specs.Code.{environment_in, Usable}
use Rattle.machine.specs.Read.{bad_base}
use Rattle.state.specs.Words.{rows_word, terms_word, used_word, blanks_word, at_in, depth_in, graph_in}
use Rattle.state.specs.Cursor.{Cursor, remaining}
use Rattle.state.specs.declared.Held.{Held}
use Rattle.reader.specs.Reader.{LentSlices, lent_slices, Reading}

-- 1 and 3 to 5 do not refuse the call.
pub record Checked (doc base work : Text) : Type 0 where
  pub size : length doc ≤ document_limit
  pub good_base : bad_base base ≡ false
  pub room : work_size ≤ length work
  pub utf8 : first_bad doc ≡ none

-- Nothing is read yet: the work slice and the array hold the lent base and the first token.
pub record Started (doc base old work : Text) (st : List ℕ) : Type 0 where
  pub long : length work ≡ length old
  pub usable : Usable work st
  pub environment : environment_in work st ≡ start_environment base
  pub index : drop work_size work ≡ replicate (length work - work_size) 0
  pub rows : get_or st rows_word 0 ≡ 0
  pub terms : get_or st terms_word 0 ≡ 0
  pub used : get_or st used_word 0 ≡ 0
  pub blanks : get_or st blanks_word 0 ≡ 0
  pub depth : depth_in st ≡ 0
  pub graph : graph_in st ≡ 0
  pub cursor : Cursor doc st
  pub tokens : lexemes doc ≡ remaining doc st

-- What the slices hold behind their references.
abbrev pub held_slices : Held → LentSlices
held_slices h = lent_slices h.work.now h.rows.now h.terms.now h.store.now

-- Zeros in all slices.
pub record Cleared (old new : LentSlices) : Type 0 where
  pub work : new.work ≡ replicate (length old.work) 0
  pub rows : new.rows ≡ replicate (length old.rows) 0
  pub terms : new.terms ≡ replicate (length old.terms) 0
  pub store : new.store ≡ replicate (length old.store) 0

-- All was read: the counts are the array's, and the tables stay.
pub record Accepted (size : ℕ) (st : List ℕ) (old new : LentSlices) (r : Reading) : Type 0 where
  pub position : r.position ≡ size
  pub row_count : r.rows ≡ get_or st rows_word 0
  pub term_count : r.terms ≡ get_or st terms_word 0
  pub store_count : r.store ≡ get_or st used_word 0
  pub work : new.work ≡ replicate (length old.work) 0
  pub rows : new.rows ≡ old.rows
  pub terms : new.terms ≡ old.terms
  pub store : new.store ≡ old.store

pub record Refused (at : ℕ) (old new : LentSlices) (r : Reading) : Type 0 where
  pub position : r.position ≡ at
  pub row_count : r.rows ≡ 0
  pub term_count : r.terms ≡ 0
  pub store_count : r.store ≡ 0
  pub cleared : Cleared old new

-- The answer by the number n that reading came to.
pub record Finishes (size n : ℕ) (st : List ℕ) (old new : LentSlices) (r : Reading) : Type 0 where
  pub number : r.number ≡ n
  pub accepted : n ≡ 0 → Accepted size st old new r
  pub refused : (n ≡ 0 → ⊥) → Refused (at_in st) old new r
