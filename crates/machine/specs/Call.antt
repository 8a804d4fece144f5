-- What a call is given besides its document: the mode, what is lent, and the checks 1 to 4; and what it answers.
use Rattle.std.specs.Prelude.{List, [], ◌∷◌, ◌++◌, Bool, not, ◌&&◌, ◌||◌, ℕ, eqb, leb, ltb, length, drop, replicate}
use Rattle.std.proofs.Math.Option.{Option, none, some}
use Rattle.text.specs.Text.{Text, cond, empty, some_byte, is_none}
use Rattle.limits.specs.Limits.{document_limit, iri_limit, work_size}
use Rattle.utf8.specs.Utf8.{first_bad}
use Rattle.iri.specs.Iri.{has_scheme, forbidden}
use Rattle.grammar.specs.Productions.{Mode, trig, turtle}
use Rattle.table.specs.Layout.{row_room, term_room}
use Rattle.table.specs.Tables.{rows_words, terms_words, store_bytes, store_size}
use Rattle.machine.specs.Memory.{Memory}

-- Mode 0 is TriG, mode 1 Turtle; others are refused by 2.
abbrev pub mode_of : ℕ → Mode
mode_of n = cond (eqb n 0) trig turtle

-- What the caller lends, apart from document and base: the lengths of the slices, rows and terms in words.
pub record Lent : Type 0 where
  pub work : ℕ
  pub rows : ℕ
  pub terms : ℕ
  pub store : ℕ

abbrev pub lends : ℕ → ℕ → ℕ → ℕ → Lent
lends work rows terms store = record { work = work; rows = rows; terms = terms; store = store }

-- How many rows, terms and store bytes there is room for.
pub record Room : Type 0 where
  pub rows : ℕ
  pub terms : ℕ
  pub store : ℕ

abbrev pub room_up_to : ℕ → ℕ → ℕ → Room
room_up_to rows terms store = record { rows = rows; terms = terms; store = store }

-- In the lent slices.
abbrev pub room_of : Lent → Room
room_of lent = room_up_to (row_room lent.rows) (term_room lent.terms) lent.store

-- ---- Checks

infix 80 ◌when◌
pub data Test : Type 0 where
  ◌when◌ : ℕ → Bool → Test

-- The number of the first test that holds.
abbrev pub first_refusal : List Test → Option ℕ
first_refusal [] = none
first_refusal (n when b ∷ ts) = let r = first_refusal ts in cond b (some n) r

-- "base not empty, and over 1,024 bytes, not UTF-8, without a scheme, or with a character IRIREF forbids unescaped"
unfoldable pub bad_base : Text → Bool
bad_base b = not (empty b) && (ltb iri_limit (length b) || not (is_none (first_bad b)) || not (has_scheme b) || some_byte forbidden b)

-- Checks 1 to 4
abbrev pub first_checks : Text → ℕ → Text → Lent → List Test
first_checks doc mode base lent =
    1 when ltb document_limit (length doc)
    ∷ 2 when not (leb mode 1)
    ∷ 3 when bad_base base
    ∷ 4 when ltb lent.work work_size
    ∷ []

-- ---- Answers

-- What a lent slice holds after the call: what it held; zeros; or these in front of what it held there.
pub data After : Type 0 where
  kept : After
  zeroed : After
  written : List ℕ → After

abbrev pub contents : After → List ℕ → List ℕ
contents kept old = old
contents zeroed old = replicate (length old) 0
contents (written new) old = new ++ drop (length new) old

pub record Answer : Type 0 where
  pub number : ℕ
  pub position : ℕ
  pub row_count : ℕ
  pub term_count : ℕ
  pub store_count : ℕ
  pub work : After
  pub rows : After
  pub terms : After
  pub store : After

-- "Checks 1 to 4 give zero counts and leave all lent memory unchanged."
abbrev pub untouched : ℕ → Answer
untouched n =
    record { number = n; position = 0; row_count = 0; term_count = 0; store_count = 0; work = kept; rows = kept; terms = kept; store = kept }

-- "Refusals 5 to 16 leave row, term and store slices all zero and the counts zero. The work slice is all zero after 0 and after 5 to 16."
abbrev pub refusal : ℕ → ℕ → Answer
refusal n p =
    record { number = n; position = p; row_count = 0; term_count = 0; store_count = 0; work = zeroed; rows = zeroed; terms = zeroed; store = zeroed }

-- Acceptance, with so many rows, terms and store bytes, and these words and bytes in the slices.
abbrev pub filled : ℕ → ℕ → ℕ → ℕ → List ℕ → List ℕ → List ℕ → Answer
filled n row_count term_count store_count rows terms store =
    record {
      number = 0;
      position = n;
      row_count = row_count;
      term_count = term_count;
      store_count = store_count;
      work = zeroed;
      rows = written rows;
      terms = written terms;
      store = written store;
    }

-- "On acceptance whatever lies past the used part keeps its old contents."
abbrev pub success : ℕ → Memory → Answer
success n m =
    filled n (length m.rows) (length m.terms) (store_size m.terms) (rows_words m.rows) (terms_words m.terms) (store_bytes m.terms)
