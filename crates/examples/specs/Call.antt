-- Calls and answers in short: the reader's, the writer's, and the long form of a document.
use Rattle.std.specs.Prelude.{List, [], ◌∷◌, ◌++◌, ℕ, zero, suc, eqb, drop, replicate}
use Prim.Native.String.{String}
use Rattle.text.specs.Text.{Text, ascii, cond}
use Rattle.limits.specs.Limits.{work_size}
use Rattle.utf8.specs.Utf8.{encodes}
use Rattle.table.specs.Layout.{Slices}
use Rattle.table.specs.LongForm.{long_form, Written, write}
use Rattle.machine.specs.Read.{Lent, lends, After, kept, zeroed, written, Answer, read}

-- ---- Texts

-- The UTF-8 form of a quoted text; and of lines, an LF after each.
abbrev pub utf8 : String → Text
utf8 s = encodes (ascii s)

abbrev pub lines : List String → Text
lines [] = []
lines (s ∷ ss) = utf8 s ++ 10 ∷ lines ss

-- A quoted text so many times.
abbrev pub times : ℕ → String → Text
times zero s = []
times (suc n) s = utf8 s ++ times n s

-- A statement about <x:s> and <x:p>, from its object on.
abbrev pub S : String → Text
S rest = utf8 "<x:s> <x:p> " ++ utf8 rest

-- ---- Calls

abbrev pub ample_words : ℕ
ample_words = 100000

abbrev pub ample_bytes : ℕ
ample_bytes = 1000000

abbrev pub ample : Lent
ample = lends work_size ample_words ample_words ample_bytes

-- A call of the reader: what is lent to it.
pub record Call : Type 0 where
  pub document : Text
  pub mode : ℕ
  pub base : Text
  pub lent : Lent

abbrev pub call : ℕ → Text → Lent → Text → Call
call mode base lent doc = record { document = doc; mode = mode; base = base; lent = lent }

-- A document in mode 0 or 1, with no base; in mode 0 against a base.
abbrev pub trig : Text → Call
trig doc = call 0 [] ample doc

abbrev pub turtle : Text → Call
turtle doc = call 1 [] ample doc

abbrev pub against : Text → Text → Call
against base doc = call 0 base ample doc

-- In mode 0, with slices of so many row words, term words and store bytes; with row words or store bytes alone that are not ample.
abbrev pub within : ℕ → ℕ → ℕ → Text → Call
within rows terms store doc = call 0 [] (lends work_size rows terms store) doc

abbrev pub with_rows : ℕ → Text → Call
with_rows n doc = within n ample_words ample_bytes doc

abbrev pub with_store : ℕ → Text → Call
with_store n doc = within ample_words ample_words n doc

abbrev pub answered : Call → Answer
answered c = read c.document c.mode c.base c.lent

-- ---- Answers

-- The number and the position.
infix 85 ◌at◌
pub data Verdict : Type 0 where
  ◌at◌ : ℕ → ℕ → Verdict

abbrev pub verdict : Call → Verdict
verdict c = let a = answered c in a.number at a.position

-- The number and the position of a refusal; or the position, the counts of rows, terms and store bytes, and what is written there.
pub data Short : Type 0 where
  refuses : ℕ → ℕ → Short
  accepts : ℕ → List ℕ → List ℕ → List ℕ → Text → Short

abbrev pub new : After → List ℕ
new kept = []
new zeroed = []
new (written ws) = ws

abbrev pub short_of : Answer → Short
short_of a =
    let good = accepts a.position (a.row_count ∷ a.term_count ∷ a.store_count ∷ []) (new a.rows) (new a.terms) (new a.store) in
    let bad = refuses a.number a.position in
    cond (eqb a.number 0) good bad

abbrev pub short : Call → Short
short c = short_of (answered c)

-- What the store holds behind x:s and x:p: the object's IRI, where it is new.
abbrev pub object_text : Call → Text
object_text c = drop 6 (new (answered c).store)

-- What becomes of the work, row, term and store slices.
abbrev pub afterwards : Call → List After
afterwards c = let a = answered c in a.work ∷ a.rows ∷ a.terms ∷ a.store ∷ []

-- ---- The writer, over what the reader wrote

abbrev pub slices : Answer → Slices
slices a =
    record {
      rows = new a.rows;
      row_count = a.row_count;
      terms = new a.terms;
      term_count = a.term_count;
      store = new a.store;
      store_count = a.store_count;
    }

-- The long form of what the call wrote; and the writer's answer, where the output buffer has n zeros.
abbrev pub printed : Call → Text
printed c = long_form (slices (answered c))

abbrev pub written_into : ℕ → Call → Written
written_into n c = write (slices (answered c)) (replicate n 0)
