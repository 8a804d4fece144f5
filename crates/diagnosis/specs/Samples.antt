-- What would have been allowed at a place: the text before it, a line end, and a sample of the kind of token asked for, are read.
-- What the answer means is proved in proofs/Meaning: where that text cuts into some tokens and the sample's, and nothing is refused
-- before the sample, the token is allowed exactly if those tokens and it begin a grammatical text. That LF leaves the tokens before as
-- they were is what the terminals say, and is not proved of every text.
use Rattle.std.specs.Prelude.{◌≡◌, Bool, ◌&&◌, ◌||◌, [], ◌++◌, ℕ, ◌+◌, ◌*◌, eqb, leb, ltb, length, take, drop}
use Rattle.text.specs.Text.{Text, ascii, cond}
use Rattle.text.specs.Slice.{over_at}
use Rattle.token.specs.Kind.{last_kind}
use Rattle.machine.specs.Read.{Lent, Answer, untouched, contents, read}
use Rattle.reader.specs.Reader.{LentSlices, lengths}

-- A sample of each kind, in the order of the kinds' numbers, from 1 on: LF, the token, and blanks to eight bytes. The number 0 has none.
unfoldable pub samples : Text
samples =
    ascii "\n       \n<x:a>  \na:     \na:b    \n_:a    \n@prefix\n@base  \n@en    "
    ++ ascii "\n1      \n1.0    \n1e0    \n\"a\"    \n'a'    \na      \ntrue   \nfalse  "
    ++ ascii "\nPREFIX \nBASE   \nGRAPH  \n.      \n,      \n;      \n[      \n]      "
    ++ ascii "\n(      \n)      \n{      \n}      \n^^     \n\"\"\"a\"\"\"\n'''a'''"

unfoldable pub sample : ℕ → Text
sample kind = take 8 (drop (8 * kind) samples)

-- The sample of this kind, put at this place of the page.
abbrev pub with_sample : Text → ℕ → ℕ → Text
with_sample page at kind = take at page ++ sample kind

-- There is such a kind, and the page has room for its sample.
abbrev pub can_try : Text → ℕ → ℕ → Bool
can_try page at kind = leb 1 kind && leb kind last_kind && leb (at + 8) (length page)

-- The answer for it; nothing is read where it cannot be tried.
unfoldable pub trial : Text → ℕ → ℕ → ℕ → Lent → Answer
trial page at kind mode lent = cond (can_try page at kind) (read (with_sample page at kind) mode [] lent) (untouched 0)

-- The token at this place was allowed: the answer stands behind it, or refuses it by a number from 9 on, which the grammar goes before.
abbrev pub allowed : Answer → ℕ → Bool
allowed a place = ltb place a.position || eqb a.position place && leb 9 a.number

-- What the page holds after it.
unfoldable pub page_after : Text → ℕ → ℕ → Text
page_after page at kind = cond (can_try page at kind) (over_at at (sample kind) page) page

-- All that is promised of a trial: its answer, and what the page and the lent slices hold after it.
pub record Leaves (a : Answer) (old new : LentSlices) : Type 0 where
  pub work : new.work ≡ contents a.work old.work
  pub rows : new.rows ≡ contents a.rows old.rows
  pub terms : new.terms ≡ contents a.terms old.terms
  pub store : new.store ≡ contents a.store old.store

pub record Takes (text : Text) (place mode : ℕ) (old new : LentSlices) (r : Bool) : Type 0 where
  pub answer : r ≡ allowed (read text mode [] (lengths old)) place
  pub slices : Leaves (read text mode [] (lengths old)) old new

pub record Tries (page : Text) (at kind mode : ℕ) (old : LentSlices) (page' : Text) (new : LentSlices) (r : Bool) : Type 0 where
  pub answer : r ≡ allowed (trial page at kind mode (lengths old)) (at + 1)
  pub written : page' ≡ page_after page at kind
  pub slices : Leaves (trial page at kind mode (lengths old)) old new
