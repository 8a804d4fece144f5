-- What the routines of the index compute, and what they ask of tables: the next subject is found by a scan of all rows.
use Rattle.std.specs.Prelude as code
use Rattle.std.specs.Prelude.{◌≡◌, Bool, true, ◌&&◌, ℕ, zero, suc, ◌<◌, ◌≤◌, eqb, Some, None}
use Rattle.std.proofs.Math.Option.{Option, none, some}
use Rattle.text.specs.Text.{Text, cond}
use Rattle.text.specs.Order.{smaller}
use Rattle.table.specs.Layout.{Slices, row_at, entry_at, iri_kind}
use Rattle.table.specs.Usable.{text}
use Rattle.usable.specs.Lent.{Stands, RowStands, SpanIn}
use Rattle.look_up.specs.Record.{rows}
use Rattle.look_up.specs.Look.{rises}
use Rattle.subject_index.specs.declared.Chosen.{Chosen}
use Rattle.subject_index.specs.Index.{walk}

-- ---- Subjects by the numbers of their terms

abbrev pub named : Slices → code.Option ℕ → Option Text
named s None = none
named s (Some n) = some (text s n)

unfoldable pub subject_number : Slices → ℕ → code.Option ℕ
subject_number s i = let n = (row_at s.rows i).subject in cond (eqb (entry_at s.terms n).kind iri_kind) (Some n) None

-- A term whose text can be read; a row whose subject is one; and so many of them.
pub record Readable (s : Slices) (n : ℕ) : Type 0 where
  pub stands : Stands s.terms n
  pub text_in : SpanIn s n

abbrev pub Known : Slices → code.Option ℕ → Type 0
Known s None = Unit {0}
Known s (Some n) = Readable s n

pub record SubjectIn (s : Slices) (i : ℕ) : Type 0 where
  pub stands : RowStands s.rows i
  pub subject : Readable s (row_at s.rows i).subject

abbrev pub Ready : Slices → ℕ → Type 0
Ready s count = (i : ℕ) → i < count → SubjectIn s i

-- ---- The least text above one

-- A text comes before one, where there is one.
abbrev pub below : Text → Option Text → Bool
below t none = true
below t (some u) = smaller t u

unfoldable pub nearer : Option Text → Option Text → Option Text → Option Text
nearer p none best = best
nearer p (some t) best = cond (rises p t && below t best) (some t) best

-- Among the subjects of the first n rows.
module _ (subject : ℕ → Option Text) where
  unfoldable pub next : Option Text → ℕ → Option Text
  next p zero = none
  next p (suc n) = nearer p (subject n) (next p n)

abbrev pub number : code.Option Chosen → code.Option ℕ
number None = None
number (Some c) = Some c.number

-- It was chosen from the first n rows, with the rows that it has there.
pub record Chooses (s : Slices) (subject : ℕ → Option Text) (p : Option Text) (n : ℕ) (c : code.Option Chosen) : Type 0 where
  pub next : named s (number c) ≡ next subject p n
  pub known : Known s (number c)
  pub rows : (k : Chosen) → c ≡ Some k → rows k.count k.first ≡ walk subject (text s k.number) n
  pub some : (k : Chosen) → c ≡ Some k → 0 < k.count
  pub few : (k : Chosen) → c ≡ Some k → k.count ≤ n
