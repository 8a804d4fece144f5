-- The whole memory of terms: the term slice, the store, and the index.
use Rattle.std.specs.Prelude.{◌≡◌, true, List, [], ℕ, ◌≤◌, ◌<◌, length, Result, Ok, Err}
use Rattle.text.specs.Text.{Text}
use Rattle.dataset.specs.Terms.{Term}
use Rattle.limits.specs.Limits.{work_size}
use Rattle.table.specs.Tables.{number, or_zero}
use Rattle.terms.specs.Keeps.{findable, Keeps, Means, iri_sort}
use Rattle.terms.specs.Code.{Readable}
use Rattle.terms.specs.declared.Counts.{Counts}
use Rattle.terms.specs.declared.Sort.{Sort}
use Rattle.term_tree.specs.Tree.{Indexed, Linked}

-- It holds the terms ts.
pub record Holds (ts : List Term) (terms : List ℕ) (store index : Text) (c : Counts) : Type 0 where
  pub keeps : Keeps ts terms store c
  pub indexed : Indexed ts index

-- What of this a search needs to be safe.
pub record Searchable (terms : List ℕ) (store index : Text) (c : Counts) : Type 0 where
  pub readable : Readable terms store c.terms
  pub linked : Linked index c.terms

-- The number that a search comes to, 0 where there is none.
abbrev pub found : Result ℕ ℕ → ℕ
found (Ok n) = n
found (Err s) = 0

-- What looking for the term answers: its number, or 0.
abbrev pub Finds : List ℕ → Text → Text → Counts → Sort → Text → Text → ℕ → Type 0
Finds terms store index c sort x g r = (ts : List Term) (t : Term) → Holds ts terms store index c → Means ts sort x g t → findable t ≡ true → r ≡ or_zero (number t ts)

-- The number is that of the IRI, whatever index there is.
abbrev pub Numbers : List ℕ → Text → ℕ → Text → ℕ → Type 0
Numbers terms store count x n = (0 < n) × ((index : Text) (c : Counts) → c.terms ≡ count → Finds terms store index c iri_sort x [] n)

-- A part of a work slice that has its size.
pub record PartOf (work : Text) (start end : ℕ) : Type 0 where
  pub size : work_size ≤ length work
  pub order : start ≤ end
  pub inside : end ≤ length work
