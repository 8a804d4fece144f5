-- The index of tables: "one record for each IRI that is a subject, in byte order of its text".
use Rattle.std.specs.Prelude.{List, [], ◌∷◌, ◌++◌, Bool, true, false, ℕ, zero, suc, ◌+◌, eqb, Result, Ok, Err}
use Rattle.std.proofs.Math.Option.{Option, none, some}
use Rattle.text.specs.Text.{Text, cond, same_text}
use Rattle.limits.specs.declared.Refusal.{Refusal}
use Rattle.limits.specs.declared.Refusal.TheVariants.{Tables}
use Rattle.text.specs.Order.{smaller}
use Rattle.table.specs.Layout.{Slices, iri_kind, row_at}
use Rattle.table.specs.Usable.{for_long_form, text, has_kind, usable}
use Rattle.table.specs.Written.{Written, written}
use Rattle.table.specs.LongForm.{computing as table_computing}
use Rattle.look_up.specs.declared.Rows.{Rows}
use Rattle.look_up.specs.Record.{rows, head_of, record_of}

-- ---- The records of so many rows, whose subjects are given: the text of an IRI, none for a blank node

-- A text among others, each of which stands there once, in byte order.
unfoldable pub insert : Text → List Text → List Text
insert t [] = t ∷ []
insert t (u ∷ us) = let r = insert t us in cond (smaller t u) (t ∷ u ∷ us) (cond (same_text t u) (u ∷ us) (u ∷ r))

abbrev pub insert_any : Option Text → List Text → List Text
insert_any none ts = ts
insert_any (some t) ts = insert t ts

abbrev pub is_subject : Text → Option Text → Bool
is_subject t none = false
is_subject t (some u) = same_text u t

-- With the row n, where it is one of them.
unfoldable pub counted : ℕ → Bool → Rows → Rows
counted n true r = rows (r.count + 1) (cond (eqb r.count 0) n r.first)
counted n false r = r

module _ (subject : ℕ → Option Text) where
  unfoldable pub sorted : ℕ → List Text
  sorted zero = []
  sorted (suc n) = insert_any (subject n) (sorted n)

  -- The rows of a text, by a walk over all of them; "0 rows, first row 0" where there are none.
  unfoldable pub walk : Text → ℕ → Rows
  walk t zero = rows 0 0
  walk t (suc n) = counted n (is_subject t (subject n)) (walk t n)

  unfoldable pub records : List Text → ℕ → Text
  records [] n = []
  records (t ∷ ts) n = record_of t (walk t n) ++ records ts n

  unfoldable pub index_of : ℕ → Text
  index_of n = records (sorted n) n

-- ---- The index of tables

-- The subject of the row i. Terms with one text are one subject.
unfoldable pub subject : Slices → ℕ → Option Text
subject s i = let n = (row_at s.rows i).subject in cond (has_kind s iri_kind n) (some (text s n)) none

unfoldable pub index : Slices → Text
index s = index_of (subject s) s.row_count

-- "18 for unusable tables (as in the long form) .. then 22, output too small; the output stays unchanged after either"
unfoldable pub write : Slices → Text → Written
write s out = written 22 (usable for_long_form s) (index s) out

-- "a check that says yes exactly when the bytes are the index of the given tables"; "18 .. from the check too"
unfoldable pub check : Slices → Text → Result Bool Refusal
check s bytes = cond (usable for_long_form s) (Ok (same_text (index s) bytes)) (Err Tables)

-- All that computes here; an example that is checked by evaluation names it.
unfoldable pub computing : ℕ
unfolding table_computing smaller head_of insert counted sorted walk records index_of subject index write check
computing = 0
