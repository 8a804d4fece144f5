-- The bytes are the index, one record at a time.
use mathlib.Core.Path.{◌≡◌, refl, sym, ap, ◌∙◌}
use mathlib.Core.List.{[], ◌++◌}
use mathlib.Core.Bool.{Bool, true, false, ◌&&◌}
use mathlib.Core.Option.{Option, none, some}
use Prim.Native.Nat.{ℕ, ◌+◌, ◌-◌, ◌≤◌}
use native.Mathlib.Omega.{arith}
use lib.Dec.{eqb}
use lib.ListN.{length, take, drop, length-append, length-drop}
use lib.Seq.{drop-drop}
use Rattle.text.specs.Text.{Text, begins, same_text}
use Rattle.text.proofs.Compare.{begins_length, begins_append, same_append, same_end}
use Rattle.text.proofs.Over.{rest_all}
use Rattle.table.specs.Layout.{Slices, row_at}
use Rattle.table.specs.Usable.{for_long_form, text, usable}
use Rattle.usable.proofs.Facts.{usable_fits, usable_row}
use Rattle.usable.proofs.Standing.{stands, text_stands, subject_in}
use Rattle.look_up.specs.declared.Rows.{Rows}
use Rattle.look_up.specs.Record.{rows, head_of, record_of, head_size}
use Rattle.subject_index.specs.declared.Chosen.{Chosen}
use Rattle.std.specs.Prelude.{Ok, Err, Some, None}
use Rattle.limits.specs.declared.Refusal.TheVariants.{Tables}
use Rattle.subject_index.specs.Index.{sorted, walk, records, index_of, subject, index, check}
use Rattle.subject_index.specs.Code.{named, Ready, next, Chooses}
use Rattle.subject_index.proofs.Rising.{rising_sorted}
use Rattle.subject_index.proofs.Above.{above, above_all, above_next, above_end, next_sorted}

-- ---- A record at the front

pub head_length : (size : ℕ) (r : Rows) → length (head_of size r) ≡ head_size
unfolding head_of
head_length size r = refl

module _ (t front : Text) (r : Rows) (head : Text) (e : head ≡ head_of (length t) r) where
  whole_head : length head ≡ head_size
  whole_head = ap length e ∙ head_length (length t) r

  pub no_head : begins head front ≡ false → false ≡ begins (record_of t r) front
  no_head f = rw (begins_append (head_of (length t) r) t front, ← e, f)

  module _ (f : begins head front ≡ true) where
    pub head_fits : head_size ≤ length front
    head_fits = let l = begins_length head front f in let g = whole_head in omega arith

    pub then_text : (q : Bool) → q ≡ begins t (take (length front - head_size) (drop head_size front)) → q ≡ begins (record_of t r) front
    then_text q g = g ∙ rw (begins_append (head_of (length t) r) t front, ← e, f, whole_head, rest_all front head_size)

-- ---- The records that are left behind a text

module _ (subject : ℕ → Option Text) (n : ℕ) where
  unfoldable pub left : Option Text → Text
  left p = records subject (above p (sorted subject n)) n

  left_start : index_of subject n ≡ left none
  unfolding left index_of
  left_start = rw (above_all none (sorted subject n) (rising_sorted subject n))

  left_end : (p : Option Text) → none ≡ next subject p n → left p ≡ []
  unfolding left records
  left_end p e = rw (above_end p (sorted subject n) (sym (e ∙ next_sorted subject p n)))

  left_next : (p : Option Text) (t : Text) → some t ≡ next subject p n → left p ≡ record_of t (walk subject t n) ++ left (some t)
  unfolding left records
  left_next p t e = rw (above_next none p t (sorted subject n) (rising_sorted subject n) (sym (e ∙ next_sorted subject p n)))

-- ---- The same, by the subject that was chosen

abbrev pub rows_of : Chosen → Rows
rows_of c = rows c.count c.first

pub record_length : (t : Text) (r : Rows) → length (record_of t r) ≡ head_size + length t
record_length t r = let a = length-append (head_of (length t) r) t in let l = head_length (length t) r in omega arith

module _ (s : Slices) (subject : ℕ → Option Text) (n : ℕ) where
  pub all_left : index_of subject n ≡ left subject n (named s None)
  all_left = left_start subject n

  pub none_left : (p : Option Text) → Chooses s subject p n None → left subject n p ≡ []
  none_left p C = left_end subject n p C.next

  -- In bytes that are to be the index, from a place on.
  pub is_end : (p : Option Text) → Chooses s subject p n None → (bytes : Text) (at : ℕ) → at ≤ length bytes → same_text (index_of subject n) bytes ≡ same_text (left subject n p) (drop at bytes) → eqb at (length bytes) ≡ same_text (index_of subject n) bytes
  is_end p C bytes at h i = sym (i ∙ (ap (λ (x : Text). same_text x (drop at bytes)) (none_left p C) ∙ same_end bytes at h))

  module _ (p : Option Text) (c : Chosen) (C : Chooses s subject p n (Some c)) where
    pub one_left : left subject n p ≡ record_of (text s c.number) (rows_of c) ++ left subject n (named s (Some c.number))
    one_left = left_next subject n p (text s c.number) C.next ∙ rw (C.rows c refl)

    module _ (bytes : Text) (at : ℕ) (h : at ≤ length bytes) (i : same_text (index_of subject n) bytes ≡ same_text (left subject n p) (drop at bytes)) where
      module _ (t : Text) (e : t ≡ text s c.number) (r : Bool) (b : r ≡ begins (record_of t (rows_of c)) (take (length bytes - at) (drop at bytes))) where
        here : r ≡ begins (record_of (text s c.number) (rows_of c)) (drop at bytes)
        here = b ∙ rw (e, rest_all bytes at)

        split : same_text (index_of subject n) bytes ≡ (r && same_text (left subject n (named s (Some c.number))) (drop (length (record_of (text s c.number) (rows_of c))) (drop at bytes)))
        split = i ∙ rw (one_left, same_append (record_of (text s c.number) (rows_of c)) (left subject n (named s (Some c.number))) (drop at bytes), here)

        pub other_record : r ≡ false → false ≡ same_text (index_of subject n) bytes
        other_record q = sym (split ∙ rw q)

        module _ (q : r ≡ true) where
          pub record_fits : at + (head_size + length t) ≤ length bytes
          record_fits =
              let l = begins_length (record_of (text s c.number) (rows_of c)) (drop at bytes) (sym here ∙ q) in
              let d = length-drop at bytes in
              let m = record_length (text s c.number) (rows_of c) in
              rw e (omega arith)

          pub record_more : same_text (index_of subject n) bytes ≡ same_text (left subject n (named s (Some c.number))) (drop (at + (head_size + length t)) bytes)
          record_more = split ∙ rw (q, e, record_length (text s c.number) (rows_of c), drop-drop (head_size + length (text s c.number)) at bytes)

-- ---- The answer

module _ (s : Slices) where
  pub index_told : index s ≡ index_of (subject s) s.row_count
  unfolding index
  index_told = refl

  pub ready : usable for_long_form s ≡ true → Ready s s.row_count
  ready e i h =
      let r = row_at s.rows i in
      let p = subject_in s r (usable_row for_long_form s e i h) in
      let f = (usable_fits for_long_form s e).rows in
      record { stands = omega arith; subject = record { stands = stands for_long_form s e r.subject p; text_in = text_stands for_long_form s e r.subject p } }

  pub check_bad : (bytes : Text) → usable for_long_form s ≡ false → Err Tables ≡ check s bytes
  unfolding check
  check_bad bytes e = rw e

  pub check_good : (bytes : Text) (r : Bool) → usable for_long_form s ≡ true → r ≡ same_text (index_of (subject s) s.row_count) bytes → Ok r ≡ check s bytes
  unfolding check
  check_good bytes r e f = rw (e, f, index_told)
