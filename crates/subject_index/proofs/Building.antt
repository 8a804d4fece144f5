-- The index is measured and written, one record at a time.
use mathlib.Core.Path.{◌≡◌, sym, ap, ◌∙◌}
use mathlib.Core.List.{◌++◌}
use mathlib.Core.Bool.{true, false}
use mathlib.Core.Option.{Option}
use Prim.Native.Nat.{ℕ, ◌+◌, ◌-◌, ◌≤◌, ◌<◌}
use native.Mathlib.Omega.{arith}
use borrow.Author.Tests.{le-leb, lt-leb}
use lib.Dec.{leb}
use lib.ListN.{length, take, drop, length-append}
use Rattle.std.specs.Prelude.{Some, None}
use Rattle.text.specs.Text.{Text}
use Rattle.text.specs.Slice.{over, over_at}
use Rattle.text.proofs.Over.{over_at_none, over_at_length, over_part, over_at_append}
use Rattle.table.specs.Layout.{Slices}
use Rattle.table.specs.Usable.{for_long_form, text, usable}
use Rattle.table.proofs.Written as told
use Rattle.look_up.specs.declared.Rows.{Rows}
use Rattle.look_up.specs.Record.{head_of, record_of, head_size}
use Rattle.subject_index.specs.declared.Chosen.{Chosen}
use Rattle.subject_index.specs.Index.{index_of, subject, index, write}
use Rattle.subject_index.specs.Code.{named, Chooses}
use Rattle.subject_index.proofs.Checking.{head_length, rows_of, record_length, left, all_left, none_left, one_left, index_told}

-- A record is written in two parts.
pub put_law : (t : Text) (r : Rows) (head x y z : Text) (at k k' : ℕ) (mid : Text) → head ≡ head_of (length t) r → k ≡ length x - at → y ≡ over head (take k (drop at x)) → mid ≡ take at x ++ (y ++ drop k (drop at x))
    → k' ≡ length mid - (at + head_size) → z ≡ over t (take k' (drop (at + head_size) mid)) → take (at + head_size) mid ++ (z ++ drop k' (drop (at + head_size) mid)) ≡ over_at at (record_of t r) x
put_law t r head x y z at k k' mid e f g h l m =
    let half : mid ≡ over_at at (head_of (length t) r) x = h ∙ (over_part at head x y k f g ∙ ap (λ (p : Text). over_at at p x) e) in
    over_part (at + head_size) t mid z k' l m
    ∙ rw half (sym (over_at_append at (head_of (length t) r) t x ∙ ap (λ (n : ℕ). over_at (at + n) t (over_at at (head_of (length t) r) x)) (head_length (length t) r)))

pub put_length : (at : ℕ) (r x y : Text) → y ≡ over_at at r x → length y ≡ length x
put_length at r x y e = ap length e ∙ over_at_length at r x

module _ (s : Slices) (subject : ℕ → Option Text) (n : ℕ) where
  pub length_start : length (index_of subject n) ≡ 0 + length (left subject n (named s None))
  length_start = let e = ap length (all_left s subject n) in omega arith

  pub over_start : (x : Text) → over (index_of subject n) x ≡ over_at 0 (left subject n (named s None)) x
  unfolding over_at
  over_start x = ap (λ (l : Text). over l x) (all_left s subject n)

  module _ (p : Option Text) (C : Chooses s subject p n None) (used : ℕ) (i : length (index_of subject n) ≡ used + length (left subject n p)) where
    pub length_end : used ≡ length (index_of subject n)
    length_end = let e = ap length (none_left s subject n p C) in omega arith

    pub fits_end : (room : ℕ) → used ≤ room → true ≡ leb (length (index_of subject n)) room
    fits_end room u = let e = length_end in sym (le-leb (length (index_of subject n)) room (omega arith))

    pub over_end : (y out : Text) → y ≡ over_at used (left subject n p) out → y ≡ out
    over_end y out f = f ∙ rw (none_left s subject n p C) (over_at_none used out)

  module _ (p : Option Text) (c : Chosen) (C : Chooses s subject p n (Some c)) (used : ℕ) (i : length (index_of subject n) ≡ used + length (left subject n p)) where
    room_for_one : length (index_of subject n) ≡ used + (head_size + length (text s c.number)) + length (left subject n (named s (Some c.number)))
    room_for_one =
        let a = ap length (one_left s subject n p c C) in
        let b = length-append (record_of (text s c.number) (rows_of c)) (left subject n (named s (Some c.number))) in
        let d = record_length (text s c.number) (rows_of c) in
        omega arith

    pub fits_head : (room : ℕ) → room < used + head_size → false ≡ leb (length (index_of subject n)) room
    fits_head room u = let e = room_for_one in sym (lt-leb (length (index_of subject n)) room (omega arith))

    module _ (t : Text) (z : t ≡ text s c.number) where
      pub length_more : length (index_of subject n) ≡ used + (head_size + length t) + length (left subject n (named s (Some c.number)))
      length_more = room_for_one ∙ rw z

      pub fits_not : (room : ℕ) → room < used + (head_size + length t) → false ≡ leb (length (index_of subject n)) room
      fits_not room u = let e = length_more in sym (lt-leb (length (index_of subject n)) room (omega arith))

      pub over_more : (y out out' : Text) → y ≡ over_at used (left subject n p) out → out' ≡ over_at used (record_of t (rows_of c)) out
          → y ≡ over_at (used + (head_size + length t)) (left subject n (named s (Some c.number))) out'
      over_more y out out' f g =
          f
          ∙ rw (g, z, one_left s subject n p c C)
          (over_at_append used (record_of (text s c.number) (rows_of c)) (left subject n (named s (Some c.number))) out ∙ rw (record_length (text s c.number) (rows_of c)))

-- ---- The answer

module _ (s : Slices) (x : Text) where
  pub not_usable : usable for_long_form s ≡ false → told.answered 18 0 x ≡ write s x
  unfolding write
  not_usable e = told.not_usable 22 (usable for_long_form s) (index s) x e

  module _ (e : usable for_long_form s ≡ true) where
    abbrev form : Text
    form = index_of (subject s) s.row_count

    pub too_long : leb (length form) (length x) ≡ false → told.answered 22 0 x ≡ write s x
    unfolding write
    too_long f = rw (index_told s) (told.too_long 22 (usable for_long_form s) form x e f)

    module _ (f : leb (length form) (length x) ≡ true) where
      pub fits : length form ≤ length x
      fits = told.fits 22 (usable for_long_form s) form x e f

      pub whole : (r : ℕ) (y : Text) → r ≡ length form → y ≡ over form x → told.answered 0 r y ≡ write s x
      unfolding write
      whole r y g h = rw (index_told s) (told.whole 22 (usable for_long_form s) form x e f r y g h)
