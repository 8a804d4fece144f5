-- Lines by their pieces, and all lines by the first of them.
use mathlib.Core.Path.{◌≡◌, refl, ap, sym, ◌∙◌, subst}
use mathlib.Core.Bool.{true, false}
use mathlib.Core.List.{◌++◌, append_assoc, append-nil}
use Prim.Native.Nat.{ℕ, zero, suc, ◌+◌, ◌-◌, ◌≤◌, ◌<◌}
use native.Mathlib.Nat.{zero-add, add-zero, suc-add, add-suc}
use native.Mathlib.Omega.{arith}
use borrow.Author.Tests.{eq-eqb, ne_eqb, le-leb, lt-leb}
use lib.Dec.{leb}
use lib.ListN.{length, length-append}
use Rattle.text.specs.Text.{Text, ascii}
use Rattle.table.specs.Layout.{Row, Slices, row_at}
use Rattle.table.specs.LongForm.{term_form, triple_form, line, lines_from}
use Rattle.writer.specs.Writing.{Countable, Wrote}
use Rattle.writer.specs.Drawn.{part_form}
use Rattle.writer.proofs.Chains.{both, room_before, room_after, wrote_nothing}

-- ---- One line

three : (a b c : Text) → a ++ ascii " " ++ b ++ ascii " " ++ c ++ ascii " ." ≡ (a ++ ascii " ") ++ ((b ++ ascii " ") ++ (c ++ ascii " ."))
three a b c = simp append_assoc

braced : (g t : Text) → (g ++ ascii " { " ++ t ++ ascii " }") ++ ascii "\n" ≡ (g ++ ascii " ") ++ (ascii "{ " ++ (t ++ ascii " }\n"))
braced g t = simp append_assoc

module _ (s : Slices) where
  module _ (r : Row) where
    pub triple_parts : triple_form s r ≡ part_form s r.subject ++ (part_form s r.predicate ++ (term_form s r.object ++ ascii " ."))
    unfolding triple_form
    triple_parts =
        three (term_form s r.subject) (term_form s r.predicate) (term_form s r.object)

    pub line_default : r.graph ≡ 0 → line s r ≡ triple_form s r ++ ascii "\n"
    unfolding line
    line_default e = rw (eq-eqb r.graph 0 e)

    pub line_graph : (r.graph ≡ 0 → ⊥) → line s r ≡ part_form s r.graph ++ (ascii "{ " ++ (triple_form s r ++ ascii " }\n"))
    unfolding line
    line_graph h = rw (ne_eqb r.graph 0 h) (braced (term_form s r.graph) (triple_form s r))

  -- ---- Lines one after the other

  abbrev row : ℕ → Text
  row i = line s (row_at s.rows i)

  lines_append : (i m k : ℕ) → lines_from s i (m + k) ≡ lines_from s i m ++ lines_from s (i + m) k
  unfolding lines_from
  lines_append i zero k = rw (zero-add k, add-zero i)
  lines_append i (suc m) k =
      rw (suc-add m k, lines_append (suc i) m k, add-suc i m, suc-add i m) (sym (append_assoc (row i) (lines_from s (suc i) m) (lines_from s (suc (i + m)) k)))

  pub lines_last : (i : ℕ) → lines_from s 0 (i + 1) ≡ lines_from s 0 i ++ row i
  unfolding lines_from
  lines_last i = lines_append 0 i 1 ∙ rw (zero-add i, append-nil (row i))

  pub lines_none : (x : Text) → Wrote 0 (lines_from s 0 0) x x 0
  unfolding lines_from
  lines_none x = wrote_nothing 0 x

  module _ (i n : ℕ) (h : i < n) where
    lines_more : lines_from s 0 n ≡ (lines_from s 0 i ++ row i) ++ lines_from s (i + 1) (n - (i + 1))
    lines_more =
        let e : n ≡ (i + 1) + (n - (i + 1)) = omega arith in
        ap (lines_from s 0) e ∙ lines_append 0 (i + 1) (n - (i + 1)) ∙ rw (lines_last i, zero-add (i + 1))

    pub lines_length : length (lines_from s 0 i) + length (row i) ≤ length (lines_from s 0 n)
    lines_length =
        let e = ap length lines_more in
        let f = length-append (lines_from s 0 i ++ row i) (lines_from s (i + 1) (n - (i + 1))) in
        let g = length-append (lines_from s 0 i) (row i) in
        omega arith

    pub too_long : (total limit m : ℕ) → total ≡ length (lines_from s 0 i) → m ≡ 0 + length (row i) → limit - total < m → false ≡ leb (length (lines_from s 0 n)) limit
    too_long total limit m e f l = sym (lt-leb (length (lines_from s 0 n)) limit (omega (arith, lines_length)))

    module _ {x y : Text} {at : ℕ} (v : Wrote 0 (lines_from s 0 i) x y at) where
      pub line_room : Countable 0 (lines_from s 0 n) → Countable at (row i)
      line_room r = room_after v (room_before (lines_from s 0 i ++ row i) (lines_from s (i + 1) (n - (i + 1))) (subst (Countable 0) lines_more r))

  pub line_next : (i : ℕ) {x y z : Text} {at m : ℕ} → Wrote 0 (lines_from s 0 i) x y at → Wrote at (row i) y z m → Wrote 0 (lines_from s 0 (i + 1)) x z m
  line_next i {x} {y} {z} {at} {m} v w = subst (λ (t : Text). Wrote 0 t x z m) (sym (lines_last i)) (both v w)

  pub more_length : (i total m : ℕ) → total ≡ length (lines_from s 0 i) → m ≡ 0 + length (row i) → total + m ≡ length (lines_from s 0 (i + 1))
  more_length i total m e f =
      let g = ap length (lines_last i) in
      let k = length-append (lines_from s 0 i) (row i) in
      omega arith

  pub none_length : 0 ≡ length (lines_from s 0 0)
  unfolding lines_from
  none_length = refl

  pub all_fit : (i n total limit : ℕ) → n ≤ i → i ≤ n → total ≡ length (lines_from s 0 i) → total ≤ limit → true ≡ leb (length (lines_from s 0 n)) limit
  all_fit i n total limit h k e l =
      let z : i ≡ n = omega arith in
      let f = ap (λ (m : ℕ). length (lines_from s 0 m)) z in
      sym (le-leb (length (lines_from s 0 n)) limit (omega arith))
