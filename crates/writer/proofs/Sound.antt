-- Usable tables can be written, and their lines are short.
use mathlib.Core.Path.{◌≡◌}
use mathlib.Core.Bool.{true}
use mathlib.Core.List.{◌++◌}
use Prim.Native.Nat.{ℕ, ◌+◌, ◌*◌, ◌^◌, ◌≤◌, ◌<◌}
use native.Mathlib.Omega.{arith}
use borrow.Author.Tests.{eqb-true, eqb-false}
use lib.Dec.{eqb}
use lib.ListN.{length, length-append}
use Rattle.text.specs.Text.{ascii}
use Rattle.utf8.proofs.Tests.{by}
use Rattle.table.specs.Layout.{Row, Slices, row_at, iri_kind, blank_kind, literal_kind}
use Rattle.table.specs.Usable.{Takes, the, text, tag, good_row, present, usable}
use Rattle.table.specs.LongForm.{string_form, type_form, term_form, triple_form, line}
use Rattle.usable.specs.Lent.{bare, Sound}
use Rattle.usable.proofs.Facts.{usable_row}
use Rattle.usable.proofs.Standing.{sound_rows, typed, tagged, text_within, object_in, predicate_in, subject_in, graph_in}
use Rattle.writer.specs.Drawn.{Writable, Ready, Short, tag_form, literal_form}
use Rattle.writer.proofs.Bounds.{span_bound, iri_form_bound, string_form_bound, type_form_bound, digits_bound}
use Rattle.writer.proofs.Pieces.{term_iri, term_blank, term_literal, literal_typed, literal_tagged}
use Rattle.writer.proofs.RowForms.{triple_parts, line_default, line_graph}

writable : (s : Slices) (n : ℕ) → Sound (bare s) n → Writable s n
writable s n g = record {
  stands = g.stands;
  text_in = g.text_in;
  type_stands = g.type_stands;
  type_in = g.type_in;
  tag_in = g.tag_in;
}

module _ (w : Takes) (s : Slices) (e : usable w s ≡ true) where
  -- ---- Terms

  module _ (n : ℕ) (p : present s n ≡ true) where
    text_size : length (text s n) ≤ s.store_count
    text_size = let t = text_within w s e n p in let b = span_bound s.store (the s n).start (the s n).size in omega arith

  module _ (n : ℕ) (p : present s n ≡ true) where
    -- A literal with a datatype is the longest.
    term_bound : length (term_form s n) ≤ 12 * s.store_count + 13
    term_bound =
        by (eqb (the s n).kind iri_kind)
        (λ q. let a = iri_form_bound (text s n) in let t = text_size n p in rw (term_iri s n (eqb-true (the s n).kind iri_kind q)) (omega arith))
        (λ q.
        by (eqb (the s n).kind blank_kind)
        (λ r.
        let a = digits_bound 10 (the s n).fourth in
        rw (term_blank s n (eqb-false (the s n).kind iri_kind q) (eqb-true (the s n).kind blank_kind r)) (omega arith))
        (λ r.
        rw (term_literal s n (eqb-false (the s n).kind iri_kind q) (eqb-false (the s n).kind blank_kind r))
        (by (eqb (the s n).kind literal_kind)
        (λ u. typed_bound (eqb-true (the s n).kind literal_kind u))
        (λ u. tagged_bound (eqb-false (the s n).kind iri_kind q) (eqb-false (the s n).kind blank_kind r) (eqb-false (the s n).kind literal_kind u)))))
      where
        typed_bound : (the s n).kind ≡ literal_kind → length (literal_form s n) ≤ 12 * s.store_count + 13
        typed_bound k =
            let d = text s (the s n).fourth in
            let a = string_form_bound (text s n) in let t = text_size n p in
            let b = type_form_bound d in let u = text_size (the s n).fourth (typed w s e n p k) in
            let c = length-append (string_form (text s n)) (type_form d) in
            rw (literal_typed s n k) (omega arith)

        tagged_bound : ((the s n).kind ≡ iri_kind → ⊥) → ((the s n).kind ≡ blank_kind → ⊥) → ((the s n).kind ≡ literal_kind → ⊥) → length (literal_form s n) ≤ 12 * s.store_count + 13
        tagged_bound i b l =
            let a = string_form_bound (text s n) in let t = text_size n p in
            let v = tagged w s e n p i b l in let u = span_bound s.store (the s n).fourth (the s n).fifth in
            let c = length-append (string_form (text s n)) (tag_form (tag s n)) in
            rw (literal_tagged s n l) (omega arith)

  -- ---- Rows

  module _ (r : Row) (t : good_row s r ≡ true) where
    triple_bound : length (triple_form s r) ≤ 3 * (12 * s.store_count + 13) + 4
    triple_bound =
        let a = term_form s r.subject in
        let b = term_form s r.predicate in
        let c = term_form s r.object in
        let u = term_bound r.subject (subject_in s r t) in
        let v = term_bound r.predicate (predicate_in s r t) in
        let x = term_bound r.object (object_in s r t) in
        let f = length-append a (ascii " ") in
        let g = length-append b (ascii " ") in
        let k = length-append c (ascii " .") in
        let l = length-append (b ++ ascii " ") (c ++ ascii " .") in
        let m = length-append (a ++ ascii " ") ((b ++ ascii " ") ++ (c ++ ascii " .")) in
        rw (triple_parts s r) (omega arith)

    line_bound : length (line s r) ≤ 4 * (12 * s.store_count + 13) + 10
    line_bound =
        by (eqb r.graph 0)
        (λ q.
        let f = length-append (triple_form s r) (ascii "\n") in
        let b = triple_bound in
        rw (line_default s r (eqb-true r.graph 0 q)) (omega arith))
        (λ q.
        let n = eqb-false r.graph 0 q in
        let g = term_form s r.graph in
        let x = triple_form s r ++ ascii " }\n" in
        let u = term_bound r.graph (graph_in s r t n) in
        let b = triple_bound in
        let f = length-append (triple_form s r) (ascii " }\n") in
        let k = length-append g (ascii " ") in
        let l = length-append (g ++ ascii " ") (ascii "{ " ++ x) in
        rw (line_graph s r n) (omega arith))

  pub ready : Ready s s.row_count
  ready i h =
      let r = row_at s.rows i in
      let g = sound_rows w s e i h in
      record {
        stands = g.stands;
        graph = λ n. writable s r.graph (g.graph n);
        subject = writable s r.subject g.subject;
        predicate = writable s r.predicate g.predicate;
        object = writable s r.object g.object;
      }

  pub short : s.store_count < 2 ^ 32 → Short s s.row_count
  short l i h = record { fits = let b = line_bound (row_at s.rows i) (usable_row w s e i h) in omega arith }
