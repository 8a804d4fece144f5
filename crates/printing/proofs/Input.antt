-- What a document and the input make the program print.
use Rattle.std.proofs.Common.{◌≡◌, ℕ, ◌+◌, ◌<◌, ◌≤◌, [], ◌++◌, Option, None, Some, Result, Ok, Err, OnOk, IfSome, Bool, true, false, cond, eqb, length, take, replicate, sym, ap, ap₂, ◌∙◌, subst, arith, length-append, length-take-le, append-nil, eq-eqb, ne_eqb, lt-ltb, le-ltb}
use Rattle.std.proofs.Math.ListN.{length-replicate}
use Rattle.std.specs.Io.KnownBytes.{Appends, Consumes, IsAtEnd}
use Rattle.text.specs.Text.{Text}
use Rattle.table.specs.Layout.{Slices}
use Rattle.usable.specs.Lent.{slices}
use Rattle.machine.specs.Read.{Lent, lends, Answer, read}
use Rattle.reader.specs.Reader.{LentSlices, lent_slices, lengths, Gives, Contract, Reading}
use Rattle.printing.specs.Printed.{refusal, tables_printed, narrow, tables_left, document_printed, printed}

-- ---- A document

abbrev pub zeros : Lent → LentSlices
zeros lent = lent_slices (replicate lent.work 0) (replicate lent.rows 0) (replicate lent.terms 0) (replicate lent.store 0)

-- The reader is lent slices of zeros.
module _ (doc : Text) (lent : Lent) (room : ℕ) (new : LentSlices) (r : Reading) (h : Contract doc 0 [] (zeros lent) new r) where
  gives : Gives (read doc 0 [] lent) (zeros lent) new r
  gives =
      let same : lengths (zeros lent) ≡ lent = simp length-replicate in
      subst (λ (l : Lent). Gives (read doc 0 [] l) (zeros lent) new r) same h

  pub refused_printed : (r.number ≡ 0 → ⊥) → refusal r.number r.position ≡ document_printed lent room doc
  unfolding document_printed
  refused_printed k =
      let a : Answer = read doc 0 [] lent in
      let not_taken : eqb a.number 0 ≡ false = ne_eqb a.number 0 (λ e. k (gives.number ∙ e)) in
      ap₂ refusal gives.number gives.position
      ∙ sym (ap (λ (b : Bool). cond b (tables_printed (tables_left a lent) room) (refusal a.number a.position)) not_taken)

  pub read_printed : (rows terms store : ℕ) → rows ≡ narrow r.rows → terms ≡ narrow r.terms → store ≡ narrow r.store → r.number ≡ 0
      → tables_printed (slices new.rows rows new.terms terms new.store store) room ≡ document_printed lent room doc
  unfolding document_printed
  read_printed rows terms store row_count term_count store_count k =
      let a : Answer = read doc 0 [] lent in
      let taken : eqb a.number 0 ≡ true = eq-eqb a.number 0 (sym gives.number ∙ k) in
      let left : slices new.rows rows new.terms terms new.store store ≡ tables_left a lent =
      simp (row_count, term_count, store_count, gives.rows, gives.row_count, gives.terms, gives.term_count, gives.store, gives.store_count) in
      ap (λ (s : Slices). tables_printed s room) left
      ∙ sym (ap (λ (b : Bool). cond b (tables_printed (tables_left a lent) room) (refusal a.number a.position)) taken)

-- ---- The input

module _ (known rest : Option Text) (page : Text) (n : ℕ) (taken : Consumes known rest (take n page)) (within : n ≤ length page) where
  pub long_input : 65536 < n → IfSome known (λ input. refusal 1 0 ≡ printed input)
  unfolding printed
  long_input h = go known rest taken
    where
      go : (old new : Option Text) → Consumes old new (take n page) → IfSome old (λ input. refusal 1 0 ≡ printed input)
      go None new e = tt
      go (Some xs) None e = absurd e
      go (Some xs) (Some ys) e =
          let m : length (take n page) ≡ n = length-take-le n page within in
          let l : length xs ≡ length (take n page) + length ys = ap length e ∙ length-append (take n page) ys in
          let long : 65536 < length xs = omega arith in
          sym (ap (λ (b : Bool). cond b (refusal 1 0) (document_printed (lends 131072 16384 16384 65536) 65536 xs)) (lt-ltb 65536 (length xs) long))

  pub whole_input : IsAtEnd rest → n ≤ 65536 → IfSome known (λ input. document_printed (lends 131072 16384 16384 65536) 65536 (take n page) ≡ printed input)
  unfolding printed
  whole_input end h = go known rest taken end
    where
      go : (old new : Option Text) → Consumes old new (take n page) → IsAtEnd new → IfSome old (λ input. document_printed (lends 131072 16384 16384 65536) 65536 (take n page) ≡ printed input)
      go None new e z = tt
      go (Some xs) None e z = absurd e
      go (Some xs) (Some ys) e z =
          let same : xs ≡ take n page = e ∙ ap (λ (s : Text). take n page ++ s) z ∙ append-nil (take n page) in
          let m : length (take n page) ≡ n = length-take-le n page within in
          let l : length xs ≡ length (take n page) = ap length same in
          let short : length xs ≤ 65536 = omega arith in
          ap (document_printed (lends 131072 16384 16384 65536) 65536) (sym same)
          ∙ sym (ap (λ (b : Bool). cond b (refusal 1 0) (document_printed (lends 131072 16384 16384 65536) 65536 xs)) (le-ltb 65536 (length xs) short))

-- What is appended is what is printed of the input.
pub appended_printed : {T E : Type 0} (r : Result T E) (known x y : Option Text) (s : Text) → IfSome known (λ input. s ≡ printed input) → OnOk r (Appends x y s) → OnOk r (IfSome known (λ input. Appends x y (printed input)))
appended_printed (Ok u) None x y s e h = tt
appended_printed (Ok u) (Some xs) x y s e h = subst (Appends x y) e h
appended_printed (Err u) known x y s e h = tt
