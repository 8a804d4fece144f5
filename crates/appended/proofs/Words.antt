-- More rows and terms leave the words and bytes of those before them as they are.
use mathlib.Core.Path.{◌≡◌, sym, ap, ◌∙◌}
use mathlib.Core.List.{List, [], ◌++◌}
use Prim.Native.Nat.{ℕ, ◌+◌, ◌*◌}
use native.Mathlib.Omega.{arith}
use lib.ListN.{length, get_or, drop, length-append}
use lib.Seq.{take_at}
use Rattle.text.specs.Text.{Text}
use Rattle.dataset.specs.Terms.{Term, iri, blank, literal, tagged}
use Rattle.table.specs.Layout.{row_size, term_size}
use Rattle.table.specs.Tables.{words_from, terms_words, store_bytes, store_size, rows_words}
use Rattle.table.proofs.Store.{rows_append, rows_length, bytes_append, bytes_length}
use Rattle.terms.specs.Keeps.{blank_count, Typed}
use Rattle.terms.proofs.Words.{words_append, words_length, words_more}
use Rattle.machine.specs.Memory.{Memory}
use Rattle.machine.specs.Read.{written, contents, success}
use Rattle.machine.proofs.Extends.{Extends}
use Rattle.readback.specs.ReadBack.{slices_after}
use Rattle.table.specs.Usable.{Takes}
use Rattle.readback.proofs.Kept.{Fine, AllFine}
use Rattle.readback.proofs.Laid.{fine_at}
use Rattle.appended.specs.Appended.{IsBeginning, Begins}

-- A datatype is numbered before its literal, so that its number stays.
fine_typed : (v : Takes) (ts : List Term) (n : ℕ) (t : Term) → Fine v ts n t → Typed ts t
unfolding Typed
fine_typed v ts n (iri s) f = tt
fine_typed v ts n (blank b) f = tt
fine_typed v ts n (literal s d) f = (f.1.place, f.1.found)
fine_typed v ts n (tagged s g) f = tt

pub terms_begin : (v : Takes) (ts us : List Term) → AllFine v ts 1 ts → (rest : List ℕ) × (terms_words (ts ++ us) ≡ terms_words ts ++ rest)
unfolding terms_words
terms_begin v ts us f =
    let rest = words_from (ts ++ us) (0 + store_size ts) (0 + blank_count ts) us in (
      rest,
      words_append (ts ++ us) 0 0 ts us
          ∙ ap (λ (l : List ℕ). l ++ rest) (words_more ts us 0 0 ts (λ i h. fine_typed v ts (1 + i) (get_or ts i (iri [])) (fine_at v ts 1 ts i f h))),
    )

-- What was written begins what the other call has written, whatever the slices held before.
written_begins : (a b rest old old' : List ℕ) (n m : ℕ) → length a ≡ n → length b ≡ m → b ≡ a ++ rest → IsBeginning n (contents (written a) old) m (contents (written b) old')
written_begins a b rest old old' n m l k e = (
  omega (arith, ap length e, length-append a rest),
  rest,
  take_at b (drop (length b) old') m k ∙ e ∙ ap (λ (x : List ℕ). x ++ rest) (sym (take_at a (drop (length a) old) n l)),
)

pub begins : (v : Takes) (n n' : ℕ) (m m' : Memory) → AllFine v m.terms 1 m.terms → Extends m m' → (rows rows' terms terms' : List ℕ) (store store' : Text)
    → Begins (slices_after (success n m) rows terms store) (slices_after (success n' m') rows' terms' store')
unfolding terms_words
begins v n n' m m' f x rows rows' terms terms' store store' =
    let (more_terms, p) = terms_begin v m.terms x.new_terms f in
    record {
      rows =
          written_begins (rows_words m.rows) (rows_words m'.rows) (rows_words x.new_rows) rows rows' (row_size * length m.rows) (row_size * length m'.rows) (rows_length m.rows)
          (rows_length m'.rows) (ap rows_words x.rows ∙ rows_append m.rows x.new_rows);
      terms =
          written_begins (terms_words m.terms) (terms_words m'.terms) more_terms terms terms' (term_size * length m.terms) (term_size * length m'.terms)
          (words_length m.terms 0 0 m.terms) (words_length m'.terms 0 0 m'.terms) (ap terms_words x.terms ∙ p);
      store =
          written_begins (store_bytes m.terms) (store_bytes m'.terms) (store_bytes x.new_terms) store store' (store_size m.terms) (store_size m'.terms) (bytes_length m.terms)
          (bytes_length m'.terms) (ap store_bytes x.terms ∙ bytes_append m.terms x.new_terms);
    }
