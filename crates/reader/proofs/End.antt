-- Where reading ends: what the lent_slices hold is what the machine's outcome says.
use mathlib.Core.Path.{◌≡◌, sym, ap, subst, ◌∙◌}
use mathlib.Core.List.{List, [], ◌++◌}
use Prim.Native.Nat.{ℕ, ◌*◌}
use native.Mathlib.Omega.{arith}
use borrow.Author.Tests.{eqb-true, eqb-false}
use lib.Dec.{eqb}
use lib.ListN.{length, get_or, take, drop, take-append-drop}
use Rattle.text.specs.Text.{Text}
use Rattle.text.proofs.Compare.{by}
use Rattle.text.proofs.Zeros.{zeros}
use Rattle.table.specs.Tables.{rows_words, terms_words, store_bytes}
use Rattle.table.proofs.Store.{rows_length, bytes_length}
use Rattle.table.specs.Layout.{row_size, term_size}
use Rattle.terms.proofs.Words.{words_length}
use Rattle.machine.specs.Memory.{Memory, start_memory}
use Rattle.machine.specs.Frame.{statement}
use Rattle.machine.specs.Step.{Outcome, accepted, refused}
use Rattle.machine.specs.Read.{Answer, refusal, success, reported, mode_of, read_tokens}
use Rattle.state.specs.Words.{rows_word, terms_word, used_word, at_in}
use Rattle.state.proofs.Counted.{counted_run}
use Rattle.simulation.specs.Simulation.{tables_of, Holding, goes}
use Rattle.state.specs.declared.Held.{Held}
use Rattle.statements.specs.Statements.{ReadsAll}
use Rattle.reader.specs.Reader.{Reading, LentSlices, lent_slices, lengths, Gives}
use Rattle.reader.specs.Stages.{held_slices, Checked, Started, Finishes}
use Rattle.reader.proofs.Start.{holds_start}

-- Words in front of what was there before.
in_front : (xs old new : List ℕ) (k : ℕ) → take k xs ≡ new → drop k xs ≡ drop k old → k ≡ length new → xs ≡ new ++ drop (length new) old
in_front xs old new k e f g = sym (take-append-drop k xs) ∙ (rw (e, f, g))

terms_length : (m : Memory) → length (terms_words m.terms) ≡ term_size * length m.terms
unfolding terms_words
terms_length m = words_length m.terms 0 0 m.terms

module _ (doc base work : Text) (mode : ℕ) (a b : Held) (n : ℕ) (K : Checked doc base work) (S : Started doc base work a.work.now a.st) (R : ReadsAll (mode_of mode) doc a b n)
    (after : LentSlices) (r : Reading) (F : Finishes (length doc) n b.st (held_slices b) after r) where
  abbrev before : LentSlices
  before = lent_slices work a.rows.now a.terms.now a.store.now

  -- The answer is the machine's outcome from the cursor, where room is counted.
  by_outcome : (o : Outcome) → goes (mode_of mode) doc a (statement []) (start_memory base) ≡ o → read_tokens doc mode base (lengths before) ≡ reported (length doc) o
  unfolding read_tokens goes
  by_outcome o e =
      ap (reported (length doc)) (sym (counted_run (mode_of mode) doc base (length work) (tables_of a) K.size))
      ∙ rw S.tokens (rw S.depth at (ap (reported (length doc)) e))

  zeros_for : (x : List ℕ) (i j : ℕ) → x ≡ zeros i → i ≡ j → x ≡ zeros j
  zeros_for x i j e f = e ∙ ap zeros f

  accepts : n ≡ 0 → (m : Memory) → Holding (tables_of a) m b → Gives (success (length doc) m) before after r
  accepts e m H = let W = F.accepted e in record {
    number = F.number ∙ e;
    position = W.position;
    row_count = W.row_count ∙ H.rows_held.size;
    term_count = W.term_count ∙ H.terms_held.keeps.count;
    store_count = W.store_count ∙ H.terms_held.keeps.used;
    work = zeros_for after.work (length b.work.now) (length work) W.work (R.same.work_length ∙ S.long);
    rows = W.rows
        ∙ in_front b.rows.now a.rows.now (rows_words m.rows) (row_size * get_or b.st rows_word 0) H.rows_held.words H.same_rows (omega (arith, H.rows_held.size, rows_length m.rows));
    terms = W.terms
        ∙ in_front b.terms.now a.terms.now (terms_words m.terms) (term_size * get_or b.st terms_word 0) H.terms_held.keeps.words H.same_terms (omega (arith, H.terms_held.keeps.count, terms_length m));
    store = W.store
        ∙ in_front b.store.now a.store.now (store_bytes m.terms) (get_or b.st used_word 0) H.terms_held.keeps.bytes H.same_store (H.terms_held.keeps.used ∙ sym (bytes_length m.terms));
  }

  refuses : (n ≡ 0 → ⊥) → Gives (refusal n (at_in b.st)) before after r
  refuses e = let X = F.refused e in record {
    number = F.number;
    position = X.position;
    row_count = X.row_count;
    term_count = X.term_count;
    store_count = X.store_count;
    work = zeros_for after.work (length b.work.now) (length work) X.cleared.work (R.same.work_length ∙ S.long);
    rows = zeros_for after.rows (length b.rows.now) (length a.rows.now) X.cleared.rows R.same.rows_length;
    terms = zeros_for after.terms (length b.terms.now) (length a.terms.now) X.cleared.terms R.same.terms_length;
    store = zeros_for after.store (length b.store.now) (length a.store.now) X.cleared.store R.same.store_length;
  }

  -- The answer of an outcome that the machine comes to.
  answers : (o : Outcome) → goes (mode_of mode) doc a (statement []) (start_memory base) ≡ o → Gives (reported (length doc) o) before after r → Gives (read_tokens doc mode base (lengths before)) before after r
  answers o e g = subst (λ (q : Answer). Gives q before after r) (sym (by_outcome o e)) g

  pub gives : Gives (read_tokens doc mode base (lengths before)) before after r
  gives =
      let H : Holding (tables_of a) (start_memory base) a = holds_start a K.good_base S in
      by (eqb n 0)
      (λ q. let e : n ≡ 0 = eqb-true n 0 q in let G = R.on e (tables_of a) (start_memory base) H in answers (accepted G.0) G.1.1 (accepts e G.0 G.1.0))
      (λ q. let e : n ≡ 0 → ⊥ = eqb-false n 0 q in answers (refused n (at_in b.st)) (R.stop e (tables_of a) (start_memory base) H) (refuses e))
