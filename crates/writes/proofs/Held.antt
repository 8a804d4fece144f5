-- The memory that the slices hold once a term or a row is added, and the room that this takes.
use mathlib.Core.Path.{◌≡◌, refl, ap, ◌∙◌}
use mathlib.Core.List.{List, [], ◌∷◌, ◌++◌}
use Prim.Native.Nat.{ℕ, ◌+◌, ◌*◌, ◌/◌, ◌≤◌, ◌<◌}
use native.Mathlib.Omega.{arith}
use lib.Dec.{leb}
use lib.ListN.{length, get_or, take, drop, set, length-append, length-set}
use lib.Seq.{get_or-set_same, get_or-set_other}
use Rattle.text.specs.Text.{Text}
use Rattle.text.proofs.Compare.{by}
use Rattle.text.proofs.Over.{over_at_length}
use Rattle.limits.specs.Limits.{work_size}
use Rattle.environment.specs.Code.{environment_in}
use Rattle.environment.proofs.Directives.{in_force_words, in_force_front}
use Rattle.dataset.specs.Terms.{Term, iri, blank, literal, tagged}
use Rattle.table.specs.Layout.{Row, row_words, entry_words, row_size, term_size, word_limit}
use Rattle.table.specs.Tables.{is_blank, term_bytes, store_size}
use Rattle.table.proofs.Store.{last_size}
use Rattle.terms.specs.declared.Counts.{Counts}
use Rattle.terms.specs.declared.Sort.{Sort}
use Rattle.terms.specs.Sorts.{kind_of, type_of}
use Rattle.terms.specs.Keeps.{blank_count, Means, TermFits, Added, KeepsRows, RowAdded}
use Rattle.terms.specs.Code.{next_entry, next_counts}
use Rattle.terms.proofs.Slices.{past_over_at}
use Rattle.terms.proofs.Growth.{entry_size_is}
use Rattle.term_tree.specs.Holds.{Holds}
use Rattle.machine.specs.Memory.{Memory, new_term, row}
use Rattle.machine.specs.Demand.{Fits}
use Rattle.state.specs.Words.{rows_word, terms_word, used_word, blanks_word, graph_word, counts_of, kind_word, graph_in}
use Rattle.state.specs.Represents.{Tables, lent_tables, counted, room_in, Represents}
use Rattle.state.proofs.Counted.{counted_room}
use Rattle.writes.specs.Steps.{CountsSet}

-- ---- Room for a term

room_counted : (k n : ℕ) → k ≤ n → k ≤ 4294967294 → k ≤ counted n
room_counted k n h l = by (leb n 4294967294) (λ e. rw e h) (λ e. rw e l)

few_blanks : (ts : List Term) → blank_count ts ≤ length ts
unfolding blank_count
few_blanks [] = omega arith
few_blanks (t ∷ ts) = by (is_blank t) (λ e. rw e (omega (arith, few_blanks ts))) (λ e. rw e (omega (arith, few_blanks ts)))

means_size : (ts : List Term) (sort : Sort) (x g : Text) (u : Term) → Means ts sort x g u → length (term_bytes u) ≡ length x + length g
unfolding Means
means_size ts sort x g (iri s) (k, (e, h)) = rw (e, h) (length-append x [])
means_size ts sort x g (blank b) (k, (e, h)) = rw (e, h) (length-append x [])
means_size ts sort x g (literal s d) (k, (e, (h, n))) = rw (e, h) (length-append x [])
means_size ts sort x g (tagged s d) (k, (e, h)) = rw (e, h) (length-append x g)

means_kind : (ts : List Term) (sort : Sort) (x g : Text) (u : Term) → Means ts sort x g u → kind_of sort ≤ 4
unfolding Means
means_kind ts sort x g (iri s) M = omega (arith, M.0)
means_kind ts sort x g (blank b) M = omega (arith, M.0)
means_kind ts sort x g (literal s d) M = omega (arith, M.0)
means_kind ts sort x g (tagged s d) M = omega (arith, M.0)

pub term_room : (old : Tables) (m : Memory) (work : Text) (rows terms : List ℕ) (store : Text) (st : List ℕ) (sort : Sort) (x g : Text) (u : Term) → Represents old m work (lent_tables rows terms store) st
    → Fits (room_in (lent_tables rows terms store)) (new_term u m).1 → Means m.terms sort x g u → type_of sort < word_limit → TermFits terms store (counts_of st) sort x g
term_room old m work rows terms store st sort x g u R F M d =
    let K = R.terms_held.keeps in
    let bytes : get_or st used_word 0 + (length x + length g) ≤ counted (length store) = omega (arith, F.store, last_size m.terms u, means_size m.terms sort x g u M, K.used) in
    let count : get_or st terms_word 0 + 1 ≤ counted (length terms / term_size) = omega (arith, F.terms, length-append m.terms (u ∷ []), K.count) in
    record {
      words = omega (arith, count, (counted_room (length terms / term_size)).0);
      bytes = omega (arith, bytes, (counted_room (length store)).0);
      small = record {
        terms = omega (arith, count, (counted_room (length terms / term_size)).1);
        used = omega (arith, bytes, (counted_room (length store)).1);
        blanks = omega (arith, K.blanks, few_blanks m.terms, K.count, count, (counted_room (length terms / term_size)).1);
        kind = omega (arith, means_kind m.terms sort x g u M);
        datatype = d;
      };
    }

-- ---- The environment

environment_kept : (work work' : Text) (st st' : List ℕ) → take work_size work' ≡ take work_size work → ((k : ℕ) → k < rows_word → get_or st' k 0 ≡ get_or st k 0) → environment_in work' st' ≡ environment_in work st
environment_kept work work' st st' e same = in_force_front work work' st' e ∙ in_force_words work st st' same

-- ---- A term more

module _ (old : Tables) (m : Memory) (work work' : Text) (rows terms terms' : List ℕ) (store store' : Text) (st st' : List ℕ) (sort : Sort) (x g : Text) (u : Term) where
  pub held_term : Represents old m work (lent_tables rows terms store) st → TermFits terms store (counts_of st) sort x g → Added terms terms' store store' (counts_of st) (counts_of st') sort x g
      → Holds (m.terms ++ u ∷ []) terms' store' (drop work_size work') (counts_of st') → take work_size work' ≡ take work_size work → length work' ≡ length work
      → CountsSet st st' (counts_of st') → Represents old (new_term u m).1 work' (lent_tables rows terms' store') st'
  unfolding next_counts
  held_term R P A H front long S =
      let e = entry_words (next_entry (counts_of st) sort (length x) (length g)) in
      let e_size : length e ≡ term_size = entry_size_is (next_entry (counts_of st) sort (length x) (length g)) in
      let count : get_or st' terms_word 0 ≡ get_or st terms_word 0 + 1 = ap (λ (c : Counts). c.terms) A.counts in
      let used : get_or st' used_word 0 ≡ get_or st used_word 0 + (length x + length g) = ap (λ (c : Counts). c.used) A.counts in
      let long_terms : length terms' ≡ length terms = ap length A.words ∙ over_at_length (term_size * get_or st terms_word 0) e terms in
      let long_store : length store' ≡ length store = ap length A.bytes ∙ over_at_length (get_or st used_word 0) (x ++ g) store in
      let size : length (x ++ g) ≡ length x + length g = length-append x g in
      let last_word : term_size * get_or st' terms_word 0 ≡ term_size * get_or st terms_word 0 + length e = omega (arith, count, e_size) in
      let last_byte : get_or st' used_word 0 ≡ get_or st used_word 0 + length (x ++ g) = omega (arith, used, size) in
      record {
        usable = record { room = omega (arith, long, R.usable.room); words = S.words ∙ R.usable.words };
        environment = environment_kept work work' st st' front (λ k h. S.before k (omega arith)) ∙ R.environment;
        base = R.base;
        terms_held = H;
        rows_held = rw (S.before rows_word (omega arith)) R.rows_held;
        graph = S.behind graph_word (omega arith) ∙ R.graph;
        graph_small = R.graph_small;
        fits = record {
          rows = R.fits.rows;
          terms = room_counted (length (m.terms ++ u ∷ [])) (length terms' / term_size) (omega (arith, H.keeps.count, count, P.words, long_terms)) (omega (arith, H.keeps.count, count, P.small.terms));
          store = room_counted (store_size (m.terms ++ u ∷ [])) (length store') (omega (arith, H.keeps.used, used, P.bytes, long_store)) (omega (arith, H.keeps.used, used, P.small.used));
        };
        same_rows = rw (S.before rows_word (omega arith)) R.same_rows;
        same_terms = rw (last_word, A.words) (past_over_at (term_size * get_or st terms_word 0) e terms old.terms (omega (arith, e_size, P.words)) R.same_terms);
        same_store = rw (last_byte, A.bytes) (past_over_at (get_or st used_word 0) (x ++ g) store old.store (omega (arith, size, P.bytes)) R.same_store);
      }

-- ---- A row more

pub row_room : (old : Tables) (m : Memory) (work : Text) (rows terms : List ℕ) (store : Text) (st : List ℕ) (s p o at : ℕ) → Represents old m work (lent_tables rows terms store) st
    → Fits (room_in (lent_tables rows terms store)) (row s p o at m).1 → (row_size * get_or st rows_word 0 + row_size ≤ length rows) × (get_or st rows_word 0 < 4294967294)
row_room old m work rows terms store st s p o at R F =
    let r : Row = record { graph = m.graph; subject = s; predicate = p; object = o; position = at } in
    let count : get_or st rows_word 0 + 1 ≤ counted (length rows / row_size) = omega (arith, F.rows, length-append m.rows (r ∷ []), R.rows_held.size) in
    (omega (arith, count, (counted_room (length rows / row_size)).0), omega (arith, count, (counted_room (length rows / row_size)).1))

pub held_row : (old : Tables) (m : Memory) (work : Text) (rows rows' terms : List ℕ) (store : Text) (st : List ℕ) (s p o at : ℕ) → Represents old m work (lent_tables rows terms store) st
    → row_size * get_or st rows_word 0 + row_size ≤ length rows → get_or st rows_word 0 < 4294967294 → RowAdded rows rows' (get_or st rows_word 0) (graph_in st ∷ s ∷ p ∷ o ∷ at ∷ [])
    → Represents old (row s p o at m).1 work (lent_tables rows' terms store) (set st rows_word (get_or st rows_word 0 + 1))
unfolding row_words
held_row old m work rows rows' terms store st s p o at R room small A =
    let r : Row = record { graph = m.graph; subject = s; predicate = p; object = o; position = at } in
    let new_row = graph_in st ∷ s ∷ p ∷ o ∷ at ∷ [] in
    let n = get_or st rows_word 0 in
    let st' = set st rows_word (n + 1) in
    let count : get_or st' rows_word 0 ≡ n + 1 = get_or-set_same st rows_word (n + 1) 0 (omega (arith, R.usable.words)) in
    let others : (k : ℕ) → (k ≡ rows_word → ⊥) → get_or st' k 0 ≡ get_or st k 0 = λ k h. get_or-set_other st rows_word k (n + 1) 0 h in
    let K : KeepsRows (m.rows ++ r ∷ []) rows' (n + 1) = A.keeps m.rows r R.rows_held (rw R.graph) in
    let same_counts : counts_of st' ≡ counts_of st = rw (others terms_word (λ e. omega arith), others used_word (λ e. omega arith), others blanks_word (λ e. omega arith)) in
    let long : length rows' ≡ length rows = ap length A.words ∙ over_at_length (row_size * n) new_row rows in
    let last_word : row_size * get_or st' rows_word 0 ≡ row_size * n + length new_row = omega (arith, count) in
    record {
      usable = record { room = R.usable.room; words = length-set st rows_word (n + 1) ∙ R.usable.words };
      environment = environment_kept work work st st' refl (λ k h. others k (λ e. omega arith)) ∙ R.environment;
      base = R.base;
      terms_held = rw same_counts R.terms_held;
      rows_held = rw count K;
      graph = others graph_word (λ e. omega arith) ∙ R.graph;
      graph_small = R.graph_small;
      fits = record {
        rows = room_counted (length (m.rows ++ r ∷ [])) (length rows' / row_size) (omega (arith, K.size, room, long)) (omega (arith, K.size, small));
        terms = R.fits.terms;
        store = R.fits.store;
      };
      same_rows = rw (last_word, A.words) (past_over_at (row_size * n) new_row rows old.rows room R.same_rows);
      same_terms = rw (others terms_word (λ e. omega arith)) R.same_terms;
      same_store = rw (others used_word (λ e. omega arith)) R.same_store;
    }

-- ---- A word between the counts and the cursor's: a kept number, the node's

pub held_word : (old : Tables) (m : Memory) (work : Text) (t : Tables) (st : List ℕ) (i n : ℕ) → blanks_word < i → i < kind_word → Represents old m work t st → Represents old m work t (set st i n)
held_word old m work t st i n low high R =
    let st' = set st i n in
    let others : (k : ℕ) → (k ≡ i → ⊥) → get_or st' k 0 ≡ get_or st k 0 = λ k h. get_or-set_other st i k n 0 h in
    let same_counts : counts_of st' ≡ counts_of st = rw (others terms_word (λ e. omega arith), others used_word (λ e. omega arith), others blanks_word (λ e. omega arith)) in
    let same_count : get_or st' rows_word 0 ≡ get_or st rows_word 0 = others rows_word (λ e. omega arith) in
    record {
      usable = record { room = R.usable.room; words = length-set st i n ∙ R.usable.words };
      environment = environment_kept work work st st' refl (λ k h. others k (λ e. omega arith)) ∙ R.environment;
      base = R.base;
      terms_held = rw same_counts R.terms_held;
      rows_held = rw same_count R.rows_held;
      graph = others graph_word (λ e. omega arith) ∙ R.graph;
      graph_small = R.graph_small;
      fits = R.fits;
      same_rows = rw same_count R.same_rows;
      same_terms = rw (others terms_word (λ e. omega arith)) R.same_terms;
      same_store = rw (others used_word (λ e. omega arith)) R.same_store;
    }
