-- Terms that are looked for, and added where there is none equal.
use mathlib.Core.Path.{◌≡◌, refl, sym, ap, subst, ◌∙◌}
use mathlib.Core.List.{List, [], ◌∷◌, ◌++◌}
use mathlib.Core.Option.{Option, none, some}
use Prim.Native.Nat.{ℕ, ◌+◌, ◌-◌, ◌*◌, ◌/◌, ◌≤◌, ◌<◌}
use native.Mathlib.Omega.{arith}
use lib.ListN.{length, get_or, take, drop, set, length-set}
use lib.Seq.{get_or-set_same, get_or-set_other}
use Rattle.environment.specs.Code.{words_size}
use Rattle.terms.specs.Sorts.{type_of}
use Rattle.terms.specs.declared.Sort.TheVariants.{Literal, Tagged}
use Rattle.term_tree.specs.Tree.{Links, Vacant}
use Rattle.text.specs.Text.{Text}
use Rattle.limits.specs.Limits.{work_size}
use Rattle.dataset.specs.Terms.{Term, label, iri, blank, literal, tagged}
use Rattle.table.specs.Tables.{number, or_zero}
use Rattle.table.proofs.Finding.{number_last, number_within, zero_none, positive_some}
use Rattle.terms.specs.declared.Counts.{Counts}
use Rattle.terms.specs.declared.Sort.{Sort}
use Rattle.terms.specs.Keeps.{Typed, Means, TermFits, Added, BlankAdded, iri_sort, blank_sort}
use Rattle.terms.specs.Code.{next_entry}
use Rattle.text.proofs.Over.{over_at_length}
use Rattle.table.specs.Layout.{entry_words, term_size, word_limit}
use Rattle.terms.proofs.Kept.{bytes_room}
use Rattle.term_tree.specs.Holds.{Finds, Numbers, Searchable}
use Rattle.term_tree.proofs.Indexes.{searchable, holds_blank, holds_added, end_part}
use Rattle.machine.specs.Memory.{Memory, Write, term, term_by, new_term, typed}
use Rattle.machine.specs.Demand.{Fits}
use Rattle.machine.proofs.Extends.{adds_term}
use Rattle.state.specs.Words.{terms_word, used_word, blanks_word, node_word, counts_of}
use Rattle.state.specs.Represents.{Tables, lent_tables, counted, room_in, Represents}
use Rattle.state.proofs.Counted.{counted_room}
use Rattle.writes.specs.Steps.{CountsSet, Asks, ShareReady, Number, Shares, TermAdded, TermReady, TermWrites, FreshReady, FreshWrites}
use Rattle.writes.proofs.Compose.{ready_first, kept_both, kept_same}
use Rattle.writes.proofs.Held.{term_room, held_term, held_word}

-- ---- What a search answers

-- The index is the end of the work slice.
pub finds_part : (terms : List ℕ) (store work : Text) (c d : Counts) (sort : Sort) (x g : Text) (r : ℕ) → c ≡ d → Finds terms store (take (length work - work_size) (drop work_size work)) c sort x g r
    → Finds terms store (drop work_size work) d sort x g r
finds_part terms store work c d sort x g r q F = rw (end_part work_size work_size work refl, q) at F

pub searchable_part : (terms : List ℕ) (store work : Text) (c d : Counts) → c ≡ d → Searchable terms store (drop work_size work) d → Searchable terms store (take (length work - work_size) (drop work_size work)) c
searchable_part terms store work c d q S = rw (end_part work_size work_size work refl, q) S

pub ready_searchable : (sort : Sort) (x g work : Text) (terms : List ℕ) (store : Text) (st : List ℕ) → ShareReady sort x g work terms store st → Searchable terms store (drop work_size work) (counts_of st)
ready_searchable sort x g work terms store st S = searchable S.ready.memory.terms terms store (drop work_size work) (counts_of st) S.ready.represents.terms_held

module _ (sort : Sort) (x g : Text) (r : ℕ) (work : Text) (rows terms : List ℕ) (store : Text) (st : List ℕ) (F : Finds terms store (drop work_size work) (counts_of st) sort x g r) where
  abbrev t : Tables
  t = lent_tables rows terms store

  found_is : (old : Tables) (m : Memory) (u : Term) → Represents old m work t st → Asks sort x g m u → r ≡ or_zero (number u m.terms)
  found_is old m u R a = F m.terms u R.terms_held a.means a.named

  pub found_some : 0 < r → (old : Tables) (m : Memory) (u : Term) → Represents old m work t st → Asks sort x g m u → number u m.terms ≡ some r
  found_some h old m u R a = positive_some u m.terms r (sym (found_is old m u R a)) h

  pub found_none : r ≡ 0 → (old : Tables) (m : Memory) (u : Term) → Represents old m work t st → Asks sort x g m u → number u m.terms ≡ none
  found_none h old m u R a = zero_none u m.terms (sym (found_is old m u R a) ∙ h)

  -- It was found.
  pub shares_found : 0 < r → Shares sort x g r work work t t st st
  shares_found h = record {
    represents = λ old m u R a. rw (found_some h old m u R a) R;
    result = λ old m u R a. rw (found_some h old m u R a);
    kept = kept_same work t st;
  }

-- ---- Numbers fit 32 bits

small_room : (n k : ℕ) → k ≤ counted n → k < word_limit
small_room n k h = omega (arith, (counted_room n).1)

pub number_found : (sort : Sort) (x g : Text) (r : ℕ) (work : Text) (terms : List ℕ) (store : Text) (st : List ℕ) → Finds terms store (drop work_size work) (counts_of st) sort x g r
    → ShareReady sort x g work terms store st → 0 < r → Number r
number_found sort x g r work terms store st F S h =
    let m = S.ready.memory in
    let found = found_some sort x g r work S.rows terms store st F h S.ready.old m S.asked S.ready.represents S.asks in
    (h, small_room (length terms / term_size) r (omega (arith, number_within S.asked m.terms r found, S.ready.represents.fits.terms)))

-- Room for the term that was not found.
pub room_absent : (sort : Sort) (x g : Text) (r : ℕ) (work : Text) (terms : List ℕ) (store : Text) (st : List ℕ) → Finds terms store (drop work_size work) (counts_of st) sort x g r
    → (S : ShareReady sort x g work terms store st) → r ≡ 0 → TermFits terms store (counts_of st) sort x g
room_absent sort x g r work terms store st F S h =
    let m = S.ready.memory in
    let absent = found_none sort x g r work S.rows terms store st F h S.ready.old m S.asked S.ready.represents S.asks in
    let fits : Fits (room_in (lent_tables S.rows terms store)) (new_term S.asked m).1 = rw absent at S.ready.fits in
    term_room S.ready.old m work S.rows terms store st sort x g S.asked S.ready.represents fits S.asks.means S.datatype

-- ---- It was not found, and added

added_lengths : (sort : Sort) (x g : Text) (terms terms' : List ℕ) (store store' : Text) (c c' : Counts) → Added terms terms' store store' c c' sort x g → (length terms' ≡ length terms) × (length store' ≡ length store)
added_lengths sort x g terms terms' store store' c c' A =
    (ap length A.words ∙ over_at_length (term_size * c.terms) (entry_words (next_entry c sort (length x) (length g))) terms, ap length A.bytes ∙ over_at_length c.used (x ++ g) store)

module _ (sort : Sort) (x g : Text) (slot r n : ℕ) (work work' : Text) (rows terms terms' : List ℕ) (store store' : Text) (st st' : List ℕ) where
  pub shares_added : Finds terms store (drop work_size work) (counts_of st) sort x g r → r ≡ 0 → Vacant (drop work_size work) x g (type_of sort) slot → TermFits terms store (counts_of st) sort x g
      → TermAdded sort x g slot work work' terms terms' store store' st st' → n ≡ get_or st terms_word 0 + 1
      → Shares sort x g n work work' (lent_tables rows terms store) (lent_tables rows terms' store') st st'
  shares_added F z e P A en =
      let t = lent_tables rows terms store in
      let absent : (old : Tables) (m : Memory) (u : Term) → Represents old m work t st → Asks sort x g m u → number u m.terms ≡ none = found_none sort x g r work rows terms store st F z in
      record {
        represents = λ old m u R a.
            rw (absent old m u R a)
            (held_term old m work work' rows terms terms' store store' st st' sort x g u R P A.added
            (holds_added m.terms u terms terms' store store' (drop work_size work) (drop work_size work') (counts_of st) (counts_of st') sort x g slot R.terms_held A.added A.linked e a.means a.typed a.named (absent old m u R a))
            A.front A.long A.set);
        result = λ old m u R a. rw (absent old m u R a) (omega (arith, en, R.terms_held.keeps.count));
        kept = record {
          front = A.front;
          room = rw ((added_lengths sort x g terms terms' store store' (counts_of st) (counts_of st') A.added).0, (added_lengths sort x g terms terms' store store' (counts_of st) (counts_of st') A.added).1);
          stays = λ k h. A.set.behind k (omega arith);
          words = A.set.words;
        };
      }

  pub number_added : TermFits terms store (counts_of st) sort x g → n ≡ get_or st terms_word 0 + 1 → Number n
  number_added P en = (omega arith, omega (arith, P.small.terms))

-- ---- Terms of each kind

-- From a search to the write of one term.
module _ (sort : Sort) (x g : Text) (u : Term) (asks : (m : Memory) → Asks sort x g m u) (d : type_of sort < word_limit) where
  pub share_ready : (work : Text) (terms : List ℕ) (store : Text) (st : List ℕ) → TermReady (term u) work terms store st → ShareReady sort x g work terms store st
  share_ready work terms store st (rows, r) = record { rows = rows; asked = u; ready = r; asks = asks r.memory; datatype = d }

  pub share_writes : (r : ℕ) (work work' : Text) (terms terms' : List ℕ) (store store' : Text) (st st' : List ℕ)
      → Number r × ((rows : List ℕ) → Shares sort x g r work work' (lent_tables rows terms store) (lent_tables rows terms' store') st st')
      → TermWrites (term u) r work work' terms terms' store store' st st'
  share_writes r work work' terms terms' store store' st st' (n, S) = (
    n,
    (λ rows. record {
      represents = λ old m R. (S rows).represents old m u R (asks m);
      result = λ old m R. (S rows).result old m u R (asks m);
      kept = (S rows).kept;
    }),
  )

pub iri_asked : (x : Text) (m : Memory) → Asks iri_sort x [] m (iri x)
unfolding Means Typed
iri_asked x m = record { means = (refl, (refl, refl)); typed = tt; named = refl }

pub label_asked : (x : Text) → 0 < length x → (m : Memory) → Asks blank_sort x [] m (blank (label x))
unfolding Means Typed
label_asked [] h m = absurd (omega arith)
label_asked (c ∷ x) h m = record { means = (refl, (refl, refl)); typed = tt; named = refl }

abbrev pub tagged_sort : Sort
tagged_sort = Tagged

pub tagged_asked : (x g : Text) (m : Memory) → Asks tagged_sort x g m (tagged x g)
unfolding Means Typed
tagged_asked x g m = record { means = (refl, (refl, refl)); typed = tt; named = refl }

-- A literal, once its datatype has the number d.
abbrev pub literal_sort : ℕ → Sort
literal_sort d = Literal d

literal_asked : (s x : Text) (d : ℕ) (m : Memory) → number (iri x) m.terms ≡ some d → Asks (literal_sort d) s [] m (literal s x)
unfolding Means Typed
literal_asked s x d m e = record { means = (refl, (refl, (refl, ap or_zero e))); typed = (d, e); named = refl }

-- A term that was numbered has its number.
term_numbered : (u : Term) (m : Memory) (d : ℕ) → (term u m).0 ≡ d → number u (term u m).1.terms ≡ some d
term_numbered u m d = go (number u m.terms) refl
  where
    go : (o : Option ℕ) → number u m.terms ≡ o → (term_by o u m).0 ≡ d → number u (term_by o u m).1.terms ≡ some d
    go none e h = number_last u m.terms e ∙ ap some h
    go (some n) e h = e ∙ ap some h

module _ (s x : Text) (d : ℕ) (work work₁ : Text) (terms terms₁ : List ℕ) (store store₁ : Text) (st st₁ : List ℕ) where
  pub datatype_ready : TermReady (typed s x) work terms store st → TermReady (term (iri x)) work terms store st
  datatype_ready (rows, r) = (rows, ready_first (term (iri x)) (λ n. term (literal s x)) r (λ n m. (adds_term (literal s x)).extends m))

  module _ (W : TermWrites (term (iri x)) d work work₁ terms terms₁ store store₁ st st₁) where
    asked_after : (rows : List ℕ) (old : Tables) (m : Memory) → Represents old m work (lent_tables rows terms store) st → Asks (literal_sort d) s [] (term (iri x) m).1 (literal s x)
    asked_after rows old m R = literal_asked s x d (term (iri x) m).1 (term_numbered (iri x) m d ((W.1 rows).result old m R))

    pub literal_ready : TermReady (typed s x) work terms store st → ShareReady (literal_sort d) s [] work₁ terms₁ store₁ st₁
    literal_ready (rows, r) = record {
      rows = rows;
      asked = literal s x;
      ready = record {
        old = r.old;
        memory = (term (iri x) r.memory).1;
        represents = (W.1 rows).represents r.old r.memory r.represents;
        fits = rw (W.1 rows).kept.room r.fits;
      };
      asks = asked_after rows r.old r.memory r.represents;
      datatype = W.0.1;
    }

    pub literal_writes : (r : ℕ) (work₂ : Text) (terms₂ : List ℕ) (store₂ : Text) (st₂ : List ℕ)
        → Number r × ((rows : List ℕ) → Shares (literal_sort d) s [] r work₁ work₂ (lent_tables rows terms₁ store₁) (lent_tables rows terms₂ store₂) st₁ st₂)
        → TermWrites (typed s x) r work work₂ terms terms₂ store store₂ st st₂
    literal_writes r work₂ terms₂ store₂ st₂ (n, S) = (
      n,
      (λ rows. record {
        represents = λ old m R. (S rows).represents old (term (iri x) m).1 (literal s x) ((W.1 rows).represents old m R) (asked_after rows old m R);
        result = λ old m R. (S rows).result old (term (iri x) m).1 (literal s x) ((W.1 rows).represents old m R) (asked_after rows old m R);
        kept = kept_both (W.1 rows).kept (S rows).kept;
      }),
    )

-- ---- Blank nodes without a label

pub fresh_room : (terms st : List ℕ) (f : FreshReady terms st) → TermFits terms f.store (counts_of st) blank_sort [] []
unfolding Means
fresh_room terms st f =
    term_room f.ready.old f.ready.memory f.work f.rows terms f.store st blank_sort [] [] (blank f.node) f.ready.represents f.ready.fits (refl, (f.unlabelled.0, refl)) (omega arith)

counts_again : (st st' : List ℕ) (d : Counts) → CountsSet st st' d → CountsSet st st' (counts_of st')
counts_again st st' d S = record { counts = refl; before = S.before; behind = S.behind; words = S.words }

pub fresh_writes : (r : ℕ) (terms terms' st st' : List ℕ) (c d : Counts) → FreshReady terms st → c ≡ counts_of st → BlankAdded terms terms' c d → CountsSet st st' d → r ≡ c.terms + 1
    → FreshWrites r terms terms' st st'
fresh_writes r terms terms' st st' c d f ec A S er =
    let P = fresh_room terms st f in
    let B : BlankAdded terms terms' (counts_of st) (counts_of st') = subst (λ (k : Counts). BlankAdded terms terms' k (counts_of st')) ec (subst (λ (k : Counts). BlankAdded terms terms' c k) (sym S.counts) A) in
    let long : length terms' ≡ length terms = (added_lengths blank_sort [] [] terms terms' f.store f.store (counts_of st) (counts_of st') (B f.store (bytes_room f.ready.represents.terms_held.keeps))).0 in
    let en : r ≡ get_or st terms_word 0 + 1 = er ∙ ap (λ (k : Counts). k.terms + 1) ec in (
      (omega arith, omega (arith, en, P.small.terms)),
      (λ work rows store b U. record {
        represents = λ old m R.
            held_term old m work work rows terms terms' store store st st' blank_sort [] [] (blank b) R
            (record { words = P.words; bytes = omega (arith, bytes_room R.terms_held.keeps); small = P.small }) (B store (bytes_room R.terms_held.keeps))
            (holds_blank m.terms b terms terms' store (drop work_size work) (counts_of st) (counts_of st') R.terms_held B U.0 U.1) refl refl (counts_again st st' d S);
        result = λ old m R. omega (arith, en, R.terms_held.keeps.count);
        kept = record { front = refl; room = rw long; stays = λ k h. S.behind k (omega arith); words = S.words };
      }),
    )

-- ---- What the code of adding a term leaves

pub term_added : (sort : Sort) (x g : Text) (slot count : ℕ) (work work' : Text) (terms terms' : List ℕ) (store store' : Text) (st st' : List ℕ) (c d : Counts) → c ≡ counts_of st → count ≡ c.terms
    → Added terms terms' store store' c d sort x g → (take work_size work' ≡ take work_size work) × Links (drop work_size work) (drop work_size work') count slot → CountsSet st st' d
    → length work' ≡ length work → TermAdded sort x g slot work work' terms terms' store store' st st'
term_added sort x g slot count work work' terms terms' store store' st st' c d ec en A (front, L) S long = record {
  added = rw (← ec, S.counts) A;
  linked = rw (en, ec) at L;
  front = front;
  long = long;
  set = counts_again st st' d S;
}

set_three : (st : List ℕ) (a b c k : ℕ) → (k ≡ terms_word → ⊥) → (k ≡ used_word → ⊥) → (k ≡ blanks_word → ⊥) → get_or (set (set (set st terms_word a) used_word b) blanks_word c) k 0 ≡ get_or st k 0
set_three st a b c k x y z = get_or-set_other (set (set st terms_word a) used_word b) blanks_word k c 0 z ∙ (get_or-set_other (set st terms_word a) used_word k b 0 y ∙ get_or-set_other st terms_word k a 0 x)

pub counts_set : (st : List ℕ) (c : Counts) → length st ≡ words_size → CountsSet st (set (set (set st terms_word c.terms) used_word c.used) blanks_word c.blanks) c
counts_set st c e =
    let one = set st terms_word c.terms in
    let two = set one used_word c.used in
    let long_one : length one ≡ length st = length-set st terms_word c.terms in
    let long_two : length two ≡ length one = length-set one used_word c.used in
    let a : get_or (set two blanks_word c.blanks) terms_word 0 ≡ c.terms =
    get_or-set_other two blanks_word terms_word c.blanks 0 (λ q. omega arith) ∙ (get_or-set_other one used_word terms_word c.used 0 (λ q. omega arith) ∙ get_or-set_same st terms_word c.terms 0 (omega arith)) in
    let b : get_or (set two blanks_word c.blanks) used_word 0 ≡ c.used = get_or-set_other two blanks_word used_word c.blanks 0 (λ q. omega arith) ∙ get_or-set_same one used_word c.used 0 (omega arith) in
    let d : get_or (set two blanks_word c.blanks) blanks_word 0 ≡ c.blanks = get_or-set_same two blanks_word c.blanks 0 (omega arith) in
    record {
      counts = rw (a, b, d);
      before = λ k h. set_three st c.terms c.used c.blanks k (λ q. omega arith) (λ q. omega arith) (λ q. omega arith);
      behind = λ k h. set_three st c.terms c.used c.blanks k (λ q. omega arith) (λ q. omega arith) (λ q. omega arith);
      words = length-set two blanks_word c.blanks ∙ (long_two ∙ long_one);
    }

-- ---- Kept numbers

-- A kept number that was compared, and is believed.
pub shares_kept : (x : Text) (n : ℕ) (work : Text) (terms : List ℕ) (store : Text) (st : List ℕ) → Numbers terms store (get_or st terms_word 0) x n → ShareReady iri_sort x [] work terms store st
    → Number n × ((rows : List ℕ) → Shares iri_sort x [] n work work (lent_tables rows terms store) (lent_tables rows terms store) st st)
shares_kept x n work terms store st N S =
    let F = N.1 (drop work_size work) (counts_of st) refl in
    (number_found iri_sort x [] n work terms store st F S N.0, λ rows. shares_found iri_sort x [] n work rows terms store st F N.0)

-- A number is kept: no word that says anything has changed.
pub writes_kept : {w : Write ℕ} {r : ℕ} {work work' : Text} {terms terms' : List ℕ} {store store' : Text} {st st' : List ℕ} (i n : ℕ) → blanks_word < i → i < node_word
    → TermWrites w r work work' terms terms' store store' st st' → (st'' : List ℕ) → st'' ≡ set st' i n → TermWrites w r work work' terms terms' store store' st st''
writes_kept {w} {r} {work} {work'} {terms} {terms'} {store} {store'} {st} {st'} i n low high (small, W) st'' e = (
  small,
  (λ rows. record {
    represents = λ old m R. rw e (held_word old (w m).1 work' (lent_tables rows terms' store') st' i n low (omega arith) ((W rows).represents old m R));
    result = (W rows).result;
    kept = record {
      front = (W rows).kept.front;
      room = (W rows).kept.room;
      stays = λ k h. rw e (get_or-set_other st' i k n 0 (λ q. omega arith) ∙ (W rows).kept.stays k h);
      words = rw e (length-set st' i n ∙ (W rows).kept.words);
    };
  }),
)
