-- What a reader of the request expects of the definitions.
use mathlib.Core.Path.{◌≡◌, refl, sym, ap, ◌∙◌}
use mathlib.Core.List.{List, [], ◌∷◌}
use mathlib.Core.Bool.{Bool, true, false, ◌||◌}
use mathlib.Core.Option.{Option, none, some}
use Prim.Native.Nat.{ℕ, zero, suc, ◌≤◌, ◌<◌}
use native.Mathlib.Nat.{min-le_left}
use native.Mathlib.Omega.{arith}
use borrow.Author.Tests.{leb-true, eqb-true, eqb-false, ltb-true, ltb-false}
use lib.Dec.{eqb, leb, ltb}
use lib.ListN.{length, take, drop, length-take}
use Rattle.std.specs.Prelude.{Result, Ok, Err}
use Rattle.limits.specs.declared.Refusal.{Refusal}
use Rattle.text.specs.Text.{Text, cond, same_text}
use Rattle.text.specs.Order.{smaller}
use Rattle.text.proofs.Compare.{by, contrary, and_right, same_eq, same_refl}
use Rattle.limits.specs.Limits.{iri_limit}
use Rattle.iri.specs.Iri.{has_scheme}
use Rattle.table.specs.Layout.{Slices, row_at, iri_kind}
use Rattle.table.specs.Usable.{for_long_form, the, text, has_kind, good_iri, good_datatype, good_tag, usable}
use Rattle.table.proofs.Written.{zero_whole}
use Rattle.usable.proofs.Facts.{usable_row}
use Rattle.usable.proofs.Standing.{first, kind_good, subject_in}
use Rattle.look_up.specs.declared.Rows.{Rows}
use Rattle.look_up.proofs.Records.{Holds}
use Rattle.subject_index.specs.Index.{insert, insert_any, is_subject, counted, sorted, walk, subject, index, write, check}
use Rattle.subject_index.proofs.Rising.{Rising, rising_sorted}
use Rattle.subject_index.proofs.Above.{some_eq, none_some}

-- ---- "in byte order of its text": the texts of the records, each once

abbrev pub Before : Text → List Text → Type 0
Before t [] = Unit {0}
Before t (u ∷ us) = smaller t u ≡ true

abbrev pub Ascends : List Text → Type 0
Ascends [] = Unit {0}
Ascends (t ∷ ts) = Before t ts × Ascends ts

rising_before : (t : Text) (ts : List Text) → Rising (some t) ts → Before t ts
rising_before t [] r = tt
rising_before t (u ∷ us) (k, r) = k

rising_ascends : (b : Option Text) (ts : List Text) → Rising b ts → Ascends ts
rising_ascends b [] r = tt
rising_ascends b (t ∷ ts) (k, r) = (rising_before t ts r, rising_ascends (some t) ts r)

pub ascending : (subject : ℕ → Option Text) (n : ℕ) → Ascends (sorted subject n)
ascending subject n = rising_ascends none (sorted subject n) (rising_sorted subject n)

-- ---- "one record for each IRI that is a subject": the texts are just those of subjects

-- Is the text among them?
unfoldable pub has : Text → List Text → Bool
has t [] = false
has t (u ∷ us) = same_text u t || has t us

or_swap : (a b c : Bool) → (a || (b || c)) ≡ (b || (a || c))
or_swap true true c = refl
or_swap true false c = refl
or_swap false true c = refl
or_swap false false c = refl

pub or_else : (a b : Bool) → (a ≡ false → b ≡ true) → (a || b) ≡ true
or_else true b f = refl
or_else false b f = f refl

or_same : (a b : Bool) → (a || b) ≡ (a || (a || b))
or_same true b = refl
or_same false b = refl

has_insert : (t u : Text) (us : List Text) → has t (insert u us) ≡ (same_text u t || has t us)
unfolding insert has
has_insert t u [] = refl
has_insert t u (v ∷ vs) =
    by (smaller u v) (λ e. rw e)
    (λ e. by (same_text u v) (λ f. rw (e, f, same_eq u v f) (or_same (same_text v t) (has t vs)))
    (λ f. rw (e, f, has_insert t u vs) (or_swap (same_text v t) (same_text u t) (has t vs))))

module _ (subject : ℕ → Option Text) (t : Text) where
  -- The row i has the subject t.
  abbrev pub Row : ℕ → Type 0
  Row i = subject i ≡ some t

  pub has_any : (o : Option Text) (us : List Text) → has t (insert_any o us) ≡ (is_subject t o || has t us)
  has_any none us = refl
  has_any (some u) us = has_insert t u us

  is_row : (o : Option Text) → is_subject t o ≡ true → o ≡ some t
  is_row none e = contrary (sym e)
  is_row (some u) e = ap some (same_eq u t e)

  row_is : (o : Option Text) → o ≡ some t → is_subject t o ≡ true
  row_is none e = none_some t e
  row_is (some u) e = ap (λ (x : Text). same_text x t) (some_eq u t e) ∙ same_refl t

  pub listed : (n i : ℕ) → i < n → Row i → has t (sorted subject n) ≡ true
  unfolding sorted
  listed zero i h e = absurd (omega arith)
  listed (suc n) i h e =
      has_any (subject n) (sorted subject n)
      ∙ or_else (is_subject t (subject n)) (has t (sorted subject n))
      (λ q. by (ltb i n) (λ l. listed n i (ltb-true i n l) e) (λ l. let k = ltb-false i n l in let z : n ≡ i = omega arith in contrary (sym (row_is (subject n) (ap subject z ∙ e)) ∙ q)))

  pub only_listed : (n : ℕ) → has t (sorted subject n) ≡ true → (i : ℕ) × ((i < n) × Row i)
  unfolding sorted has
  only_listed zero e = contrary (sym e)
  only_listed (suc n) e =
      by (is_subject t (subject n)) (λ q. (n, (omega arith, is_row (subject n) q)))
      (λ q. let f : has t (sorted subject n) ≡ true = rw q at (sym (has_any (subject n) (sorted subject n)) ∙ e) in
      let (i, (l, r)) = only_listed n f in
      (i, (omega arith, r)))

  -- ---- "the number of its rows", "the number of its first row (from 0)"

  -- Its rows among the first n, the last of them first.
  unfoldable pub its_rows : ℕ → List ℕ
  its_rows zero = []
  its_rows (suc n) = let r = its_rows n in cond (is_subject t (subject n)) (n ∷ r) r

  pub record Walked (n : ℕ) (r : Rows) : Type 0 where
    pub all : r.count ≡ length (its_rows n)
    pub few : r.count ≤ n
    pub first : 0 < r.count → (r.first < n) × Row r.first
    pub least : 0 < r.count → (i : ℕ) → i < r.first → Row i → ⊥
    pub none : r.count ≡ 0 → (i : ℕ) → i < n → Row i → ⊥

  one_more : (n : ℕ) (w : Rows) → Walked n w → (b : Bool) → is_subject t (subject n) ≡ b → Walked (suc n) (counted n b w)
  unfolding counted its_rows
  one_more n w W false q = record {
    all = rw q W.all;
    few = let k = W.few in omega arith;
    first = λ h. let (l, r) = W.first h in (omega arith, r);
    least = W.least;
    none = λ e i h r. by (ltb i n) (λ l. W.none e i (ltb-true i n l) r) (λ l. let k = ltb-false i n l in let z : n ≡ i = omega arith in contrary (sym (row_is (subject n) (ap subject z ∙ r)) ∙ q));
  }
  one_more n w W true q =
      by (eqb w.count 0)
      (λ z. let y = eqb-true w.count 0 z in
      rw z (record {
        all = rw q (let k = W.all in omega arith);
        few = let k = W.few in omega arith;
        first = λ h. (omega arith, is_row (subject n) q);
        least = λ h i l r. W.none y i l r;
        none = λ e. absurd (omega arith);
      }))
      (λ z. let y = eqb-false w.count 0 z in
      let some_row : 0 < w.count = by (eqb 0 w.count) (λ x. absurd (y (sym (eqb-true 0 w.count x)))) (λ x. omega (arith, eqb-false 0 w.count x)) in
      rw z (record {
        all = rw q (let k = W.all in omega arith);
        few = let k = W.few in omega arith;
        first = λ h. let (l, r) = W.first some_row in (omega arith, r);
        least = λ h. W.least some_row;
        none = λ e. absurd (omega arith);
      }))

  pub walked : (n : ℕ) → Walked n (walk subject t n)
  unfolding walk its_rows
  walked zero = record { all = refl; few = omega arith; first = λ h. absurd (omega arith); least = λ h. absurd (omega arith); none = λ e i h. absurd (omega arith) }
  walked (suc n) = one_more n (walk subject t n) (walked n) (is_subject t (subject n)) refl

-- ---- A record says its text and its numbers (`look_up: Records.read_again`), and none of them is cut

module _ (subject : ℕ → Option Text) (n : ℕ) (few : n < 4294967296) (limit : ℕ) (small : limit < 65536) (short : (i : ℕ) → i < n → (t : Text) → subject i ≡ some t → length t ≤ limit) where
  pub uncut_of : (t : Text) → has t (sorted subject n) ≡ true → Holds limit t (walk subject t n)
  uncut_of t h =
      let (i, (l, r)) = only_listed subject t n h in
      let W = walked subject t n in
      let size = short i l t r in
      let count = W.few in
      let some_row : 0 < (walk subject t n).count =
      by (eqb 0 (walk subject t n).count) (λ x. absurd (W.none (sym (eqb-true 0 (walk subject t n).count x)) i l r)) (λ x. omega (arith, eqb-false 0 (walk subject t n).count x)) in
      let least = (W.first some_row).0 in
      record { size = size; two = omega arith; count = omega arith; first = omega arith }

some_told : (b : Bool) (t u : Text) → cond b (some t) none ≡ some u → (b ≡ true) × (t ≡ u)
some_told true t u e = (refl, some_eq t u e)
some_told false t u e = none_some u e

-- A subject of usable tables has at most 1,024 bytes, and there are no more rows than 32 bits count.
module _ (s : Slices) (e : usable for_long_form s ≡ true) where
  pub subject_short : (i : ℕ) → i < s.row_count → (t : Text) → subject s i ≡ some t → length t ≤ iri_limit
  unfolding subject
  subject_short i h t q =
      let n = (row_at s.rows i).subject in
      let p = subject_in s (row_at s.rows i) (usable_row for_long_form s e i h) in
      let (k, z) = some_told (has_kind s iri_kind n) (text s n) t q in
      let g = first (the s n).kind (good_iri for_long_form s n) (good_datatype s n) (good_tag for_long_form s n) (kind_good for_long_form s e n p) (eqb-true (the s n).kind iri_kind k) in
      let l = leb-true (the s n).size iri_limit (and_right (has_scheme (text s n)) (leb (the s n).size iri_limit) g) in
      let m : length (text s n) ≤ (the s n).size = rw (length-take (the s n).size (drop (the s n).start s.store)) (min-le_left (the s n).size (length (drop (the s n).start s.store))) in
      rw (sym z) (omega arith)

  pub uncut : s.row_count < 4294967296 → (t : Text) → has t (sorted (subject s) s.row_count) ≡ true → Holds iri_limit t (walk (subject s) t s.row_count)
  uncut few = uncut_of (subject s) s.row_count few iri_limit (omega arith) subject_short

-- ---- "yes exactly when the bytes are the index of the given tables"

says_yes : Result Bool Refusal → Bool
says_yes (Ok b) = b
says_yes (Err r) = false

module _ (s : Slices) where
  pub yes_only : (bytes : Text) → check s bytes ≡ Ok true → (usable for_long_form s ≡ true) × (bytes ≡ index s)
  unfolding check says_yes
  yes_only bytes e =
      let yes : says_yes (check s bytes) ≡ true = ap says_yes e in
      by (usable for_long_form s) (λ u. (u, sym (same_eq (index s) bytes (rw u at yes)))) (λ u. contrary (sym (rw u at yes)))

  pub index_yes : usable for_long_form s ≡ true → check s (index s) ≡ Ok true
  unfolding check
  index_yes u = rw (u, same_refl (index s))

  -- What the builder wrote, the check accepts.
  pub written_yes : (out : Text) → (write s out).number ≡ 0 → check s (take (write s out).position (write s out).output) ≡ Ok true
  unfolding write
  written_yes out e = let w = zero_whole 22 (usable for_long_form s) (index s) out (λ z. omega arith) e in rw w.text (index_yes w.usable)
