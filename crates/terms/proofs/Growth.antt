-- One term more: the slices then hold it behind the others.
use mathlib.Core.Path.{◌≡◌, refl, sym, ap, ◌∙◌}
use mathlib.Core.List.{List, [], ◌∷◌, ◌++◌, append-nil}
use mathlib.Core.Bool.{true}
use mathlib.Core.Option.{none, some}
use Prim.Native.Nat.{ℕ, zero, suc, ◌+◌, ◌*◌, ◌<◌, ◌≤◌}
use native.Mathlib.Omega.{arith}
use lib.Dec.{eqb, ltb}
use borrow.Author.Tests.{ltb-true, ltb-false}
use lib.ListN.{length, get_or, take, length-append, get_or-append}
use lib.Seq.{get_or-append_seam}
use Rattle.text.specs.Text.{Text, cond}
use Rattle.text.specs.Slice.{over_at}
use Rattle.text.proofs.Compare.{by}
use Rattle.text.proofs.Over.{over_at_none}
use Rattle.terms.proofs.Slices.{take_over_at}
use Rattle.dataset.specs.Terms.{Term, iri, blank, literal, tagged}
use Rattle.table.specs.Layout.{Row, row_size, row_words, Entry, term_size, entry_words, blank_kind, literal_kind, tagged_kind, word_limit}
use Rattle.table.specs.Tables.{number, is_blank, term_bytes, entry_of, store_size, rows_words}
use Rattle.table.proofs.Finding.{number_more, number_last}
use Rattle.table.proofs.Store.{rows_append, last_bytes, last_size}
use Rattle.terms.specs.declared.Counts.{Counts}
use Rattle.terms.specs.declared.Sort.{Sort}
use Rattle.terms.specs.declared.Sort.TheVariants.{Iri, Blank, Literal, Tagged}
use Rattle.terms.specs.Sorts.{kind_of}
use Rattle.terms.specs.Keeps.{blank_count, findable, Typed, Keeps, Means, Small, TermFits, Added, blank_sort, BlankAdded, RowAdded}
use Rattle.terms.specs.Code.{fourth, next_entry, next_counts}
use Rattle.terms.proofs.Words.{words_last}

pub entry_size_is : (e : Entry) → length (entry_words e) ≡ term_size
unfolding entry_words
entry_size_is e = refl

-- A property of every term, and of one more.
each_last : (P : Term → ℕ → Type 0) (ts : List Term) (t : Term) → ((i : ℕ) → i < length ts → P (get_or ts i (iri [])) i) → P t (length ts)
    → (i : ℕ) → i < length (ts ++ t ∷ []) → P (get_or (ts ++ t ∷ []) i (iri [])) i
each_last P ts t h k i l =
    by (ltb i (length ts))
    (λ e. let m : i < length ts = ltb-true i (length ts) e in rw (get_or-append ts (t ∷ []) (iri []) i m) (h i m))
    (λ e. let m : i ≡ length ts = omega (arith, ltb-false i (length ts) e, length-append ts (t ∷ [])) in rw (m, get_or-append_seam ts t [] (iri [])) k)

typed_more : (ts us : List Term) (t : Term) → Typed ts t → Typed (ts ++ us) t
unfolding Typed
typed_more ts us (iri s) h = tt
typed_more ts us (blank b) h = tt
typed_more ts us (literal s d) (n, e) = (n, number_more (iri d) ts us n e)
typed_more ts us (tagged s g) h = tt

count_last : (ts : List Term) (t : Term) → blank_count (ts ++ t ∷ []) ≡ cond (is_blank t) (blank_count ts + 1) (blank_count ts)
unfolding blank_count
count_last [] t = refl
count_last (u ∷ ts) t = rw (count_last ts t) (by (is_blank u) (λ e. rw e (by (is_blank t) (λ f. rw f (omega arith)) (λ f. rw f))) (λ e. rw e))

module _ (ts : List Term) (c : Counts) (sort : Sort) (x g : Text) (used : c.used ≡ store_size ts) (blanks : c.blanks ≡ blank_count ts) where
  means_bytes : (t : Term) → Means ts sort x g t → term_bytes t ≡ x ++ g
  unfolding Means
  means_bytes (iri s) (k, (e, h)) = rw (e, h)
  means_bytes (blank b) (k, (e, h)) = rw (e, h)
  means_bytes (literal s d) (k, (e, (h, n))) = rw (e, h)
  means_bytes (tagged s d) (k, (e, h)) = rw (e, h)

  means_entry : (t : Term) → Means ts sort x g t → Typed ts t → entry_words (next_entry c sort (length x) (length g)) ≡ entry_words (entry_of (ts ++ t ∷ []) (store_size ts) (blank_count ts) t)
  unfolding Means Typed next_entry fourth
  means_entry (iri s) (k, (e, h)) y = rw (k, e, h, used)
  means_entry (blank b) (k, (e, h)) y = rw (k, e, h, used, blanks)
  means_entry (literal s d) (k, (e, (h, n))) (m, y) = rw (number_more (iri d) ts (literal s d ∷ []) m y, k, e, h, used, ← n, y)
  means_entry (tagged s d) (k, (e, h)) y = rw (k, e, h, used)

  means_blank : (t : Term) → Means ts sort x g t → cond (eqb (kind_of sort) blank_kind) (c.blanks + 1) c.blanks ≡ blank_count (ts ++ t ∷ [])
  unfolding Means
  means_blank (iri s) (k, r) = rw (k, count_last ts (iri s), blanks)
  means_blank (blank b) (k, r) = rw (k, count_last ts (blank b), blanks)
  means_blank (literal s d) (k, r) = rw (k, count_last ts (literal s d), blanks)
  means_blank (tagged s d) (k, r) = rw (k, count_last ts (tagged s d), blanks)

pub keeps_added : (ts : List Term) (terms : List ℕ) (store : Text) (c : Counts) (sort : Sort) (x g : Text) (t : Term)
    → Keeps ts terms store c → TermFits terms store c sort x g → Means ts sort x g t → Typed ts t → (findable t ≡ true → number t ts ≡ none)
    → Keeps (ts ++ t ∷ []) (over_at (term_size * c.terms) (entry_words (next_entry c sort (length x) (length g))) terms) (over_at c.used (x ++ g) store) (next_counts c sort (length x + length g))
unfolding next_counts
keeps_added ts terms store c sort x g t K R M y new =
    let e = entry_words (next_entry c sort (length x) (length g)) in
    let more : term_size * (c.terms + 1) ≡ term_size * c.terms + length e = omega (arith, entry_size_is (next_entry c sort (length x) (length g))) in
    let size : length (x ++ g) ≡ length x + length g = length-append x g in
    record {
      words =
          rw more
          (take_over_at (term_size * c.terms) e terms (omega (arith, R.words, entry_size_is (next_entry c sort (length x) (length g))))
          ∙ (rw (K.words, means_entry ts c sort x g K.used K.blanks t M y) (sym (words_last ts t K.typed))));
      bytes =
          ap (λ (n : ℕ). take (c.used + n) (over_at c.used (x ++ g) store)) (sym size)
          ∙ (take_over_at c.used (x ++ g) store (omega (arith, R.bytes, size))
          ∙ rw (K.bytes, ← means_bytes ts c sort x g K.used K.blanks t M) (sym (last_bytes ts t)));
      count = omega (arith, K.count, length-append ts (t ∷ []));
      used = omega (arith, K.used, last_size ts t, ap length (means_bytes ts c sort x g K.used K.blanks t M), size);
      blanks = means_blank ts c sort x g K.used K.blanks t M;
      typed = each_last (λ u i. Typed (ts ++ t ∷ []) u) ts t (λ i l. typed_more ts (t ∷ []) (get_or ts i (iri [])) (K.typed i l)) (typed_more ts (t ∷ []) t y);
      own =
          each_last (λ u i. findable u ≡ true → number u (ts ++ t ∷ []) ≡ some (suc i)) ts t
          (λ i l f. number_more (get_or ts i (iri [])) ts (t ∷ []) (suc i) (K.own i l f))
          (λ f. number_last t ts (new f));
    }

-- A term that is no blank node.
pub blanks_stay : (c : Counts) (sort : Sort) (bytes : ℕ) → (sort ≡ Blank → ⊥) → record { terms = c.terms + 1; used = c.used + bytes; blanks = c.blanks } ≡ next_counts c sort bytes
unfolding next_counts
blanks_stay c Iri bytes h = refl
blanks_stay c Blank bytes h = absurd (h refl)
blanks_stay c (Literal d) bytes h = refl
blanks_stay c Tagged bytes h = refl

-- ---- Rows

rows_last : (rs : List Row) (r : Row) → rows_words (rs ++ r ∷ []) ≡ rows_words rs ++ row_words r
unfolding rows_words
rows_last rs r = rows_append rs (r ∷ []) ∙ ap (λ (l : List ℕ). rows_words rs ++ l) (append-nil (row_words r))

row_size_is : (r : Row) → length (row_words r) ≡ row_size
unfolding row_words
row_size_is r = refl

pub row_added : (rows rows' : List ℕ) (count : ℕ) (row : List ℕ) → row_size * count + length row ≤ length rows → rows' ≡ over_at (row_size * count) row rows → RowAdded rows rows' count row
row_added rows rows' count row room e = record {
  words = e;
  keeps = λ rs r K h.
      let words : length row ≡ row_size = ap length h ∙ row_size_is r in
      let size : row_size * (count + 1) ≡ row_size * count + length row = omega (arith, words) in
      record {
        words = rw (size, e) (take_over_at (row_size * count) row rows room ∙ rw (K.words, h) (sym (rows_last rs r)));
        size = omega (arith, K.size, length-append rs (r ∷ []));
      };
}

-- ---- What the code of adding a term leaves

-- Five words fit 32 bits if each does.
pub five_small : (a b c d e : ℕ) → a < word_limit → b < word_limit → c < word_limit → d < word_limit → e < word_limit
    → (i : ℕ) → get_or (a ∷ b ∷ c ∷ d ∷ e ∷ []) i 0 < word_limit
five_small a b c d e p q r s t zero = p
five_small a b c d e p q r s t (suc zero) = q
five_small a b c d e p q r s t (suc (suc zero)) = r
five_small a b c d e p q r s t (suc (suc (suc zero))) = s
five_small a b c d e p q r s t (suc (suc (suc (suc zero)))) = t
five_small a b c d e p q r s t (suc (suc (suc (suc (suc i))))) = omega arith

pub fourth_small : (c : Counts) (sort : Sort) (size tag_size : ℕ) → Small c sort (size + tag_size) → fourth c sort size < word_limit
unfolding fourth
fourth_small c sort size tag_size S =
    by (eqb (kind_of sort) blank_kind) (λ e. rw e S.blanks)
    (λ e. by (eqb (kind_of sort) literal_kind) (λ f. rw (e, f) S.datatype) (λ f. by (eqb (kind_of sort) tagged_kind) (λ g. rw (e, f, g) (omega (arith, S.used))) (λ g. rw (e, f, g) (omega arith))))

pub added : (terms terms' : List ℕ) (store store' : Text) (c c' : Counts) (sort : Sort) (x g : Text) (n : ℕ) → TermFits terms store c sort x g → n ≡ length x
    → terms' ≡ over_at (term_size * c.terms) (entry_words (next_entry c sort n (length g))) terms → store' ≡ over_at c.used (x ++ g) store
    → c' ≡ next_counts c sort (n + length g) → Added terms terms' store store' c c' sort x g
added terms terms' store store' c c' sort x g n R h w b e =
    let w' : terms' ≡ over_at (term_size * c.terms) (entry_words (next_entry c sort (length x) (length g))) terms = w ∙ rw h in
    let e' : c' ≡ next_counts c sort (length x + length g) = e ∙ rw h in
    record { words = w'; bytes = b; counts = e'; keeps = λ ts t K M y new. rw (w', b, e') (keeps_added ts terms store c sort x g t K R M y new) }

pub blank_added : (terms terms' : List ℕ) (c c' : Counts) → term_size * c.terms + term_size ≤ length terms → Small c blank_sort 0
    → terms' ≡ over_at (term_size * c.terms) (entry_words (next_entry c blank_sort 0 0)) terms → c' ≡ next_counts c blank_sort 0 → BlankAdded terms terms' c c'
blank_added terms terms' c c' room small w e store u =
    added terms terms' store store c c' blank_sort [] [] 0 (record { words = room; bytes = omega arith; small = small }) refl w (sym (over_at_none c.used store)) e
