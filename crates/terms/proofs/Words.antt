-- The words of terms: where those of one term lie, and what adding a term changes.
use mathlib.Core.Path.{◌≡◌, refl, sym, ap, ◌∙◌}
use mathlib.Core.List.{List, [], ◌∷◌, ◌++◌, append_assoc, append-nil}
use Prim.Native.Nat.{ℕ, suc, ◌+◌, ◌*◌, ◌<◌}
use native.Mathlib.Nat.{zero-add, add-zero}
use native.Mathlib.Omega.{arith}
use lib.ListN.{length, get_or, take, drop, get_or-append}
use lib.Seq.{split_at, get_or-append-add, length-take-le}
use Rattle.text.specs.Text.{cond}
use Rattle.text.proofs.Compare.{by}
use Rattle.dataset.specs.Terms.{Term, iri, blank, literal, tagged}
use Rattle.table.specs.Layout.{Entry, term_size, entry_words}
use Rattle.table.specs.Tables.{is_blank, term_bytes, entry_of, words_from, terms_words, store_size}
use Rattle.table.proofs.Finding.{number_more}
use Rattle.terms.specs.Keeps.{blank_count, Typed}

-- The blank nodes before t, and with it.
after : ℕ → Term → ℕ
after b t = cond (is_blank t) (suc b) b

after_count : (b n : ℕ) (t : Term) → after b t + n ≡ b + after n t
unfolding after
after_count b n t = by (is_blank t) (λ e. rw e (omega arith)) (λ e. rw e)

pub words_append : (all : List Term) (u b : ℕ) (xs ys : List Term)
    → words_from all u b (xs ++ ys) ≡ words_from all u b xs ++ words_from all (u + store_size xs) (b + blank_count xs) ys
unfolding words_from store_size blank_count after
words_append all u b [] ys = rw (add-zero u, add-zero b)
words_append all u b (t ∷ xs) ys =
    let size : u + length (term_bytes t) + store_size xs ≡ u + (length (term_bytes t) + store_size xs) = omega arith in
    let rest = words_append all (u + length (term_bytes t)) (after b t) xs ys in
    ap (λ (l : List ℕ). entry_words (entry_of all u b t) ++ l) (rest ∙ rw (size, after_count b (blank_count xs) t))
    ∙ sym (append_assoc (entry_words (entry_of all u b t)) (words_from all (u + length (term_bytes t)) (after b t) xs) (words_from all (u + (length (term_bytes t) + store_size xs)) (b + after (blank_count xs) t) ys))

pub words_length : (all : List Term) (u b : ℕ) (xs : List Term) → length (words_from all u b xs) ≡ term_size * length xs
unfolding words_from entry_words
words_length all u b [] = refl
words_length all u b (t ∷ xs) = omega (arith, words_length all (u + length (term_bytes t)) (cond (is_blank t) (suc b) b) xs)

-- A term whose datatype is known has the same words when terms are added.
entry_more : (all us : List Term) (u b : ℕ) (t : Term) → Typed all t → entry_of (all ++ us) u b t ≡ entry_of all u b t
unfolding Typed
entry_more all us u b (iri s) h = refl
entry_more all us u b (blank c) h = refl
entry_more all us u b (literal s d) (n, e) = rw (e, number_more (iri d) all us n e)
entry_more all us u b (tagged s g) h = refl

pub words_more : (all us : List Term) (u b : ℕ) (xs : List Term) → ((i : ℕ) → i < length xs → Typed all (get_or xs i (iri [])))
    → words_from (all ++ us) u b xs ≡ words_from all u b xs
unfolding words_from
words_more all us u b [] h = refl
words_more all us u b (t ∷ xs) h =
    rw (entry_more all us u b t (h 0 (omega arith)), words_more all us (u + length (term_bytes t)) (cond (is_blank t) (suc b) b) xs (λ i l. h (suc i) (omega arith)))

-- The words of a list with one term more.
pub words_last : (ts : List Term) (t : Term) → ((i : ℕ) → i < length ts → Typed ts (get_or ts i (iri [])))
    → terms_words (ts ++ t ∷ []) ≡ terms_words ts ++ entry_words (entry_of (ts ++ t ∷ []) (store_size ts) (blank_count ts) t)
unfolding terms_words words_from
words_last ts t h =
    words_append (ts ++ t ∷ []) 0 0 ts (t ∷ [])
    ∙ rw (words_more ts (t ∷ []) 0 0 ts h, zero-add (store_size ts), zero-add (blank_count ts), append-nil)

-- The entry of the term at i.
module _ (ts : List Term) (i : ℕ) (h : i < length ts) where
  abbrev u : Term
  u = get_or ts i (iri [])

  abbrev the : Entry
  the = entry_of ts (store_size (take i ts)) (blank_count (take i ts)) u

  abbrev rest : List ℕ
  rest = words_from ts (store_size (take i ts) + length (term_bytes u)) (after (blank_count (take i ts)) u) (drop (suc i) ts)

  parted : terms_words ts ≡ words_from ts 0 0 (take i ts) ++ (entry_words the ++ rest)
  unfolding terms_words words_from after
  parted =
      ap (words_from ts 0 0) (split_at ts i (iri []) h)
      ∙ (words_append ts 0 0 (take i ts) (u ∷ drop (suc i) ts) ∙ rw (zero-add (store_size (take i ts)), zero-add (blank_count (take i ts))))

  pub word_at : (j : ℕ) → j < term_size → get_or (terms_words ts) (term_size * i + j) 0 ≡ get_or (entry_words the) j 0
  unfolding entry_words
  word_at j l =
      let n : term_size * i ≡ length (words_from ts 0 0 (take i ts)) = sym (words_length ts 0 0 (take i ts) ∙ ap (λ (k : ℕ). term_size * k) (length-take-le i ts (omega arith))) in
      rw (parted, n) (get_or-append-add (words_from ts 0 0 (take i ts)) (entry_words the ++ rest) j 0 ∙ get_or-append (entry_words the) rest 0 j (omega arith))
