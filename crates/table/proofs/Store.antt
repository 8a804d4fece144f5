-- The words of rows, and where the bytes of a term lie in the store.
use mathlib.Core.Path.{◌≡◌, refl, sym, ap, ◌∙◌}
use mathlib.Core.List.{List, [], ◌∷◌, ◌++◌, append_assoc, append-nil}
use Prim.Native.Nat.{ℕ, suc, ◌+◌, ◌*◌, ◌<◌, ◌≤◌}
use native.Mathlib.Omega.{arith}
use lib.ListN.{length, get_or, take, drop, length-append, take-append-drop}
use lib.Seq.{split_at, take-append_seam, drop-append_seam}
use Rattle.text.specs.Text.{Text}
use Rattle.dataset.specs.Terms.{Term, iri}
use Rattle.table.specs.Layout.{Row, row_size, row_words, span}
use Rattle.table.specs.Tables.{text_of, tag_of, term_bytes, store_bytes, store_size, rows_words}

pub rows_append : (rs us : List Row) → rows_words (rs ++ us) ≡ rows_words rs ++ rows_words us
unfolding rows_words
rows_append [] us = refl
rows_append (r ∷ rs) us = ap (λ (l : List ℕ). row_words r ++ l) (rows_append rs us) ∙ sym (append_assoc (row_words r) (rows_words rs) (rows_words us))

pub rows_length : (rs : List Row) → length (rows_words rs) ≡ row_size * length rs
unfolding rows_words row_words
rows_length [] = refl
rows_length (r ∷ rs) = omega (arith, length-append (row_words r) (rows_words rs), rows_length rs)

pub bytes_append : (ts us : List Term) → store_bytes (ts ++ us) ≡ store_bytes ts ++ store_bytes us
unfolding store_bytes
bytes_append [] us = refl
bytes_append (t ∷ ts) us = ap (λ (s : Text). term_bytes t ++ s) (bytes_append ts us) ∙ sym (append_assoc (term_bytes t) (store_bytes ts) (store_bytes us))

pub bytes_length : (ts : List Term) → length (store_bytes ts) ≡ store_size ts
unfolding store_bytes store_size
bytes_length [] = refl
bytes_length (t ∷ ts) = length-append (term_bytes t) (store_bytes ts) ∙ ap (λ (n : ℕ). length (term_bytes t) + n) (bytes_length ts)

pub size_append : (ts us : List Term) → store_size (ts ++ us) ≡ store_size ts + store_size us
size_append ts us = sym (bytes_length (ts ++ us)) ∙ (ap length (bytes_append ts us) ∙ (length-append (store_bytes ts) (store_bytes us) ∙ omega (arith, bytes_length ts, bytes_length us)))

pub last_bytes : (ts : List Term) (t : Term) → store_bytes (ts ++ t ∷ []) ≡ store_bytes ts ++ term_bytes t
unfolding store_bytes
last_bytes ts t = bytes_append ts (t ∷ []) ∙ simp append-nil

pub last_size : (ts : List Term) (t : Term) → store_size (ts ++ t ∷ []) ≡ store_size ts + length (term_bytes t)
unfolding store_size
last_size ts t = size_append ts (t ∷ []) ∙ omega arith

-- A text in a store, between what stands before and behind it.
pub span_between : (p q r s : Text) → s ≡ p ++ (q ++ r) → span s (length p) (length q) ≡ q
span_between p q r s e = rw (e, drop-append_seam, take-append_seam)

-- The term at i of a store that holds ts.
module _ (ts : List Term) (store : Text) (used : ℕ) (held : take used store ≡ store_bytes ts) (i : ℕ) (h : i < length ts) where
  abbrev u : Term
  u = get_or ts i (iri [])

  abbrev start : ℕ
  start = store_size (take i ts)

  abbrev behind : Text
  behind = store_bytes (drop (suc i) ts) ++ drop used store

  parted : store_bytes ts ≡ store_bytes (take i ts) ++ (term_bytes u ++ store_bytes (drop (suc i) ts))
  unfolding store_bytes
  parted = ap store_bytes (split_at ts i (iri []) h) ∙ bytes_append (take i ts) (u ∷ drop (suc i) ts)

  whole : store ≡ store_bytes (take i ts) ++ (term_bytes u ++ behind)
  whole = sym (take-append-drop used store) ∙ (ap (λ (s : Text). s ++ drop used store) (held ∙ parted) ∙ simp append_assoc)

  pub text_span : span store start (length (text_of u)) ≡ text_of u
  text_span = rw (← bytes_length (take i ts)) (span_between (store_bytes (take i ts)) (text_of u) (tag_of u ++ behind) store (whole ∙ simp append_assoc))

  pub tag_span : span store (start + length (text_of u)) (length (tag_of u)) ≡ tag_of u
  tag_span =
      rw (← bytes_length (take i ts), ← length-append (store_bytes (take i ts)) (text_of u))
      (span_between (store_bytes (take i ts) ++ text_of u) (tag_of u) behind store (whole ∙ simp append_assoc))

  pub inside : start + length (term_bytes u) ≤ store_size ts
  inside = omega (arith, ap length parted, bytes_length ts, bytes_length (take i ts), length-append (store_bytes (take i ts)) (term_bytes u ++ store_bytes (drop (suc i) ts)), length-append (term_bytes u) (store_bytes (drop (suc i) ts)))
