-- What slices that hold terms say of each of them.
use mathlib.Core.Path.{◌≡◌, refl, sym, ap, ◌∙◌}
use mathlib.Core.List.{List, [], ◌∷◌}
use mathlib.Core.Bool.{Bool, true, false, ◌&&◌}
use mathlib.Core.Option.{some}
use Prim.Native.Nat.{ℕ, zero, suc, ◌+◌, ◌*◌, ◌<◌, ◌≤◌}
use native.Mathlib.Nat.{add-zero}
use native.Mathlib.Omega.{arith}
use lib.Dec.{eqb}
use borrow.Author.Tests.{eq-eqb, ne_eqb}
use lib.ListN.{length, get_or, take, drop, length-append}
use lib.Seq.{get_or-take}
use Rattle.text.specs.Text.{Text, same_text}
use Rattle.text.proofs.Compare.{by, contrary, same_eq, same_refl}
use Rattle.dataset.specs.Terms.{Blank, label, bracket, cell, numbered, Term, iri, blank, literal, tagged}
use Rattle.table.specs.Layout.{Entry, term_size, entry_words, entry_at, tagged_kind, span}
use Rattle.table.specs.Tables.{same_blank, same_term, number_from, number, or_zero, label_of, text_of, tag_of, term_bytes, entry_of, terms_words, store_size}
use Rattle.table.proofs.Finding.{number_step, number_end, number_positive, positive_some, number_same}
use Rattle.table.proofs.Store.{text_span, tag_span, inside, bytes_length}
use Rattle.terms.specs.declared.Counts.{Counts}
use Rattle.terms.specs.declared.Sort.{Sort}
use Rattle.terms.specs.Sorts.{type_of}
use Rattle.terms.specs.Keeps.{blank_count, findable, Typed, Keeps, Means}
use Rattle.terms.specs.Code.{same_rest, matches, first, Inside, Readable}
use Rattle.terms.proofs.Words.{words_length, word_at}

-- A part as long as was asked for lies within.
pub take_fits : {A : Type 0} (n : ℕ) (l : List A) → length (take n l) ≡ n → n ≤ length l
take_fits zero l e = omega arith
take_fits (suc n) [] e = absurd (omega arith)
take_fits (suc n) (a ∷ l) e = omega (arith, take_fits n l (omega arith))

entry_start : (all : List Term) (u b : ℕ) (t : Term) → (entry_of all u b t).start ≡ u
entry_start all u b (iri s) = refl
entry_start all u b (blank c) = refl
entry_start all u b (literal s d) = refl
entry_start all u b (tagged s g) = refl

entry_size : (all : List Term) (u b : ℕ) (t : Term) → (entry_of all u b t).size ≡ length (text_of t)
entry_size all u b (iri s) = refl
entry_size all u b (blank c) = refl
entry_size all u b (literal s d) = refl
entry_size all u b (tagged s g) = refl

entry_tag : (all : List Term) (u b : ℕ) (t : Term) → (entry_of all u b t).kind ≡ tagged_kind
    → (entry_of all u b t).fourth + (entry_of all u b t).fifth ≡ u + length (term_bytes t)
entry_tag all u b (iri s) e = absurd (omega arith)
entry_tag all u b (blank c) e = absurd (omega arith)
entry_tag all u b (literal s d) e = absurd (omega arith)
entry_tag all u b (tagged s g) e = omega (arith, length-append s g)

module _ {ts : List Term} {terms : List ℕ} {store : Text} {c : Counts} (K : Keeps ts terms store c) where
  pub words_room : term_size * c.terms ≤ length terms
  unfolding terms_words
  words_room = take_fits (term_size * c.terms) terms (ap length K.words ∙ (words_length ts 0 0 ts ∙ ap (λ (n : ℕ). term_size * n) (sym K.count)))

  pub bytes_room : c.used ≤ length store
  bytes_room = take_fits c.used store (ap length K.bytes ∙ (bytes_length ts ∙ sym K.used))

  module _ (i : ℕ) (h : i < c.terms) where
    abbrev u : Term
    u = get_or ts i (iri [])

    abbrev the : Entry
    the = entry_of ts (store_size (take i ts)) (blank_count (take i ts)) u

    in_list : i < length ts
    in_list = omega (arith, K.count)

    word : (j : ℕ) → j < term_size → get_or terms (term_size * i + j) 0 ≡ get_or (entry_words the) j 0
    word j l =
        sym (get_or-take (term_size * c.terms) terms (term_size * i + j) 0 (omega arith))
        ∙ (ap (λ (l : List ℕ). get_or l (term_size * i + j) 0) K.words ∙ word_at ts i in_list j l)

    word_0 : get_or terms (term_size * i) 0 ≡ the.kind
    unfolding entry_words
    word_0 = ap (λ (n : ℕ). get_or terms n 0) (sym (add-zero (term_size * i))) ∙ word 0 (omega arith)

    pub entry_held : entry_at terms (suc i) ≡ the
    unfolding entry_at entry_words
    entry_held j = record { kind = word_0 j; start = word 1 (omega arith) j; size = word 2 (omega arith) j; fourth = word 3 (omega arith) j; fifth = word 4 (omega arith) j }

    pub term_inside : Inside terms store i
    term_inside =
        let within : store_size (take i ts) + length (term_bytes u) ≤ length store = omega (arith, inside ts store c.used K.bytes i in_list, K.used, bytes_room) in
        record {
          words = omega (arith, words_room);
          text = rw entry_held (omega (arith, within, entry_start ts (store_size (take i ts)) (blank_count (take i ts)) u, entry_size ts (store_size (take i ts)) (blank_count (take i ts)) u, length-append (text_of u) (tag_of u)));
          tag = rw entry_held (λ e. omega (arith, within, entry_tag ts (store_size (take i ts)) (blank_count (take i ts)) u e));
        }

  pub readable : Readable terms store c.terms
  readable i h = term_inside i h

-- ---- What the test of an entry says

and_true : (b : Bool) → (b && true) ≡ b
and_true true = refl
and_true false = refl

same_label : (b c : Blank) → findable (blank b) ≡ true → same_text (label_of b) (label_of c) ≡ same_blank b c
unfolding same_blank same_text
same_label (label []) c f = contrary (sym f)
same_label (bracket p) c f = contrary (sym f)
same_label (cell p) c f = contrary (sym f)
same_label (numbered p) c f = contrary (sym f)
same_label (label (a ∷ s)) (label t) f = refl
same_label (label (a ∷ s)) (bracket q) f = refl
same_label (label (a ∷ s)) (cell q) f = refl
same_label (label (a ∷ s)) (numbered q) f = refl

-- Datatypes are the same if their numbers are.
same_type : (ts : List Term) (d e : Text) (m n : ℕ) → number (iri e) ts ≡ some m → or_zero (number (iri d) ts) ≡ n → eqb (or_zero (number (iri e) ts)) n ≡ same_text d e
same_type ts d e m n p q =
    by (same_text d e)
    (λ s. let same : d ≡ e = same_eq d e s in eq-eqb (or_zero (number (iri e) ts)) n (ap (λ (x : Text). or_zero (number (iri x) ts)) (sym same) ∙ q) ∙ sym s)
    (λ s. ne_eqb (or_zero (number (iri e) ts)) n (λ k. differ s (sym (ap or_zero p) ∙ k)) ∙ sym s)
  where
    differ : same_text d e ≡ false → m ≡ n → ⊥
    differ s k =
        let known : number (iri d) ts ≡ some n = positive_some (iri d) ts n q (omega (arith, number_positive (iri e) ts m p)) in
        let same : d ≡ e = number_same d e ts n known (p ∙ ap some k) in
        contrary (sym (same_refl d) ∙ (ap (same_text d) same ∙ s))

-- The entry of u, whose bytes lie where it says, passes the test for t just if they are the same.
module _ (ts : List Term) (store : Text) (at b : ℕ) (sort : Sort) (x g : Text) where
  pub matches_same : (t u : Term) → Means ts sort x g t → findable t ≡ true → Typed ts u → span store at (length (text_of u)) ≡ text_of u
      → span store (at + length (text_of u)) (length (tag_of u)) ≡ tag_of u → matches store (entry_of ts at b u) sort x g ≡ same_term t u
  unfolding Means Typed matches same_rest same_term
  matches_same (iri s) (iri v) (k, (e, h)) f y p q = rw (k, p, ← e) (and_true (same_text s v))
  matches_same (iri s) (blank c) (k, (e, h)) f y p q = rw k
  matches_same (iri s) (literal v d) (k, (e, h)) f y p q = rw k
  matches_same (iri s) (tagged v d) (k, (e, h)) f y p q = rw k
  matches_same (blank a) (iri v) (k, (e, h)) f y p q = rw k
  matches_same (blank a) (blank c) (k, (e, h)) f y p q = rw (k, p, ← e) (and_true (same_text (label_of a) (label_of c)) ∙ same_label a c f)
  matches_same (blank a) (literal v d) (k, (e, h)) f y p q = rw k
  matches_same (blank a) (tagged v d) (k, (e, h)) f y p q = rw k
  matches_same (literal s d) (iri v) (k, (e, (h, n))) f y p q = rw k
  matches_same (literal s d) (blank c) (k, (e, (h, n))) f y p q = rw k
  matches_same (literal s d) (literal v w) (k, (e, (h, n))) f (m, y) p q = rw (k, p, ← e, same_type ts d w m (type_of sort) y n)
  matches_same (literal s d) (tagged v w) (k, (e, (h, n))) f y p q = rw k
  matches_same (tagged s d) (iri v) (k, (e, h)) f y p q = rw k
  matches_same (tagged s d) (blank c) (k, (e, h)) f y p q = rw k
  matches_same (tagged s d) (literal v w) (k, (e, h)) f y p q = rw k
  matches_same (tagged s d) (tagged v w) (k, (e, h)) f y p q = rw (k, p, q, ← e, ← h)

-- The first that passes the test has the number that is asked for.
pub first_number : (p : ℕ → Bool) (t : Term) (ts : List Term) → ((i : ℕ) → i < length ts → p i ≡ same_term t (get_or ts i (iri []))) → (from n : ℕ) → from + n ≡ length ts
    → first p from n ≡ or_zero (number_from (suc from) t (drop from ts))
unfolding first
first_number p t ts h from zero e = sym (ap or_zero (number_end t ts from (omega arith)))
first_number p t ts h from (suc n) e =
    let l : from < length ts = omega arith in
    rw (number_step t ts from l, h from l)
    (by (same_term t (get_or ts from (iri []))) (λ s. rw s) (λ s. rw s (first_number p t ts h (suc from) n (omega arith))))

module _ {ts : List Term} {terms : List ℕ} {store : Text} {c : Counts} (K : Keeps ts terms store c) (sort : Sort) (x g : Text) (t : Term) (M : Means ts sort x g t) (f : findable t ≡ true) where
  pub test_same : (i : ℕ) → i < c.terms → matches store (entry_at terms (suc i)) sort x g ≡ same_term t (get_or ts i (iri []))
  test_same i h =
      let l : i < length ts = omega (arith, K.count) in
      rw (entry_held K i h)
      (matches_same ts store (store_size (take i ts)) (blank_count (take i ts)) sort x g t (get_or ts i (iri [])) M f (K.typed i l) (text_span ts store c.used K.bytes i l) (tag_span ts store c.used K.bytes i l))

  pub found_first : (from n : ℕ) → from + n ≡ c.terms → first (λ i. matches store (entry_at terms (suc i)) sort x g) from n ≡ or_zero (number_from (suc from) t (drop from ts))
  found_first from n e = first_number (λ i. matches store (entry_at terms (suc i)) sort x g) t ts (λ i l. test_same i (omega (arith, K.count))) from n (omega (arith, K.count))
