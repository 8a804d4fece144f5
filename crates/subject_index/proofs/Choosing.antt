-- The subject of a row by its number, and the best of the subjects above one.
use mathlib.Core.Path.{◌≡◌, refl, sym, ap, ◌∙◌, subst}
use Rattle.std.specs.Prelude as code
use Rattle.std.specs.Prelude.{Some, None}
use mathlib.Core.Bool.{Bool, true, false, ◌&&◌}
use mathlib.Core.Option.{Option, none, some}
use Prim.Native.Nat.{ℕ, zero, suc, ◌+◌, ◌≤◌, ◌<◌}
use native.Mathlib.Numerals.{add-one}
use native.Mathlib.Omega.{arith}
use borrow.Author.Tests.{ne_eqb}
use lib.Dec.{eqb}
use Rattle.text.specs.Text.{Text, same_text}
use Rattle.text.specs.Order.{smaller}
use Rattle.text.proofs.Compare.{by, contrary, and_left, and_right, same_eq, same_refl}
use Rattle.text.proofs.Order.{smaller_trans, smaller_differs}
use Rattle.table.specs.Layout.{Slices, row_at, entry_at, iri_kind}
use Rattle.table.specs.Usable.{text}
use Rattle.look_up.specs.declared.Rows.{Rows}
use Rattle.look_up.specs.Record.{rows}
use Rattle.look_up.specs.Look.{rises}
use Rattle.subject_index.specs.declared.Chosen.{Chosen}
use Rattle.subject_index.specs.Index.{is_subject, counted, walk, subject}
use Rattle.subject_index.specs.Code.{named, number, subject_number, Readable, SubjectIn, below, nearer, next, Chooses}
use Rattle.subject_index.proofs.Above.{some_eq, none_some}

number_or : ℕ → code.Option ℕ → ℕ
number_or d None = d
number_or d (Some n) = n

one_or_zero : code.Option ℕ → ℕ
one_or_zero None = 0
one_or_zero (Some n) = 1

some_is_none : (n : ℕ) → Some n ≡ None → ⊥
unfolding one_or_zero
some_is_none n e = let z : ◌≡◌ {A = ℕ} 1 0 = ap one_or_zero e in absurd (omega arith)

-- ---- The subject of a row

module _ (s : Slices) (i : ℕ) (S : SubjectIn s i) where
  pub subject_none : subject_number s i ≡ None → subject s i ≡ none
  unfolding subject subject_number
  subject_none e =
      by (eqb (entry_at s.terms (row_at s.rows i).subject).kind iri_kind)
      (λ q. absurd (some_is_none (row_at s.rows i).subject (sym (rw q) ∙ e)))
      (λ q. rw q)

  module _ (n : ℕ) (e : subject_number s i ≡ Some n) where
    is_subject_of : (row_at s.rows i).subject ≡ n
    unfolding subject_number number_or
    is_subject_of =
        by (eqb (entry_at s.terms (row_at s.rows i).subject).kind iri_kind)
        (λ q. let f : Some (row_at s.rows i).subject ≡ Some n = sym (rw q) ∙ e in ap (number_or 0) f)
        (λ q. absurd (some_is_none n (sym e ∙ rw q)))

    pub subject_some : subject s i ≡ some (text s n)
    unfolding subject subject_number
    subject_some =
        by (eqb (entry_at s.terms (row_at s.rows i).subject).kind iri_kind)
        (λ q. rw (q, is_subject_of))
        (λ q. absurd (some_is_none n (sym e ∙ rw q)))

    pub number_known : Readable s n
    number_known = subst (λ (m : ℕ). Readable s m) is_subject_of S.subject

-- ---- The least text above one: it rises, and what is between has no rows

below_trans : (t u : Text) (o : Option Text) → smaller t u ≡ true → below u o ≡ true → below t o ≡ true
below_trans t u none l b = refl
below_trans t u (some v) l b = smaller_trans t u v l b

module _ (subject : ℕ → Option Text) (p : Option Text) where
  next_rises : (n : ℕ) (t : Text) → next subject p n ≡ some t → rises p t ≡ true
  unfolding next nearer
  next_rises zero t e = none_some t e
  next_rises (suc n) t e = go (subject n) e (next_rises n t)
    where
      go : (o : Option Text) → nearer p o (next subject p n) ≡ some t → (next subject p n ≡ some t → rises p t ≡ true) → rises p t ≡ true
      go none e f = f e
      go (some u) e f =
          by (rises p u && below u (next subject p n))
          (λ q. let z = some_eq u t (sym (rw q) ∙ e) in ap (rises p) (sym z) ∙ and_left (rises p u) (below u (next subject p n)) q)
          (λ q. f (sym (rw q) ∙ e))

  walk_between : (t : Text) → rises p t ≡ true → (n : ℕ) → below t (next subject p n) ≡ true → walk subject t n ≡ rows 0 0
  unfolding next nearer walk counted
  walk_between t h zero b = refl
  walk_between t h (suc n) b = go (subject n) b (walk_between t h n)
    where
      go : (o : Option Text) → below t (nearer p o (next subject p n)) ≡ true → (below t (next subject p n) ≡ true → walk subject t n ≡ rows 0 0) → counted n (is_subject t o) (walk subject t n) ≡ rows 0 0
      go none b f = f b
      go (some u) b f =
          by (rises p u && below u (next subject p n))
          (λ q. let l : smaller t u ≡ true = rw q at b in
          rw (smaller_differs t u l) (f (below_trans t u (next subject p n) l (and_right (rises p u) (below u (next subject p n)) q))))
          (λ q. let c : below t (next subject p n) ≡ true = rw q at b in
          by (same_text u t) (λ g. contrary (sym (rw (same_eq u t g, h, c)) ∙ q)) (λ g. rw g (f c)))

-- ---- One row further

pub next_more : (subject : ℕ → Option Text) (p x y : Option Text) (i : ℕ) → x ≡ next subject p i → y ≡ nearer p (subject i) x → y ≡ next subject p (i + 1)
unfolding next
next_more subject p x y i e f = f ∙ rw (e, add-one i)

walk_more : (subject : ℕ → Option Text) (t : Text) (i : ℕ) (w v : Rows) (b : Bool) → w ≡ walk subject t i → b ≡ is_subject t (subject i) → v ≡ counted i b w → v ≡ walk subject t (i + 1)
unfolding walk
walk_more subject t i w v b e f g = g ∙ rw (e, f, add-one i)

abbrev chosen : ℕ → ℕ → ℕ → Chosen
chosen number count first = record { number = number; count = count; first = first }

none_chosen : (c : Chosen) → None ≡ Some c → ⊥
none_chosen c e = some_is_none 0 (sym (ap (λ (o : code.Option Chosen). flag o) e))
  where
    flag : code.Option Chosen → code.Option ℕ
    flag None = None
    flag (Some c) = Some 0

it_is : (c d : Chosen) → ◌≡◌ {A = code.Option Chosen} (Some c) (Some d) → c ≡ d
it_is c d e = ap (λ (o : code.Option Chosen). or o) e
  where
    or : code.Option Chosen → Chosen
    or None = c
    or (Some x) = x

pub chosen_start : (s : Slices) (subject : ℕ → Option Text) (p : Option Text) → Chooses s subject p 0 None
unfolding next
chosen_start s subject p = record { next = refl; known = tt; rows = λ k e. absurd (none_chosen k e); some = λ k e. absurd (none_chosen k e); few = λ k e. absurd (none_chosen k e) }

module _ (s : Slices) (subject : ℕ → Option Text) (p : Option Text) (i : ℕ) where
  -- One subject, with its rows among one row more.
  one_chosen : (c : Chosen) → some (text s c.number) ≡ next subject p (i + 1) → Readable s c.number → rows c.count c.first ≡ walk subject (text s c.number) (i + 1) → 0 < c.count → c.count ≤ i + 1 → Chooses s subject p (i + 1) (Some c)
  one_chosen c e known r m f = record {
    next = e;
    known = known;
    rows = λ k q. subst (λ (d : Chosen). rows d.count d.first ≡ walk subject (text s d.number) (i + 1)) (it_is c k q) r;
    some = λ k q. subst (λ (d : Chosen). 0 < d.count) (it_is c k q) m;
    few = λ k q. subst (λ (d : Chosen). d.count ≤ i + 1) (it_is c k q) f;
  }

  -- The best so far stays, where the row has another subject.
  stays : (best : code.Option Chosen) → Chooses s subject p i best → named s (number best) ≡ nearer p (subject i) (named s (number best)) → ((k : Chosen) → best ≡ Some k → false ≡ is_subject (text s k.number) (subject i)) → Chooses s subject p (i + 1) best
  unfolding counted
  stays best C f g = record {
    next = next_more subject p (named s (number best)) (named s (number best)) i C.next f;
    known = C.known;
    rows = λ k e. walk_more subject (text s k.number) i (rows k.count k.first) (rows k.count k.first) false (C.rows k e) (g k e) refl;
    some = C.some;
    few = λ k e. omega (arith, C.few k e);
  }

  pub no_subject : (best : code.Option Chosen) → Chooses s subject p i best → subject i ≡ none → Chooses s subject p (i + 1) best
  unfolding nearer
  no_subject best C e = stays best C (rw e) (λ k q. rw e)

  module _ (n : ℕ) (e : subject i ≡ some (text s n)) where
    other : (k : Chosen) → same_text (text s n) (text s k.number) ≡ false → false ≡ is_subject (text s k.number) (subject i)
    other k f = rw e (sym f)

    pub not_above : (best : code.Option Chosen) → Chooses s subject p i best → rises p (text s n) ≡ false → Chooses s subject p (i + 1) best
    unfolding nearer
    not_above best C a =
        stays best C (rw (e, a))
        (λ k q. other k (by (same_text (text s n) (text s k.number))
        (λ f. contrary (sym (next_rises subject p i (text s k.number) (sym C.next ∙ ap (λ (o : code.Option Chosen). named s (number o)) q)) ∙ (ap (rises p) (sym (same_eq (text s n) (text s k.number) f)) ∙ a)))
        (λ f. f)))

    module _ (a : rises p (text s n) ≡ true) where
      nearest : (best : code.Option Chosen) → Chooses s subject p i best → Readable s n → below (text s n) (named s (number best)) ≡ true → Chooses s subject p (i + 1) (Some (chosen n 1 i))
      unfolding nearer counted
      nearest best C K l =
          one_chosen (chosen n 1 i)
          (next_more subject p (named s (number best)) (some (text s n)) i C.next (rw (e, a, l)))
          K
          (walk_more subject (text s n) i (rows 0 0) (rows 1 i) true
          (sym (walk_between subject p (text s n) a i (subst (λ (o : Option Text). below (text s n) o ≡ true) C.next l)))
          (rw e (sym (same_refl (text s n)))) refl)
          (omega arith)
          (omega arith)

      pub first_one : Chooses s subject p i None → Readable s n → Chooses s subject p (i + 1) (Some (chosen n 1 i))
      first_one C K = nearest None C K refl

      module _ (b : Chosen) (C : Chooses s subject p i (Some b)) where
        pub is_nearer : Readable s n → smaller (text s n) (text s b.number) ≡ true → Chooses s subject p (i + 1) (Some (chosen n 1 i))
        is_nearer K l = nearest (Some b) C K l

        module _ (l : smaller (text s n) (text s b.number) ≡ false) where
          pub not_nearer : same_text (text s n) (text s b.number) ≡ false → Chooses s subject p (i + 1) (Some b)
          unfolding nearer
          not_nearer f = stays (Some b) C (rw (e, a, l)) (λ k q. other k (subst (λ (d : Chosen). same_text (text s n) (text s d.number) ≡ false) (it_is b k q) f))

          pub again : same_text (text s n) (text s b.number) ≡ true → Chooses s subject p (i + 1) (Some (chosen b.number (b.count + 1) b.first))
          unfolding nearer counted
          again f =
              one_chosen (chosen b.number (b.count + 1) b.first)
              (next_more subject p (some (text s b.number)) (some (text s b.number)) i C.next (rw (e, a, l)))
              C.known
              (walk_more subject (text s b.number) i (rows b.count b.first) (rows (b.count + 1) b.first) true (C.rows b refl)
              (rw e (sym f)) (rw (ne_eqb b.count 0 (λ z. omega (arith, z, C.some b refl)))))
              (omega arith)
              (omega (arith, C.few b refl))
