-- Terms and rows as they lie in slices: tables that were kept as a writer takes them are usable, whatever stood in the slices before.
use mathlib.Core.Path.{◌≡◌, refl, sym, ap, ap₂, ◌∙◌, subst}
use mathlib.Core.Logic.{◌⊎◌, inl, inr}
use mathlib.Core.Bool.{Bool, true, false, ◌&&◌, ◌||◌}
use mathlib.Core.List.{List, [], ◌∷◌, ◌++◌, append_assoc}
use mathlib.Core.Option.{Option, none}
use Prim.Native.Nat.{ℕ, zero, suc, ◌+◌, ◌*◌, ◌≤◌, ◌<◌}
use native.Mathlib.Omega.{arith}
use borrow.Author.Tests.{le-leb, lt-ltb}
use lib.Dec.{T, eqb, leb}
use lib.ListN.{length, get_or, take, length-append}
use lib.Seq.{take_at}
use Rattle.text.specs.Text.{Text, cond, is_none}
use Rattle.limits.specs.Limits.{iri_limit}
use Rattle.utf8.specs.Utf8.{first_bad}
use Rattle.utf8.proofs.Tests.{by}
use Rattle.dataset.specs.Terms.{Term, iri, blank, literal, tagged}
use Rattle.table.specs.Layout.{Row, row_size, row_words, row_at, Entry, term_size, entry_words, entry_at, iri_kind, blank_kind, literal_kind, tagged_kind, Slices, span}
use Rattle.table.specs.Tables.{or_zero, term_at, is_blank, text_of, tag_of, term_bytes, entry_of, words_from, terms_words, store_bytes, store_size, rows_words}
use Rattle.table.specs.Usable.{each, Takes, the, text, tag, inside, counts_fit, has_kind, good_iri, good_datatype, good_tag, good_term, present, resource, good_row, usable}
use Rattle.table.proofs.Numbers.{Known, not_none, found_known}
use Rattle.table.proofs.Finding.{number_positive}
use Rattle.table.proofs.Store.{rows_length, bytes_length, text_span, tag_span, inside as spans_inside}
use Rattle.readback.proofs.Kept.{Has, is_iri, is_resource, Fine, AllFine, RowFine, RowsFine}

-- ---- Words, five at a time

five : (a b c d e : ℕ) (w : List ℕ) (n m : ℕ) → n ≡ suc (suc (suc (suc (suc m)))) → get_or (a ∷ b ∷ c ∷ d ∷ e ∷ w) n 0 ≡ get_or w m 0
five a b c d e w n m h = ap (λ (k : ℕ). get_or (a ∷ b ∷ c ∷ d ∷ e ∷ w) k 0) h

abbrev pub no_row : Row
no_row = record { graph = 0; subject = 0; predicate = 0; object = 0; position = 0 }

row_first : (r : Row) (w : List ℕ) → row_at (row_words r ++ w) 0 ≡ r
unfolding row_at row_words
row_first r w = refl

row_later : (r : Row) (w : List ℕ) (i : ℕ) → row_at (row_words r ++ w) (suc i) ≡ row_at w i
unfolding row_at row_words
row_later r w i =
    let f : (k : ℕ) → get_or (row_words r ++ w) (row_size * suc i + k) 0 ≡ get_or w (row_size * i + k) 0 =
    λ k. five r.graph r.subject r.predicate r.object r.position w (row_size * suc i + k) (row_size * i + k) (omega arith) in
    let g = five r.graph r.subject r.predicate r.object r.position w (row_size * suc i) (row_size * i) (omega arith) in
    λ j. record { graph = g j; subject = f 1 j; predicate = f 2 j; object = f 3 j; position = f 4 j }

pub row_here : (rs : List Row) (w : List ℕ) (i : ℕ) → i < length rs → row_at (rows_words rs ++ w) i ≡ get_or rs i no_row
unfolding rows_words
row_here [] w i h = absurd (omega arith)
row_here (r ∷ rs) w zero h = ap (λ (l : List ℕ). row_at l 0) (append_assoc (row_words r) (rows_words rs) w) ∙ row_first r (rows_words rs ++ w)
row_here (r ∷ rs) w (suc i) h =
    ap (λ (l : List ℕ). row_at l (suc i)) (append_assoc (row_words r) (rows_words rs) w) ∙ row_later r (rows_words rs ++ w) i ∙ row_here rs w i (omega arith)

entry_first : (t : Entry) (w : List ℕ) → entry_at (entry_words t ++ w) 1 ≡ t
unfolding entry_at entry_words
entry_first t w = refl

entry_later : (t : Entry) (w : List ℕ) (i : ℕ) → entry_at (entry_words t ++ w) (suc (suc i)) ≡ entry_at w (suc i)
unfolding entry_at entry_words
entry_later t w i =
    let f : (k : ℕ) → get_or (entry_words t ++ w) (term_size * suc i + k) 0 ≡ get_or w (term_size * i + k) 0 =
    λ k. five t.kind t.start t.size t.fourth t.fifth w (term_size * suc i + k) (term_size * i + k) (omega arith) in
    let g = five t.kind t.start t.size t.fourth t.fifth w (term_size * suc i) (term_size * i) (omega arith) in
    λ j. record { kind = g j; start = f 1 j; size = f 2 j; fourth = f 3 j; fifth = f 4 j }

-- How many blank nodes there are.
unfoldable pub blank_count : List Term → ℕ
blank_count [] = 0
blank_count (t ∷ ts) = cond (is_blank t) 1 0 + blank_count ts

entry_here : (all : List Term) (used blanks : ℕ) (ts : List Term) (w : List ℕ) (i : ℕ) → i < length ts
    → entry_at (words_from all used blanks ts ++ w) (suc i) ≡ entry_of all (used + store_size (take i ts)) (blanks + blank_count (take i ts)) (get_or ts i (iri []))
unfolding words_from store_size blank_count
entry_here all used blanks [] w i h = absurd (omega arith)
entry_here all used blanks (t ∷ ts) w zero h =
    ap (λ (l : List ℕ). entry_at l 1) (append_assoc (entry_words (entry_of all used blanks t)) (words_from all (used + length (term_bytes t)) (cond (is_blank t) (suc blanks) blanks) ts) w)
    ∙ entry_first (entry_of all used blanks t) (words_from all (used + length (term_bytes t)) (cond (is_blank t) (suc blanks) blanks) ts ++ w)
    ∙ ap₂ (λ (x y : ℕ). entry_of all x y t) (omega arith) (omega arith)
entry_here all used blanks (t ∷ ts) w (suc i) h =
    let used' = used + length (term_bytes t) in
    let blanks' = cond (is_blank t) (suc blanks) blanks in
    ap (λ (l : List ℕ). entry_at l (suc (suc i))) (append_assoc (entry_words (entry_of all used blanks t)) (words_from all used' blanks' ts) w)
    ∙ entry_later (entry_of all used blanks t) (words_from all used' blanks' ts ++ w) i
    ∙ entry_here all used' blanks' ts w i (omega arith)
    ∙ ap₂ (λ (x y : ℕ). entry_of all x y (get_or ts i (iri []))) (omega arith) (more (is_blank t) (blank_count (take i ts)))
  where
    more : (b : Bool) (n : ℕ) → cond b (suc blanks) blanks + n ≡ blanks + (cond b 1 0 + n)
    more true n = omega arith
    more false n = omega arith

-- ---- Places of terms

pub known_place : (ts : List Term) (n : ℕ) (u : Term) → Known ts n u → (i : ℕ) × (n ≡ suc i) × (i < length ts) × (get_or ts i (iri []) ≡ u)
unfolding term_at
known_place [] n u e = not_none e
known_place (t ∷ ts) zero u e = not_none e
known_place (t ∷ ts) (suc zero) u e = let q : t ≡ u = cc in (0, refl, omega arith, q)
known_place (t ∷ ts) (suc (suc n)) u e = let (i, p, l, g) = known_place ts (suc n) u e in (suc i, omega arith, omega arith, g)

place_known : (ts : List Term) (i : ℕ) → i < length ts → Known ts (suc i) (get_or ts i (iri []))
unfolding term_at
place_known [] i h = absurd (omega arith)
place_known (t ∷ ts) zero h = refl
place_known (t ∷ ts) (suc i) h = place_known ts i (omega arith)

pub fine_at : (v : Takes) (all : List Term) (n : ℕ) (ts : List Term) (i : ℕ) → AllFine v all n ts → i < length ts → Fine v all (n + i) (get_or ts i (iri []))
fine_at v all n [] i h l = absurd (omega arith)
fine_at v all n (t ∷ ts) zero h l = subst (λ (k : ℕ). Fine v all k t) (omega arith) h.0
fine_at v all n (t ∷ ts) (suc i) h l = subst (λ (k : ℕ). Fine v all k (get_or ts i (iri []))) (omega arith) (fine_at v all (suc n) ts i h.1 (omega arith))

pub rows_fine_at : (ts : List Term) (rs : List Row) (i : ℕ) → RowsFine ts rs → i < length rs → RowFine ts (get_or rs i no_row)
rows_fine_at ts [] i h l = absurd (omega arith)
rows_fine_at ts (r ∷ rs) zero h l = h.0
rows_fine_at ts (r ∷ rs) (suc i) h l = rows_fine_at ts rs i h.1 (omega arith)

each_true : (p : ℕ → Bool) (n from : ℕ) → ((i : ℕ) → i < n → p (from + i) ≡ true) → each p from n ≡ true
unfolding each
each_true p zero from h = refl
each_true p (suc n) from h =
    let a : p from ≡ true = ap p (let q : from ≡ from + 0 = omega arith in q) ∙ h 0 (omega arith) in
    let b = each_true p n (suc from) (λ i l. ap p (let q : suc from + i ≡ from + suc i = omega arith in q) ∙ h (suc i) (omega arith)) in
    rw (a, b)

-- ---- Tables in slices

-- The slices that hold the terms ts and the rows rs, in front of others.
abbrev pub laid : List Term → List Row → List ℕ → List ℕ → Text → Slices
laid ts rs x y z =
    record { rows = rows_words rs ++ x; row_count = length rs; terms = terms_words ts ++ y; term_count = length ts; store = store_bytes ts ++ z; store_count = store_size ts }

module _ (ts : List Term) (rs : List Row) (x y : List ℕ) (z : Text) where
  abbrev s : Slices
  s = laid ts rs x y z

  -- The term n of ts, with the words and bytes that hold it.
  pub record Lies (n : ℕ) (u : Term) : Type 0 where
    pub index : ℕ
    pub next : n ≡ suc index
    pub within : index < length ts
    pub start : ℕ
    pub entry : entry_at (terms_words ts ++ y) n ≡ entry_of ts start (blank_count (take index ts)) u
    pub text_there : span (store_bytes ts ++ z) start (length (text_of u)) ≡ text_of u
    pub tag_there : span (store_bytes ts ++ z) (start + length (text_of u)) (length (tag_of u)) ≡ tag_of u
    pub ends : start + (length (text_of u) + length (tag_of u)) ≤ store_size ts

  used_store : take (store_size ts) (store_bytes ts ++ z) ≡ store_bytes ts
  used_store = take_at (store_bytes ts) z (store_size ts) (bytes_length ts)

  lies_at : (i : ℕ) → i < length ts → Lies (suc i) (get_or ts i (iri []))
  unfolding terms_words
  lies_at i h =
      record {
        index = i;
        next = refl;
        within = h;
        start = store_size (take i ts);
        entry = entry_here ts 0 0 ts y i h ∙ ap₂ (λ (a b : ℕ). entry_of ts a b (get_or ts i (iri []))) (omega arith) (omega arith);
        text_there = text_span ts (store_bytes ts ++ z) (store_size ts) used_store i h;
        tag_there = tag_span ts (store_bytes ts ++ z) (store_size ts) used_store i h;
        ends = omega (arith, spans_inside ts (store_bytes ts ++ z) (store_size ts) used_store i h, length-append (text_of (get_or ts i (iri []))) (tag_of (get_or ts i (iri []))));
      }

  pub lies : (n : ℕ) (u : Term) → Known ts n u → Lies n u
  lies n u k = let (i, p, h, e) = known_place ts n u k in subst (λ (m : ℕ). Lies m u) (sym p) (subst (Lies (suc i)) e (lies_at i h))

  -- ---- A term's kind and text

  abbrev pub kind_of : Term → ℕ
  kind_of (iri t) = iri_kind
  kind_of (blank b) = blank_kind
  kind_of (literal t d) = literal_kind
  kind_of (tagged t g) = tagged_kind

  kind_entry : (start blanks : ℕ) (u : Term) → ((entry_of ts start blanks u).kind ≡ kind_of u) × ((entry_of ts start blanks u).start ≡ start) × ((entry_of ts start blanks u).size ≡ length (text_of u))
  kind_entry start blanks (iri t) = (refl, refl, refl)
  kind_entry start blanks (blank b) = (refl, refl, refl)
  kind_entry start blanks (literal t d) = (refl, refl, refl)
  kind_entry start blanks (tagged t g) = (refl, refl, refl)

  module _ (n : ℕ) (u : Term) (k : Known ts n u) where
    abbrev l : Lies n u
    l = lies n u k

    pub kind_is : (the s n).kind ≡ kind_of u
    kind_is = ap (λ (e : Entry). e.kind) l.entry ∙ (kind_entry l.start (blank_count (take l.index ts)) u).0

    start_is : (the s n).start ≡ l.start
    start_is = ap (λ (e : Entry). e.start) l.entry ∙ (kind_entry l.start (blank_count (take l.index ts)) u).1

    size_is : (the s n).size ≡ length (text_of u)
    size_is = ap (λ (e : Entry). e.size) l.entry ∙ (kind_entry l.start (blank_count (take l.index ts)) u).2

    pub text_is : text s n ≡ text_of u
    text_is = ap₂ (λ (a b : ℕ). span (store_bytes ts ++ z) a b) start_is size_is ∙ l.text_there

    pub present_is : present s n ≡ true
    present_is = let p = l.next in let q = l.within in simp (le-leb 1 n (omega arith), le-leb n (length ts) (omega arith))

    text_fits : inside s (the s n).start (the s n).size ≡ true
    text_fits = ap₂ (λ (a b : ℕ). inside s a b) start_is size_is ∙ le-leb (l.start + length (text_of u)) (store_size ts) (omega (arith, l.ends))

    pub kind_test : (j : ℕ) → has_kind s j n ≡ eqb (kind_of u) j
    kind_test j = ap (λ (i : ℕ). eqb i j) kind_is

  -- ---- Good terms

  module _ (v : Takes) where
    -- What is said of each kind.
    kind_good : (n : ℕ) (u : Term) → Known ts n u → Fine v ts n u
        → ((has_kind s iri_kind n && good_iri v s n) || has_kind s blank_kind n || (has_kind s literal_kind n && good_datatype s n) || (has_kind s tagged_kind n && good_tag v s n)) ≡ true
    kind_good n (iri t) k f =
        let a = ap v.iri (text_is n (iri t) k) ∙ f.taken in
        let b = ap (λ (i : ℕ). leb i iri_limit) (size_is n (iri t) k) ∙ le-leb (length t) iri_limit f.short in
        rw (kind_test n (iri t) k iri_kind, a, b)
    kind_good n (blank b) k f = rw (kind_test n (blank b) k iri_kind, kind_test n (blank b) k blank_kind)
    kind_good n (literal t d) k f =
        let e = f.1 in
        let p = e.place in
        let q : (the s n).fourth ≡ p = ap (λ (x : Entry). x.fourth) (l n (literal t d) k).entry ∙ ap or_zero e.found in
        let h : good_datatype s n ≡ true =
        rw (q, le-leb 1 p (number_positive (iri d) ts p e.found), lt-ltb p n e.before, kind_test p (iri d) (found_known (iri d) ts p e.found) iri_kind) in
        rw (kind_test n (literal t d) k iri_kind, kind_test n (literal t d) k blank_kind, kind_test n (literal t d) k literal_kind, h)
    kind_good n (tagged t g) k f =
        let m = l n (tagged t g) k in
        let p : (the s n).fourth ≡ m.start + length t = ap (λ (x : Entry). x.fourth) m.entry in
        let q : (the s n).fifth ≡ length g = ap (λ (x : Entry). x.fifth) m.entry in
        let i : inside s (the s n).fourth (the s n).fifth ≡ true = ap₂ (λ (a b : ℕ). inside s a b) p q ∙ le-leb (m.start + length t + length g) (store_size ts) (omega (arith, m.ends)) in
        let v : tag s n ≡ g = ap₂ (λ (a b : ℕ). span (store_bytes ts ++ z) a b) p q ∙ m.tag_there in
        rw (
          kind_test n (tagged t g) k iri_kind,
          kind_test n (tagged t g) k blank_kind,
          kind_test n (tagged t g) k literal_kind,
          kind_test n (tagged t g) k tagged_kind,
          i,
          v,
          f.1,
        )

    fine_text : (n : ℕ) (u : Term) → Fine v ts n u → first_bad (text_of u) ≡ none
    fine_text n (iri t) f = f.utf8
    fine_text n (blank b) f = f
    fine_text n (literal t d) f = f.0
    fine_text n (tagged t g) f = f.0

    term_fine : (n : ℕ) (u : Term) → Known ts n u → Fine v ts n u → good_term v s n ≡ true
    unfolding good_term
    term_fine n u k f =
        let a = ap (λ (o : Option ℕ). is_none o) (ap first_bad (text_is n u k) ∙ fine_text n u f) in
        rw (text_fits n u k, a) (kind_good n u k f)

  -- ---- Good rows

  iri_kind_is : (u : Term) → T (is_iri u) → eqb (kind_of u) iri_kind ≡ true
  iri_kind_is (iri t) h = refl
  iri_kind_is (blank b) h = absurd h
  iri_kind_is (literal t d) h = absurd h
  iri_kind_is (tagged t g) h = absurd h

  resource_kind_is : (u : Term) → T (is_resource u) → (eqb (kind_of u) iri_kind || eqb (kind_of u) blank_kind) ≡ true
  resource_kind_is (iri t) h = refl
  resource_kind_is (blank b) h = refl
  resource_kind_is (literal t d) h = absurd h
  resource_kind_is (tagged t g) h = absurd h

  resource_fine : (n : ℕ) → Has is_resource ts n → resource s n ≡ true
  resource_fine n h =
      rw (present_is n h.it h.known, kind_test n h.it h.known iri_kind, kind_test n h.it h.known blank_kind) (resource_kind_is h.it h.passes)

  graph_fine : (g : ℕ) → (g ≡ 0) ⊎ Has is_resource ts g → (eqb g 0 || resource s g) ≡ true
  graph_fine g (inl e) = rw e
  graph_fine g (inr h) = by (eqb g 0) (λ e. rw e) (λ e. rw e (resource_fine g h))

  row_fine : (r : Row) → RowFine ts r → good_row s r ≡ true
  unfolding good_row
  row_fine r f =
      let p = f.predicate in
      let o = f.object in
      let a : (present s r.predicate && has_kind s iri_kind r.predicate) ≡ true =
      rw (present_is r.predicate p.it p.known, kind_test r.predicate p.it p.known iri_kind) (iri_kind_is p.it p.passes) in
      rw (graph_fine r.graph f.graph, resource_fine r.subject f.subject, a, present_is r.object o.it o.known)

  -- ---- Usable tables

  terms_length : (all : List Term) (used blanks : ℕ) (us : List Term) → length (words_from all used blanks us) ≡ term_size * length us
  unfolding words_from entry_words
  terms_length all used blanks [] = refl
  terms_length all used blanks (u ∷ us) =
      let e = entry_of all used blanks u in
      omega (arith, length-append (entry_words e) (words_from all (used + length (term_bytes u)) (cond (is_blank u) (suc blanks) blanks) us), terms_length all (used + length (term_bytes u)) (cond (is_blank u) (suc blanks) blanks) us)

  counts_fine : counts_fit s ≡ true
  unfolding counts_fit terms_words
  counts_fine =
      rw (
        le-leb (row_size * length rs) (length (rows_words rs ++ x)) (omega (arith, length-append (rows_words rs) x, rows_length rs)),
        le-leb (term_size * length ts) (length (words_from ts 0 0 ts ++ y)) (omega (arith, length-append (words_from ts 0 0 ts) y, terms_length ts 0 0 ts)),
        le-leb (store_size ts) (length (store_bytes ts ++ z)) (omega (arith, length-append (store_bytes ts) z, bytes_length ts)),
      )

  pub laid_usable : (v : Takes) → AllFine v ts 1 ts → RowsFine ts rs → usable v s ≡ true
  unfolding usable
  laid_usable v f g =
      let one : (i : ℕ) → 1 + i ≡ suc i = λ i. omega arith in
      let none_more : (i : ℕ) → 0 + i ≡ i = λ i. omega arith in
      let a =
      each_true (good_term v s) (length ts) 1
      (λ i h. ap (good_term v s) (one i) ∙ term_fine v (suc i) (get_or ts i (iri [])) (place_known ts i h) (subst (λ (n : ℕ). Fine v ts n (get_or ts i (iri []))) (one i) (fine_at v ts 1 ts i f h))) in
      let b =
      each_true (λ i. good_row s (row_at s.rows i)) (length rs) 0
      (λ i h. ap (λ (j : ℕ). good_row s (row_at s.rows j)) (none_more i) ∙ ap (good_row s) (row_here rs x i h) ∙ row_fine (get_or rs i no_row) (rows_fine_at ts rs i g h)) in
      rw (counts_fine, a, b)
