-- The statements in the tables of a document are its own, with each blank node under a name that its number gives it; and no two nodes get one name.
use mathlib.Core.Path.{◌≡◌, refl, sym, ap, ap₂, ◌∙◌, subst}
use mathlib.Core.Logic.{◌⊎◌, inl, inr, ⊎_elim}
use mathlib.Core.Bool.{Bool, true, false}
use mathlib.Core.List.{List, [], ◌∷◌, ◌++◌, map}
use mathlib.Core.Option.{Option, none, some}
use Prim.Native.Nat.{ℕ, zero, suc, pred, ◌+◌, ◌≤◌, ◌<◌}
use native.Mathlib.Omega.{arith}
use lib.Dec.{T}
use lib.ListN.{length, get_or, take}
use Rattle.text.specs.Text.{Text, ascii, cond}
use Rattle.text.proofs.Booleans.{is_true}
use Rattle.utf8.proofs.Tests.{split}
use Rattle.dataset.specs.Terms.{Blank, label, bracket, cell, numbered, Term, iri, blank, literal, tagged, Quad}
use Rattle.table.specs.Layout.{Row, row_at, Entry, iri_kind, blank_kind, literal_kind, word_limit, Slices, span}
use Rattle.table.specs.Tables.{number, or_zero, or_nil, is_blank, term_of, graph_of, quad_of, quads}
use Rattle.table.specs.Usable.{Takes, the, text, tag, term, graph, quad, quads_from, quads_held}
use Rattle.table.proofs.Numbers.{Known, found_known}
use Rattle.readback.specs.ReadBack.{label_of_number, renamed_blank, renamed, with_blanks_term, with_blanks_graph, with_blanks}
use Rattle.readback.proofs.Renaming.{labels_apart}
use Rattle.readback.proofs.Kept.{Has, is_resource, Fine, AllFine, RowFine, RowsFine}
use Rattle.readback.proofs.Laid.{no_row, row_here, blank_count, known_place, fine_at, laid, lies, kind_test, text_is}

-- ---- The name of a node

-- Blank nodes that stand at different places have different numbers.
count_less : (ts : List Term) (i j : ℕ) → i < j → i < length ts → T (is_blank (get_or ts i (iri []))) → blank_count (take i ts) < blank_count (take j ts)
unfolding blank_count
count_less [] i j l h b = absurd (omega arith)
count_less (t ∷ ts) i zero l h b = absurd (omega arith)
count_less (t ∷ ts) zero (suc j) l h b = subst (λ (x : Bool). 0 < cond x 1 0 + blank_count (take j ts)) (sym (is_true (is_blank t) b)) (omega arith)
count_less (t ∷ ts) (suc i) (suc j) l h b = let r = count_less ts i j (omega arith) (omega arith) b in omega arith

count_most : (ts : List Term) (i : ℕ) → blank_count (take i ts) ≤ length ts
unfolding blank_count
count_most ts zero = omega arith
count_most [] (suc i) = omega arith
count_most (t ∷ ts) (suc i) = let r = count_most ts i in let q = one (is_blank t) in omega arith
  where
    one : (b : Bool) → cond b 1 0 ≤ 1
    one true = omega arith
    one false = omega arith

-- How many blank nodes stand before the term n.
abbrev blanks_before : List Term → ℕ → ℕ
blanks_before ts n = blank_count (take (pred n) ts)

-- The node's name: of its number, or another where no table holds it.
abbrev name_by : (ℕ → Blank) → (Blank → Blank) → List Term → Blank → Option ℕ → Blank
name_by name other ts b none = other b
name_by name other ts b (some n) = name (blanks_before ts n)

abbrev named : (ℕ → Blank) → (Blank → Blank) → List Term → Blank → Blank
named name other ts b = name_by name other ts b (number (blank b) ts)

-- Names that keep numbers apart, and other nodes, keep all nodes apart.
module _ (ts : List Term) (name : ℕ → Blank) (other : Blank → Blank)
    (apart : (m n : ℕ) → m ≤ length ts → n ≤ length ts → name m ≡ name n → m ≡ n)
    (others : (b c : Blank) → other b ≡ other c → b ≡ c)
    (mixed : (b : Blank) (n : ℕ) → n ≤ length ts → other b ≡ name n → ⊥) where
  held_apart : (b c : Blank) (m n : ℕ) → Known ts m (blank b) → Known ts n (blank c) → name (blanks_before ts m) ≡ name (blanks_before ts n) → b ≡ c
  held_apart b c m n k h e =
      let (i, p, l, f) = known_place ts m (blank b) k in
      let (j, q, o, g) = known_place ts n (blank c) h in
      let d = apart (blanks_before ts m) (blanks_before ts n) (count_most ts (pred m)) (count_most ts (pred n)) e in
      let d' : blank_count (take i ts) ≡ blank_count (take j ts) = ap (blanks_before ts) (sym p) ∙ d ∙ ap (blanks_before ts) q in
      ⊎_elim (λ z. absurd (omega (arith, count_less ts i j z l (subst (λ (t : Term). T (is_blank t)) (sym f) tt))))
      (λ z.
      ⊎_elim (λ w. absurd (omega (arith, count_less ts j i w o (subst (λ (t : Term). T (is_blank t)) (sym g) tt))))
      (λ w.
      let r : i ≡ j = omega arith in
      let v : blank b ≡ blank c = sym f ∙ ap (λ (x : ℕ). get_or ts x (iri [])) r ∙ g in
      cc)
      (split j i)) (split i j)

  names_differ : (b c : Blank) → named name other ts b ≡ named name other ts c → b ≡ c
  names_differ b c e = go (number (blank b) ts) refl (number (blank c) ts) refl e
    where
      go : (x : Option ℕ) → number (blank b) ts ≡ x → (y : Option ℕ) → number (blank c) ts ≡ y → name_by name other ts b x ≡ name_by name other ts c y → b ≡ c
      go none p none q f = others b c f
      go none p (some n) q f = absurd (mixed b (blanks_before ts n) (count_most ts (pred n)) f)
      go (some m) p none q f = absurd (mixed c (blanks_before ts m) (count_most ts (pred m)) (sym f))
      go (some m) p (some n) q f = held_apart b c m n (found_known (blank b) ts m p) (found_known (blank c) ts n q) f

-- ---- The label under which a node is read again

abbrev label_of : ℕ → Blank
label_of n = label (label_of_number n)

abbrev other_label : Blank → Blank
other_label (label s) = label (ascii "c" ++ s)
other_label (bracket p) = bracket p
other_label (cell p) = cell p
other_label (numbered n) = numbered n

abbrev pub new_label : List Term → Blank → Blank
new_label = named label_of other_label

other_labels : (b c : Blank) → other_label b ≡ other_label c → b ≡ c
other_labels (label s) (label t) e = let q : s ≡ t = cc in ap label q
other_labels (label s) (bracket p) e = let z : ◌≡◌ {A = ℕ} 0 1 = cc in absurd (omega arith)
other_labels (label s) (cell p) e = let z : ◌≡◌ {A = ℕ} 0 1 = cc in absurd (omega arith)
other_labels (label s) (numbered p) e = let z : ◌≡◌ {A = ℕ} 0 1 = cc in absurd (omega arith)
other_labels (bracket p) (label t) e = let z : ◌≡◌ {A = ℕ} 0 1 = cc in absurd (omega arith)
other_labels (bracket p) (bracket q) e = e
other_labels (bracket p) (cell q) e = e
other_labels (bracket p) (numbered q) e = e
other_labels (cell p) (label t) e = let z : ◌≡◌ {A = ℕ} 0 1 = cc in absurd (omega arith)
other_labels (cell p) (bracket q) e = e
other_labels (cell p) (cell q) e = e
other_labels (cell p) (numbered q) e = e
other_labels (numbered p) (label t) e = let z : ◌≡◌ {A = ℕ} 0 1 = cc in absurd (omega arith)
other_labels (numbered p) (bracket q) e = e
other_labels (numbered p) (cell q) e = e
other_labels (numbered p) (numbered q) e = e

mixed_labels : (b : Blank) (n : ℕ) → other_label b ≡ label_of n → ⊥
mixed_labels (label s) n e = let q : ◌≡◌ {A = ℕ} 99 98 = cc in omega arith
mixed_labels (bracket p) n e = let z : ◌≡◌ {A = ℕ} 0 1 = cc in omega arith
mixed_labels (cell p) n e = let z : ◌≡◌ {A = ℕ} 0 1 = cc in omega arith
mixed_labels (numbered p) n e = let z : ◌≡◌ {A = ℕ} 0 1 = cc in omega arith

pub labels_differ : (ts : List Term) → length ts < word_limit → (b c : Blank) → new_label ts b ≡ new_label ts c → b ≡ c
labels_differ ts few =
    names_differ ts label_of other_label
    (λ m n h l e. labels_apart m n (omega arith) (omega arith) (let r : label_of_number m ≡ label_of_number n = cc in r)) other_labels (λ b n l e. mixed_labels b n e)

-- ---- The number that a node's term gives it

abbrev other_number : ℕ → Blank → Blank
other_number n (label s) = label s
other_number n (bracket p) = bracket p
other_number n (cell p) = cell p
other_number n (numbered p) = numbered (suc (n + p))

abbrev pub by_number : List Term → Blank → Blank
by_number ts = named numbered (other_number (length ts)) ts

numbered_same : {i j : ℕ} → numbered i ≡ numbered j → i ≡ j
numbered_same e = cc

other_numbers : (n : ℕ) (b c : Blank) → other_number n b ≡ other_number n c → b ≡ c
other_numbers n (label s) (label t) e = e
other_numbers n (label s) (bracket p) e = e
other_numbers n (label s) (cell p) e = e
other_numbers n (label s) (numbered p) e = let z : ◌≡◌ {A = ℕ} 0 1 = cc in absurd (omega arith)
other_numbers n (bracket p) (label t) e = e
other_numbers n (bracket p) (bracket q) e = e
other_numbers n (bracket p) (cell q) e = e
other_numbers n (bracket p) (numbered q) e = let z : ◌≡◌ {A = ℕ} 0 1 = cc in absurd (omega arith)
other_numbers n (cell p) (label t) e = e
other_numbers n (cell p) (bracket q) e = e
other_numbers n (cell p) (cell q) e = e
other_numbers n (cell p) (numbered q) e = let z : ◌≡◌ {A = ℕ} 0 1 = cc in absurd (omega arith)
other_numbers n (numbered p) (label t) e = let z : ◌≡◌ {A = ℕ} 0 1 = cc in absurd (omega arith)
other_numbers n (numbered p) (bracket q) e = let z : ◌≡◌ {A = ℕ} 0 1 = cc in absurd (omega arith)
other_numbers n (numbered p) (cell q) e = let z : ◌≡◌ {A = ℕ} 0 1 = cc in absurd (omega arith)
other_numbers n (numbered p) (numbered q) e = let d = numbered_same e in ap numbered (omega arith)

mixed_numbers : (n : ℕ) (b : Blank) (i : ℕ) → i ≤ n → other_number n b ≡ numbered i → ⊥
mixed_numbers n (label s) i l e = let z : ◌≡◌ {A = ℕ} 0 1 = cc in omega arith
mixed_numbers n (bracket p) i l e = let z : ◌≡◌ {A = ℕ} 0 1 = cc in omega arith
mixed_numbers n (cell p) i l e = let z : ◌≡◌ {A = ℕ} 0 1 = cc in omega arith
mixed_numbers n (numbered p) i l e = let d = numbered_same e in omega arith

pub numbers_differ : (ts : List Term) (b c : Blank) → by_number ts b ≡ by_number ts c → b ≡ c
numbers_differ ts = names_differ ts numbered (other_number (length ts)) (λ m n h l e. numbered_same e) (other_numbers (length ts)) (mixed_numbers (length ts))

-- ---- The statements in the tables

module _ (v : Takes) (ts : List Term) (rs : List Row) (x y : List ℕ) (z : Text) (fine : AllFine v ts 1 ts) (rows : RowsFine ts rs)
    (own : (n : ℕ) (u : Term) → Known ts n u → number u ts ≡ some n) where
  abbrev s : Slices
  s = laid ts rs x y z

  fine_known : (n : ℕ) (u : Term) → Known ts n u → Fine v ts n u
  fine_known n u k =
      let (i, p, l, e) = known_place ts n u k in
      subst (λ (m : ℕ). Fine v ts m u) (let q : 1 + i ≡ n = omega arith in q) (subst (Fine v ts (1 + i)) e (fine_at v ts 1 ts i fine l))

  -- Nodes are called by number in the tables: renamed from there, they are the document's, renamed so that a node gets the name of its number.
  module _ (from to : Blank → Blank) (meet : (n : ℕ) (b : Blank) → Known ts n (blank b) → from (numbered (blanks_before ts n)) ≡ to b) where
    term_same : (n : ℕ) (u : Term) → Known ts n u → with_blanks_term from (term s n) ≡ with_blanks_term to u
    term_same n (iri t) k = rw (kind_test ts rs x y z n (iri t) k iri_kind) (ap iri (text_is ts rs x y z n (iri t) k))
    term_same n (blank b) k =
        let l = lies ts rs x y z n (blank b) k in
        let f : (the s n).fourth ≡ blank_count (take l.index ts) = ap (λ (e : Entry). e.fourth) l.entry in
        rw (kind_test ts rs x y z n (blank b) k iri_kind, kind_test ts rs x y z n (blank b) k blank_kind)
        (ap (λ (i : ℕ). blank (from (numbered i))) (f ∙ ap (blanks_before ts) (sym l.next)) ∙ ap blank (meet n b k))
    term_same n (literal t d) k =
        let l = lies ts rs x y z n (literal t d) k in
        let e = (fine_known n (literal t d) k).1 in
        let f : (the s n).fourth ≡ e.place = ap (λ (i : Entry). i.fourth) l.entry ∙ ap or_zero e.found in
        let g : text s (the s n).fourth ≡ d = ap (λ (i : ℕ). text s i) f ∙ text_is ts rs x y z e.place (iri d) (found_known (iri d) ts e.place e.found) in
        rw (kind_test ts rs x y z n (literal t d) k iri_kind, kind_test ts rs x y z n (literal t d) k blank_kind, kind_test ts rs x y z n (literal t d) k literal_kind)
        (ap₂ literal (text_is ts rs x y z n (literal t d) k) g)
    term_same n (tagged t g) k =
        let l = lies ts rs x y z n (tagged t g) k in
        let v : tag s n ≡ g = ap (λ (i : Entry). span s.store i.fourth i.fifth) l.entry ∙ l.tag_there in
        rw (kind_test ts rs x y z n (tagged t g) k iri_kind, kind_test ts rs x y z n (tagged t g) k blank_kind, kind_test ts rs x y z n (tagged t g) k literal_kind)
        (ap₂ tagged (text_is ts rs x y z n (tagged t g) k) v)

    has_same : {p : Term → Bool} (n : ℕ) → Has p ts n → with_blanks_term from (term s n) ≡ with_blanks_term to (term_of ts n)
    has_same n h = term_same n h.it h.known ∙ ap (λ (o : Option Term). with_blanks_term to (or_nil o)) (sym h.known)

    graph_same : (g : ℕ) → (g ≡ 0) ⊎ Has is_resource ts g → with_blanks_graph from (graph s g) ≡ with_blanks_graph to (graph_of ts g)
    graph_same zero h = refl
    graph_same (suc g) (inl e) = absurd (omega arith)
    graph_same (suc g) (inr h) = ap some (has_same (suc g) h)

    row_same : (r : Row) → RowFine ts r → with_blanks from (quad s r) ≡ with_blanks to (quad_of ts r)
    row_same r f =
        let g = graph_same r.graph f.graph in
        let a = has_same r.subject f.subject in
        let b = has_same r.predicate f.predicate in
        let c = has_same r.object f.object in
        λ i. record { graph = g i; triple = record { subject = a i; predicate = b i; object = c i } }

    quads_same : (us : List Row) (i : ℕ) → RowsFine ts us → ((j : ℕ) → j < length us → row_at s.rows (i + j) ≡ get_or us j no_row)
        → map (with_blanks from) (quads_from s i (length us)) ≡ map (with_blanks to) (quads ts us)
    unfolding quads quads_from
    quads_same [] i f h = refl
    quads_same (r ∷ us) i f h =
        let e : row_at s.rows i ≡ r = ap (row_at s.rows) (let q : i ≡ i + 0 = omega arith in q) ∙ h 0 (omega arith) in
        ap₂ (λ (a : Quad) (l : List Quad). a ∷ l) (ap (λ (a : Row). with_blanks from (quad s a)) e ∙ row_same r f.0)
        (quads_same us (suc i) f.1 (λ j l. ap (row_at s.rows) (let q : suc i + j ≡ i + suc j = omega arith in q) ∙ h (suc j) (omega arith)))

    held_renamed : map (with_blanks from) (quads_held s) ≡ map (with_blanks to) (quads ts rs)
    unfolding quads_held
    held_renamed = quads_same rs 0 rows (λ j l. ap (row_at s.rows) (let q : 0 + j ≡ j = omega arith in q) ∙ row_here rs x j l)

  -- As they are read again,
  pub held_same : map renamed (quads_held s) ≡ map (with_blanks (new_label ts)) (quads ts rs)
  held_same = held_renamed renamed_blank (new_label ts) (λ n b k. rw (own n (blank b) k) refl)

  -- and as they stand there.
  pub held_numbered : quads_held s ≡ map (with_blanks (by_number ts)) (quads ts rs)
  held_numbered = sym (unnamed (quads_held s)) ∙ held_renamed (λ b. b) (by_number ts) (λ n b k. rw (own n (blank b) k) refl)
    where
      plain : (t : Term) → with_blanks_term (λ b. b) t ≡ t
      plain (iri t) = refl
      plain (blank b) = refl
      plain (literal t d) = refl
      plain (tagged t g) = refl

      plain_graph : (g : Option Term) → with_blanks_graph (λ b. b) g ≡ g
      plain_graph none = refl
      plain_graph (some t) = ap some (plain t)

      unnamed : (qs : List Quad) → map (with_blanks (λ b. b)) qs ≡ qs
      unnamed [] = refl
      unnamed (q ∷ qs) =
          let g = plain_graph q.graph in
          let a = plain q.triple.subject in
          let b = plain q.triple.predicate in
          let c = plain q.triple.object in
          let e : with_blanks (λ x. x) q ≡ q = λ i. record { graph = g i; triple = record { subject = a i; predicate = b i; object = c i } } in
          ap₂ (λ (k : Quad) (l : List Quad). k ∷ l) e (unnamed qs)
