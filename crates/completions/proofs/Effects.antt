-- What closing tokens write: the first new term differs from name to name, and the first new row has a new object.
use mathlib.Core.Path.{◌≡◌, refl, sym, ap, ◌∙◌, subst}
use mathlib.Core.Logic.{◌⊎◌, inl, inr, ⊎_elim}
use mathlib.Core.List.{List, [], ◌∷◌, ◌++◌, append_assoc}
use mathlib.Core.Option.{Option, none, some}
use Prim.Native.Nat.{ℕ, suc, ◌≤◌, ◌<◌}
use native.Mathlib.Omega.{arith}
use lib.ListN.{length, length-append}
use Rattle.text.specs.Text.{Text}
use Rattle.dataset.specs.Terms.{Term, cell, iri, blank, literal, rdf_first, rdf_rest, rdf_nil}
use Rattle.dataset.specs.Constructors.{iri_of}
use Rattle.table.specs.Layout.{Row}
use Rattle.table.specs.Tables.{number}
use Rattle.machine.specs.Memory.{Memory, term, term_by, new_term, iri_term, typed_by, row, enter}
use Rattle.machine.specs.Frame.{Ending, full_stop, brace, bracket_end, Place, top, subject_before, object_of, element_of, Cells, no_cell, cells}
use Rattle.machine.specs.Rules.{hold, new_cell, extended, end_list}
use Rattle.machine.proofs.Extends.{Extends, extends_same, extends_both, adds_new_term, adds_term, adds_row}
use Rattle.completions.proofs.Closing.{long_name, name, ended}
use Rattle.completions.proofs.Names.{name_iri, Fresh, found_where}

-- ---- Writes only add

pub ext_hold : (q : Place) (n at : ℕ) (m : Memory) → Extends m (hold q n at m).1
ext_hold top n at m = extends_same m m refl refl
ext_hold (subject_before e) n at m = extends_same m m refl refl
ext_hold (object_of s p) n at m = (adds_row s p n at).extends m
ext_hold (element_of c) n at m = extends_both ((adds_term (iri rdf_first)).extends m) ((adds_row c (term (iri rdf_first) m).0 n at).extends (term (iri rdf_first) m).1)

pub ext_end : (q : Place) (at : ℕ) (cs : Cells) (u : ℕ) (m : Memory) → Extends m (end_list q at cs u m).1
ext_end q at no_cell u m = extends_both ((adds_term (iri rdf_nil)).extends m) (ext_hold q (term (iri rdf_nil) m).0 at (term (iri rdf_nil) m).1)
ext_end q at (cells h l) u m =
    let a = term (iri rdf_rest) m in
    let b = term (iri rdf_nil) a.1 in
    extends_both ((adds_term (iri rdf_rest)).extends m) (extends_both ((adds_term (iri rdf_nil)).extends a.1) ((adds_row l a.0 b.0 u).extends b.1))

-- ---- Shapes

module _ (v L : ℕ) where
  abbrev pub First : Term → Type 0
  First t = (t ≡ iri (long_name v)) ⊎ (t ≡ blank (cell v))

  abbrev pub NewTerm : Memory → Memory → Type 0
  NewTerm m M = (t : Term) × (us : List Term) × First t × (M.terms ≡ m.terms ++ t ∷ us)

  abbrev pub NewRow : Memory → Memory → Type 0
  NewRow m M = (r : Row) × (us : List Row) × (L < r.object) × (M.rows ≡ m.rows ++ r ∷ us)

  -- Nothing, or a first new one.
  abbrev pub TermShape : Memory → Memory → Type 0
  TermShape m M = (M.terms ≡ m.terms) ⊎ NewTerm m M

  abbrev pub RowShape : Memory → Memory → Type 0
  RowShape m M = (M.rows ≡ m.rows) ⊎ NewRow m M

  term_on : (m m' M : Memory) → NewTerm m m' → Extends m' M → NewTerm m M
  term_on m m' M (t, us, f, p) x = (t, us ++ x.new_terms, f, x.terms ∙ ap (λ (l : List Term). l ++ x.new_terms) p ∙ append_assoc m.terms (t ∷ us) x.new_terms)

  row_on : (m m' M : Memory) → NewRow m m' → Extends m' M → NewRow m M
  row_on m m' M (r, us, f, p) x = (r, us ++ x.new_rows, f, x.rows ∙ ap (λ (l : List Row). l ++ x.new_rows) p ∙ append_assoc m.rows (r ∷ us) x.new_rows)

  row_after : (m m' M : Memory) → m'.rows ≡ m.rows → RowShape m' M → RowShape m M
  row_after m m' M e (inl p) = inl (p ∙ e)
  row_after m m' M e (inr (r, us, f, p)) = inr (r, us, f, p ∙ ap (λ (l : List Row). l ++ r ∷ us) e)

  term_after : (m m' M : Memory) → m'.terms ≡ m.terms → TermShape m' M → TermShape m M
  term_after m m' M e (inl p) = inl (p ∙ e)
  term_after m m' M e (inr (t, us, f, p)) = inr (t, us, f, p ∙ ap (λ (l : List Term). l ++ t ∷ us) e)

  -- The name's number is past L wherever it has one, and so is that of a literal of its type.
  pub record Far (m : Memory) : Type 0 where
    pub enough : L ≤ length m.terms
    pub far_iri : (n : ℕ) → number (iri (long_name v)) m.terms ≡ some n → L < n
    pub far_literal : (s : Text) (n : ℕ) → number (literal s (long_name v)) m.terms ≡ some n → L < n

  pub far_more : (m M : Memory) → Extends m M → Far m → Far M
  far_more m M x f =
      record {
        enough = omega (arith, f.enough, ap length x.terms, length-append m.terms x.new_terms);
        far_iri = λ n e. go (iri (long_name v)) n (f.far_iri n) (found_where (iri (long_name v)) m.terms x.new_terms n (ap (number (iri (long_name v))) (sym x.terms) ∙ e));
        far_literal = λ s n e. go (literal s (long_name v)) n (f.far_literal s n) (found_where (literal s (long_name v)) m.terms x.new_terms n (ap (number (literal s (long_name v))) (sym x.terms) ∙ e));
      }
    where
      go : (t : Term) (n : ℕ) → (number t m.terms ≡ some n → L < n) → (number t m.terms ≡ some n) ⊎ (length m.terms < n) → L < n
      go t n g (inl e) = g e
      go t n g (inr h) = omega (arith, f.enough)

  -- The number of a term that is looked for, where it is far.
  term_far : (t : Term) (m : Memory) → L ≤ length m.terms → ((n : ℕ) → number t m.terms ≡ some n → L < n) → L < (term t m).0
  term_far t m l f = go (number t m.terms) refl
    where
      go : (o : Option ℕ) → number t m.terms ≡ o → L < (term_by o t m).0
      go none e = omega arith
      go (some n) e = f n e

  term_rows : (t : Term) (m : Memory) → (term t m).1.rows ≡ m.rows
  term_rows t m = go (number t m.terms)
    where
      go : (o : Option ℕ) → (term_by o t m).1.rows ≡ m.rows
      go none = refl
      go (some n) = refl

  -- ---- A name

  abbrev named : Memory → ℕ × Memory
  named m = iri_term (name v) m

  named_is : (m : Memory) → named m ≡ term (iri (long_name v)) m
  named_is m = ap (λ (s : Text). term (iri s) m) (name_iri m.environment v)

  ext_named : (m : Memory) → Extends m (named m).1
  ext_named m = (adds_term (iri (iri_of m.environment (name v)))).extends m

  named_rows : (m : Memory) → (named m).1.rows ≡ m.rows
  named_rows m = term_rows (iri (iri_of m.environment (name v))) m

  named_far : (m : Memory) → Far m → L < (named m).0
  named_far m f = subst (λ (r : ℕ × Memory). L < r.0) (sym (named_is m)) (term_far (iri (long_name v)) m f.enough f.far_iri)

  named_new : (m : Memory) → Fresh v m.terms → NewTerm m (named m).1
  named_new m f =
      (iri (long_name v), [], inl refl, ap (λ (r : ℕ × Memory). r.1.terms) (named_is m) ∙ ap (λ (o : Option ℕ). (term_by o (iri (long_name v)) m).1.terms) f.no_iri)

  -- ---- Where it is put

  hold_row : (q : Place) (n at : ℕ) (m : Memory) → L < n → RowShape m (hold q n at m).1
  hold_row top n at m l = inl refl
  hold_row (subject_before e) n at m l = inl refl
  hold_row (object_of s p) n at m l = inr (_, [], l, refl)
  hold_row (element_of c) n at m l = inr (_, [], l, ap (λ (x : List Row). x ++ record { graph = (term (iri rdf_first) m).1.graph; subject = c; predicate = (term (iri rdf_first) m).0; object = n; position = at } ∷ []) (term_rows (iri rdf_first) m))

  element_row : (c n at : ℕ) (m : Memory) → L < n → NewRow m (hold (element_of c) n at m).1
  element_row c n at m l = (_, [], l, ap (λ (x : List Row). x ++ record { graph = (term (iri rdf_first) m).1.graph; subject = c; predicate = (term (iri rdf_first) m).0; object = n; position = at } ∷ []) (term_rows (iri rdf_first) m))

  -- ---- What is written

  pub record Wrote (m M : Memory) : Type 0 where
    pub ext : Extends m M
    pub rows : Far m → RowShape m M
    pub terms : Fresh v m.terms → TermShape m M

  pub wrote_none : (m M : Memory) → M.rows ≡ m.rows → M.terms ≡ m.terms → Wrote m M
  wrote_none m M p q = record { ext = extends_same m M p q; rows = λ f. inl p; terms = λ f. inl q }

  pub wrote_then : (m m' M : Memory) → Wrote m m' → Wrote m' M → Wrote m M
  wrote_then m m' M a b =
      record {
        ext = extends_both a.ext b.ext;
        rows = λ f. ⊎_elim (λ e. row_after m m' M e (b.rows (far_more m m' a.ext f))) (λ n. inr (row_on m m' M n b.ext)) (a.rows f);
        terms = λ f. ⊎_elim (λ e. term_after m m' M e (b.terms (subst (Fresh v) (sym e) f))) (λ n. inr (term_on m m' M n b.ext)) (a.terms f);
      }

  pub wrote_named : (m : Memory) → Wrote m (named m).1
  wrote_named m = record { ext = ext_named m; rows = λ f. inl (named_rows m); terms = λ f. inr (named_new m f) }

  pub wrote_ended : (e : Ending) (m : Memory) → Wrote m (ended e m)
  wrote_ended full_stop m = wrote_none m m refl refl
  wrote_ended brace m = wrote_none m (enter 0 m).1 refl refl
  wrote_ended bracket_end m = wrote_none m m refl refl

  -- An object,
  pub wrote_object : (s p : ℕ) (m : Memory) → Wrote m (row s p (named m).0 v (named m).1).1
  wrote_object s p m =
      let M = (row s p (named m).0 v (named m).1).1 in
      let x = (adds_row s p (named m).0 v).extends (named m).1 in
      record {
        ext = extends_both (ext_named m) x;
        rows = λ f. inr (record { graph = (named m).1.graph; subject = s; predicate = p; object = (named m).0; position = v }, [], named_far m f, ap (λ (l : List Row). l ++ record { graph = (named m).1.graph; subject = s; predicate = p; object = (named m).0; position = v } ∷ []) (named_rows m));
        terms = λ f. inr (term_on m (named m).1 M (named_new m f) x);
      }

  -- a literal's type,
  pub wrote_type : (q : Place) (at : ℕ) (s : Text) (m : Memory) → Wrote m (hold q (typed_by s (name v) m).0 at (typed_by s (name v) m).1).1
  wrote_type q at s m =
      let m₁ = (named m).1 in
      let d = iri_of m.environment (name v) in
      let r = term (literal s d) m₁ in
      let M = (hold q r.0 at r.1).1 in
      let x = (adds_term (literal s d)).extends m₁ in
      let y = ext_hold q r.0 at r.1 in
      record {
        ext = extends_both (ext_named m) (extends_both x y);
        rows =
            λ f.
            let g = far_more m m₁ (ext_named m) f in
            let l : L < r.0 = subst (λ (z : Text). L < (term (literal s z) m₁).0) (sym (name_iri m.environment v)) (term_far (literal s (long_name v)) m₁ g.enough (g.far_literal s)) in
            row_after m r.1 M (term_rows (literal s d) m₁ ∙ named_rows m) (hold_row q r.0 at r.1 l);
        terms = λ f. inr (term_on m m₁ M (named_new m f) (extends_both x y));
      }

  -- and an element, with its cell and the list's end.
  abbrev celled : Place → ℕ → Cells → Memory → ℕ × Memory
  celled q at cs m = new_cell q at cs v m

  wrote_cell : (q : Place) (at : ℕ) (cs : Cells) (m : Memory) → Wrote m (celled q at cs m).1
  wrote_cell q at no_cell m =
      let m₁ = (new_term (blank (cell v)) m).1 in
      let M = (hold q (suc (length m.terms)) at m₁).1 in
      let x = ext_hold q (suc (length m.terms)) at m₁ in
      record {
        ext = extends_both ((adds_new_term (blank (cell v))).extends m) x;
        rows = λ f. row_after m m₁ M refl (hold_row q (suc (length m.terms)) at m₁ (let e = f.enough in omega arith));
        terms = λ f. inr (term_on m m₁ M (blank (cell v), [], inr refl, refl) x);
      }
  wrote_cell q at (cells h l) m =
      let m₁ = (new_term (blank (cell v)) m).1 in
      let r = term (iri rdf_rest) m₁ in
      let M = (row l r.0 (suc (length m.terms)) v r.1).1 in
      let x = extends_both ((adds_term (iri rdf_rest)).extends m₁) ((adds_row l r.0 (suc (length m.terms)) v).extends r.1) in
      record {
        ext = extends_both ((adds_new_term (blank (cell v))).extends m) x;
        rows = λ f. inr (record { graph = r.1.graph; subject = l; predicate = r.0; object = suc (length m.terms); position = v }, [], (let e = f.enough in omega arith), ap (λ (z : List Row). z ++ record { graph = r.1.graph; subject = l; predicate = r.0; object = suc (length m.terms); position = v } ∷ []) (term_rows (iri rdf_rest) m₁));
        terms = λ f. inr (term_on m m₁ M (blank (cell v), [], inr refl, refl) x);
      }

  abbrev pub listed : Place → ℕ → Cells → Memory → ℕ × Memory
  listed q at cs m =
      let r = celled q at cs m in
      end_list q at (extended cs r.0) 0 (hold (element_of r.0) (named r.1).0 v (named r.1).1).1

  new_row_after : (m m' M : Memory) → m'.rows ≡ m.rows → NewRow m' M → NewRow m M
  new_row_after m m' M e (r, us, f, p) = (r, us, f, p ∙ ap (λ (l : List Row). l ++ r ∷ us) e)

  pub wrote_list : (q : Place) (at : ℕ) (cs : Cells) (m : Memory) → Wrote m (listed q at cs m).1
  wrote_list q at cs m =
      let r = celled q at cs m in
      let m₂ = (hold (element_of r.0) (named r.1).0 v (named r.1).1).1 in
      let M = (listed q at cs m).1 in
      let a = wrote_cell q at cs m in
      let x = ext_hold (element_of r.0) (named r.1).0 v (named r.1).1 in
      let y = ext_end q at (extended cs r.0) 0 m₂ in
      let z : Extends r.1 M = extends_both (ext_named r.1) (extends_both x y) in
      record {
        ext = extends_both a.ext z;
        rows =
            λ f.
            ⊎_elim
            (λ e.
            inr
            (row_on m m₂ M
            (new_row_after m (named r.1).1 m₂ (named_rows r.1 ∙ e) (element_row r.0 (named r.1).0 v (named r.1).1 (named_far r.1 (far_more m r.1 a.ext f))))
            y))
            (λ n. inr (row_on m r.1 M n z)) (a.rows f);
        terms =
            λ f.
            ⊎_elim (λ e. term_after m r.1 M e (inr (term_on r.1 (named r.1).1 M (named_new r.1 (subst (Fresh v) (sym e) f)) (extends_both x y))))
            (λ n. inr (term_on m r.1 M n z)) (a.terms f);
      }
