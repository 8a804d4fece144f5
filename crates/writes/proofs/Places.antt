-- A node at its place, the cells of a list, and its end.
use mathlib.Core.Path.{◌≡◌, refl, sym, subst}
use mathlib.Core.List.{List}
use Prim.Native.Nat.{ℕ, zero, suc, ◌<◌}
use native.Mathlib.Omega.{arith}
use Rattle.text.specs.Text.{Text}
use Rattle.dataset.specs.Terms.{cell, iri, blank, rdf_first, rdf_rest, rdf_nil}
use Rattle.machine.specs.Memory.{Write, return, ◌>>=◌, done, term, new_term, row}
use Rattle.machine.specs.Frame.{Place, top, subject_before, object_of, element_of, no_cell, cells}
use Rattle.machine.specs.Rules.{hold, new_cell, end_list}
use Rattle.machine.proofs.Extends.{adds_term, adds_row}
use Rattle.state.specs.declared.Spot.{Spot}
use Rattle.state.specs.Represents.{Tables, lent_tables}
use Rattle.state.specs.Writes.{place_of, SpotFits}
use Rattle.writes.specs.Ready.{Ready, Writes, put_at}
use Rattle.writes.specs.Steps.{Number, TermReady, TermWrites, FreshReady, FreshWrites, RowReady, RowWrites, NumberWrites, HoldReady, PutReady}
use Rattle.writes.proofs.Compose.{Grows, grows_return, grows_bind, ready_first, ready_next, writes_return, writes_bind, writes_then_return}

-- ---- The row that holds a node

place_top : (x y : ℕ) → x ≡ 0 → place_of x y ≡ top
place_top x y e = rw e

pub place_element : (x y : ℕ) → 0 < x → y ≡ 0 → place_of x y ≡ element_of x
place_element zero y h e = absurd (omega arith)
place_element (suc x) zero h e = refl
place_element (suc x) (suc y) h e = absurd (omega arith)

place_object : (x y : ℕ) → 0 < x → 0 < y → place_of x y ≡ object_of x y
place_object zero y h k = absurd (omega arith)
place_object (suc x) zero h k = absurd (omega arith)
place_object (suc x) (suc y) h k = refl

grows_row : (s p o at : ℕ) → Grows (row s p o at)
grows_row s p o at m = (adds_row s p o at).extends m

grows_hold : (p : Place) (n at : ℕ) → Grows (hold p n at)
grows_hold top n at = grows_return done
grows_hold (subject_before e) n at = grows_return done
grows_hold (object_of s p) n at = grows_row s p n at
grows_hold (element_of c) n at = grows_bind (term (iri rdf_first)) (λ f. row c f n at) (λ m. (adds_term (iri rdf_first)).extends m) (λ f. grows_row c f n at)

module _ (x y n at : ℕ) (work : Text) (rows terms : List ℕ) (store : Text) (st : List ℕ) where
  abbrev t : Tables
  t = lent_tables rows terms store

  pub held_nowhere : x ≡ 0 → Writes (hold (place_of x y) n at) done work work t t st st
  held_nowhere e = rw (place_top x y e) (writes_return done work t st)

  module _ (r : HoldReady x y n at work t st) (h : 0 < x) where
    module _ (e : y ≡ 0) where
      as_element : Ready (term (iri rdf_first) >>= (λ f. row x f n at)) work t st
      as_element = subst (λ (p : Place). Ready (hold p n at) work t st) (place_element x y h e) r.ready

      pub first_ready : TermReady (term (iri rdf_first)) work terms store st
      first_ready = (rows, ready_first (term (iri rdf_first)) (λ f. row x f n at) as_element (λ f. grows_row x f n at))

      module _ (f : ℕ) (work' : Text) (terms' : List ℕ) (store' : Text) (st' : List ℕ) (W : TermWrites (term (iri rdf_first)) f work work' terms terms' store store' st st') where
        pub element_ready : RowReady x f n at rows st'
        element_ready = record {
          work = work';
          terms = terms';
          store = store';
          ready = ready_next (term (iri rdf_first)) (λ k. row x k n at) as_element (W.1 rows);
          subject = r.first;
          predicate = W.0.1;
          object = r.node;
          position = r.position;
        }

        pub element_held : (rows' st'' : List ℕ) → RowWrites x f n at rows rows' st' st'' → Writes (hold (place_of x y) n at) done work work' t (lent_tables rows' terms' store') st st''
        element_held rows' st'' Z =
            subst (λ (p : Place). Writes (hold p n at) done work work' t (lent_tables rows' terms' store') st st'') (sym (place_element x y h e))
            (writes_bind (term (iri rdf_first)) (λ k. row x k n at) (W.1 rows) (Z work' terms' store'))

    module _ (k : 0 < y) where
      pub object_ready : RowReady x y n at rows st
      object_ready = record {
        work = work;
        terms = terms;
        store = store;
        ready = subst (λ (p : Place). Ready (hold p n at) work t st) (place_object x y h k) r.ready;
        subject = r.first;
        predicate = r.second;
        object = r.node;
        position = r.position;
      }

      pub object_held : (rows' st' : List ℕ) → RowWrites x y n at rows rows' st st' → Writes (hold (place_of x y) n at) done work work t (lent_tables rows' terms store) st st'
      object_held rows' st' Z = subst (λ (p : Place). Writes (hold p n at) done work work t (lent_tables rows' terms store) st st') (sym (place_object x y h k)) (Z work terms store)

-- ---- A node, and the row that holds it

module _ (w : Write ℕ) (x y at : ℕ) {work : Text} {t : Tables} {st : List ℕ} (r : PutReady x y at w work t st) where
  abbrev then_hold : ℕ → Write ℕ
  then_hold n = hold (place_of x y) n at >>= (λ d. return n)

  pub put_first : Ready w work t st
  put_first = ready_first w then_hold r.ready (λ n. grows_bind (hold (place_of x y) n at) (λ d. return n) (grows_hold (place_of x y) n at) (λ d. grows_return n))

  module _ {n : ℕ} {work' : Text} {t' : Tables} {st' : List ℕ} (i : Number n) (W : Writes w n work work' t t' st st') where
    pub put_hold : HoldReady x y n at work' t' st'
    put_hold = record {
      ready = ready_first (hold (place_of x y) n at) (λ d. return n) (ready_next w then_hold r.ready W) (λ d. grows_return n);
      first = r.first;
      second = r.second;
      node = i.1;
      position = r.position;
    }

    pub put_writes : {work'' : Text} {t'' : Tables} {st'' : List ℕ} → Writes (hold (place_of x y) n at) done work' work'' t' t'' st' st'' → NumberWrites (put_at (place_of x y) at w) n work work'' t t'' st st''
    put_writes Z = (i, writes_bind w then_hold W (writes_then_return (hold (place_of x y) n at) n Z))

pub grows_put : (p : Place) (at : ℕ) (w : Write ℕ) → Grows w → Grows (put_at p at w)
grows_put p at w g = grows_bind w (λ n. hold p n at >>= (λ d. return n)) g (λ n. grows_bind (hold p n at) (λ d. return n) (grows_hold p n at) (λ d. grows_return n))

-- ---- A list's first cell

module _ (s : Spot) (work : Text) (rows terms : List ℕ) (store : Text) (st : List ℕ) where
  abbrev tab : Tables
  tab = lent_tables rows terms store

  abbrev place : Place
  place = place_of s.x s.y

  abbrev cell_node : Write ℕ
  cell_node = new_term (blank (cell s.at))

  cell_fresh : Ready cell_node work tab st → FreshReady terms st
  cell_fresh r = record { work = work; rows = rows; store = store; node = cell s.at; unlabelled = (refl, refl); ready = r }

  module _ (r : Ready (new_cell place s.opened no_cell s.at) work tab st) (fits : SpotFits s) where
    first_put : PutReady s.x s.y s.opened cell_node work tab st
    first_put = record { ready = r; first = fits.x; second = fits.y; position = fits.opened }

    pub first_fresh : FreshReady terms st
    first_fresh = cell_fresh (put_first cell_node s.x s.y s.opened first_put)

    module _ (c : ℕ) (terms' st' : List ℕ) (W : FreshWrites c terms terms' st st') where
      pub first_hold : HoldReady s.x s.y c s.opened work (lent_tables rows terms' store) st'
      first_hold = put_hold cell_node s.x s.y s.opened first_put W.0 (W.1 work rows store (cell s.at) (refl, refl))

      pub first_writes : (work'' : Text) (t'' : Tables) (st'' : List ℕ) → Writes (hold place c s.opened) done work work'' (lent_tables rows terms' store) t'' st' st''
          → NumberWrites (new_cell place s.opened no_cell s.at) c work work'' tab t'' st st''
      first_writes work'' t'' st'' Z = put_writes cell_node s.x s.y s.opened first_put W.0 (W.1 work rows store (cell s.at) (refl, refl)) Z

  -- ---- A later cell
  module _ (r : Ready (new_cell place s.opened (cells 0 s.last) s.at) work tab st) (fits : SpotFits s) where
    abbrev tie_row : ℕ → ℕ → Write ℕ
    tie_row c rest = row s.last rest c s.at >>= (λ d. return c)

    abbrev then_tie : ℕ → Write ℕ
    then_tie c = term (iri rdf_rest) >>= tie_row c

    grows_tie : (c rest : ℕ) → Grows (tie_row c rest)
    grows_tie c rest = grows_bind (row s.last rest c s.at) (λ d. return c) (grows_row s.last rest c s.at) (λ d. grows_return c)

    pub later_fresh : FreshReady terms st
    later_fresh = cell_fresh (ready_first cell_node then_tie r (λ c. grows_bind (term (iri rdf_rest)) (tie_row c) (λ m. (adds_term (iri rdf_rest)).extends m) (grows_tie c)))

    module _ (c : ℕ) (terms₁ st₁ : List ℕ) (W : FreshWrites c terms terms₁ st st₁) where
      after_cell : Ready (then_tie c) work (lent_tables rows terms₁ store) st₁
      after_cell = ready_next cell_node then_tie r (W.1 work rows store (cell s.at) (refl, refl))

      pub rest_ready : TermReady (term (iri rdf_rest)) work terms₁ store st₁
      rest_ready = (rows, ready_first (term (iri rdf_rest)) (tie_row c) after_cell (grows_tie c))

      module _ (rest : ℕ) (work₂ : Text) (terms₂ : List ℕ) (store₂ : Text) (st₂ : List ℕ) (X : TermWrites (term (iri rdf_rest)) rest work work₂ terms₁ terms₂ store store₂ st₁ st₂) where
        pub tie_ready : RowReady s.last rest c s.at rows st₂
        tie_ready = record {
          work = work₂;
          terms = terms₂;
          store = store₂;
          ready = ready_first (row s.last rest c s.at) (λ d. return c) (ready_next (term (iri rdf_rest)) (tie_row c) after_cell (X.1 rows)) (λ d. grows_return c);
          subject = fits.last;
          predicate = X.0.1;
          object = W.0.1;
          position = fits.at;
        }

        pub later_writes : (rows₃ st₃ : List ℕ) → RowWrites s.last rest c s.at rows rows₃ st₂ st₃
            → NumberWrites (new_cell place s.opened (cells 0 s.last) s.at) c work work₂ tab (lent_tables rows₃ terms₂ store₂) st st₃
        later_writes rows₃ st₃ Y = (
          W.0,
          writes_bind cell_node then_tie (W.1 work rows store (cell s.at) (refl, refl))
              (writes_bind (term (iri rdf_rest)) (tie_row c) (X.1 rows) (writes_then_return (row s.last rest c s.at) c (Y work₂ terms₂ store₂))),
        )

  -- ---- The end of a list without elements
  module _ (r : Ready (end_list place s.opened no_cell s.at) work tab st) (fits : SpotFits s) where
    empty_put : PutReady s.x s.y s.opened (term (iri rdf_nil)) work tab st
    empty_put = record { ready = r; first = fits.x; second = fits.y; position = fits.opened }

    pub empty_nil : TermReady (term (iri rdf_nil)) work terms store st
    empty_nil = (rows, put_first (term (iri rdf_nil)) s.x s.y s.opened empty_put)

    module _ (n : ℕ) (work' : Text) (terms' : List ℕ) (store' : Text) (st' : List ℕ) (W : TermWrites (term (iri rdf_nil)) n work work' terms terms' store store' st st') where
      pub empty_hold : HoldReady s.x s.y n s.opened work' (lent_tables rows terms' store') st'
      empty_hold = put_hold (term (iri rdf_nil)) s.x s.y s.opened empty_put W.0 (W.1 rows)

      pub empty_writes : (work'' : Text) (t'' : Tables) (st'' : List ℕ) → Writes (hold place n s.opened) done work' work'' (lent_tables rows terms' store') t'' st' st''
          → NumberWrites (end_list place s.opened no_cell s.at) n work work'' tab t'' st st''
      empty_writes work'' t'' st'' Z = put_writes (term (iri rdf_nil)) s.x s.y s.opened empty_put W.0 (W.1 rows) Z

  -- ---- The end of a list behind its last cell
  module _ (r : Ready (end_list place s.opened (cells 0 s.last) s.at) work tab st) (fits : SpotFits s) where
    abbrev no_head : ℕ
    no_head = 0

    abbrev end_row : ℕ → ℕ → Write ℕ
    end_row rest nil = row s.last rest nil s.at >>= (λ d. return no_head)

    abbrev then_end : ℕ → Write ℕ
    then_end rest = term (iri rdf_nil) >>= end_row rest

    grows_end : (rest nil : ℕ) → Grows (end_row rest nil)
    grows_end rest nil = grows_bind (row s.last rest nil s.at) (λ d. return no_head) (grows_row s.last rest nil s.at) (λ d. grows_return no_head)

    pub end_rest : TermReady (term (iri rdf_rest)) work terms store st
    end_rest = (rows, ready_first (term (iri rdf_rest)) then_end r (λ rest. grows_bind (term (iri rdf_nil)) (end_row rest) (λ m. (adds_term (iri rdf_nil)).extends m) (grows_end rest)))

    module _ (rest : ℕ) (work₁ : Text) (terms₁ : List ℕ) (store₁ : Text) (st₁ : List ℕ) (W : TermWrites (term (iri rdf_rest)) rest work work₁ terms terms₁ store store₁ st st₁) where
      after_rest : Ready (then_end rest) work₁ (lent_tables rows terms₁ store₁) st₁
      after_rest = ready_next (term (iri rdf_rest)) then_end r (W.1 rows)

      pub end_nil : TermReady (term (iri rdf_nil)) work₁ terms₁ store₁ st₁
      end_nil = (rows, ready_first (term (iri rdf_nil)) (end_row rest) after_rest (grows_end rest))

      module _ (nil : ℕ) (work₂ : Text) (terms₂ : List ℕ) (store₂ : Text) (st₂ : List ℕ) (X : TermWrites (term (iri rdf_nil)) nil work₁ work₂ terms₁ terms₂ store₁ store₂ st₁ st₂) where
        pub end_ready : RowReady s.last rest nil s.at rows st₂
        end_ready = record {
          work = work₂;
          terms = terms₂;
          store = store₂;
          ready = ready_first (row s.last rest nil s.at) (λ d. return no_head) (ready_next (term (iri rdf_nil)) (end_row rest) after_rest (X.1 rows)) (λ d. grows_return no_head);
          subject = fits.last;
          predicate = W.0.1;
          object = X.0.1;
          position = fits.at;
        }

        pub end_writes : (rows₃ st₃ : List ℕ) → RowWrites s.last rest nil s.at rows rows₃ st₂ st₃
            → Writes (end_list place s.opened (cells 0 s.last) s.at) 0 work work₂ tab (lent_tables rows₃ terms₂ store₂) st st₃
        end_writes rows₃ st₃ Y =
            writes_bind (term (iri rdf_rest)) then_end (W.1 rows)
            (writes_bind (term (iri rdf_nil)) (end_row rest) (X.1 rows) (writes_then_return (row s.last rest nil s.at) no_head (Y work₂ terms₂ store₂)))
