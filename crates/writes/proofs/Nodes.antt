-- The node of a token, by its kind; and the three writes of a token as a whole.
use mathlib.Core.Path.{◌≡◌, refl, sym, ap, subst, ◌∙◌}
use mathlib.Core.Bool.{Bool, true, false}
use mathlib.Core.List.{List}
use Prim.Native.Nat.{ℕ, zero, suc, ◌-◌, ◌≤◌, ◌<◌}
use native.Mathlib.Omega.{arith}
use lib.ListN.{length, take, drop, set}
use lib.Dec.{eqb}
use Rattle.text.specs.Text.{Text, cond}
use Rattle.text.proofs.Compare.{by}
use Rattle.environment.specs.Code.{cell}
use Rattle.environment.proofs.Cells.{front_cell, most_small}
use Rattle.table.specs.Layout.{iri_kind, blank_kind, literal_kind, tagged_kind, word_limit}
use Rattle.machine.proofs.Extends.{adds_new_term, adds_term}
use Rattle.limits.specs.Limits.{work_size}
use Rattle.spelling.specs.Form.{undo, joined}
use Rattle.dataset.specs.Terms.{iri, blank, literal, tagged, label, bracket}
use Rattle.machine.specs.Memory.{Write, return, ◌>>=◌, term, new_term, typed}
use Rattle.machine.specs.Frame.{Place, element_of, Cells, no_cell, cells}
use Rattle.machine.specs.Rules.{new_cell, end_list}
use Rattle.state.specs.declared.Spot.{Spot}
use Rattle.state.specs.declared.Node.{Node}
use Rattle.state.specs.Words.{node_word, Stays}
use Rattle.state.specs.Represents.{Tables, Wrote}
use Rattle.state.specs.Writes.{new_kind, place_of, cells_of, new_element, begin, node_iri, node_write, placed, opened_at, closed, SpotFits, NodeFits}
use Rattle.writes.specs.Ready.{Ready, Writes, put_at}
use Rattle.writes.specs.Steps.{Part, TermReady, TermWrites, FreshReady, FreshWrites, NumberWrites, PutReady, Below}
use Rattle.writes.proofs.Compose.{Grows, grows_return, grows_bind, ready_first, ready_next, writes_return, writes_bind, writes_then_return}
use Rattle.writes.proofs.Places.{place_element, grows_put}
use Rattle.writes.proofs.Rows.{wrote}

-- ---- A node by its kind

module _ (n : Node) (work back text tag : Text) (at : ℕ) where
  pub iri_write : n.kind ≡ iri_kind → node_write n work back text tag at ≡ term (iri (node_iri n work back))
  unfolding node_write
  iri_write e = rw e

  pub blank_write : n.kind ≡ blank_kind → node_write n work back text tag at ≡ term (blank (label text))
  unfolding node_write
  blank_write e = rw e

  pub literal_write : n.kind ≡ literal_kind → node_write n work back text tag at ≡ typed (undo n.text text) (node_iri n work back)
  unfolding node_write
  literal_write e = rw e

  pub tagged_write : n.kind ≡ tagged_kind → node_write n work back text tag at ≡ term (tagged (undo n.text text) tag)
  unfolding node_write
  tagged_write e = rw e

  pub new_write : n.kind ≡ new_kind → node_write n work back text tag at ≡ new_term (blank (bracket at))
  unfolding node_write
  new_write e = rw e

pub ready_as : (w z : Write ℕ) (work : Text) (terms : List ℕ) (store : Text) (st : List ℕ) → w ≡ z → TermReady w work terms store st → TermReady z work terms store st
ready_as w z work terms store st e r = subst (λ (v : Write ℕ). TermReady v work terms store st) e r

pub writes_as : (w z : Write ℕ) (r : ℕ) (work work' : Text) (terms terms' : List ℕ) (store store' : Text) (st st' : List ℕ) → w ≡ z → TermWrites z r work work' terms terms' store store' st st'
    → TermWrites w r work work' terms terms' store store' st st'
writes_as w z r work work' terms terms' store store' st st' e x = subst (λ (v : Write ℕ). TermWrites v r work work' terms terms' store store' st st') (sym e) x

pub node_part : (n : Node) (work back text tag : Text) → NodeFits n work back text tag → Part n.start n.end n.form back
node_part n work back text tag f = record { order = f.order; front = f.front; right = f.back_right }

pub bracket_fresh : (at : ℕ) (work : Text) (terms : List ℕ) (store : Text) (st : List ℕ) → TermReady (new_term (blank (bracket at))) work terms store st → FreshReady terms st
bracket_fresh at work terms store st (rows, r) = record { work = work; rows = rows; store = store; node = bracket at; unlabelled = (refl, refl); ready = r }

pub bracket_writes : (at r : ℕ) (work : Text) (terms terms' : List ℕ) (store : Text) (st st' : List ℕ) → FreshWrites r terms terms' st st' → TermWrites (new_term (blank (bracket at))) r work work terms terms' store store st st'
bracket_writes at r work terms terms' store st st' (i, W) = (i, (λ rows. W work rows store (bracket at) (refl, refl)))

grows_cond : (b : Bool) (w z : Write ℕ) → Grows w → Grows z → Grows (cond b w z)
grows_cond true w z g h = g
grows_cond false w z g h = h

grows_node : (n : Node) (work back text tag : Text) (at : ℕ) → Grows (node_write n work back text tag at)
unfolding node_write
grows_node n work back text tag at =
    grows_cond (eqb n.kind iri_kind) _ _ (λ m. (adds_term (iri (node_iri n work back))).extends m)
    (grows_cond (eqb n.kind blank_kind) _ _ (λ m. (adds_term (blank (label text))).extends m)
    (grows_cond (eqb n.kind literal_kind) _ _
    (grows_bind (term (iri (node_iri n work back))) (λ d. term (literal (undo n.text text) (node_iri n work back))) (λ m. (adds_term (iri (node_iri n work back))).extends m)
    (λ d m. (adds_term (literal (undo n.text text) (node_iri n work back))).extends m))
    (grows_cond (eqb n.kind tagged_kind) _ _ (λ m. (adds_term (tagged (undo n.text text) tag)).extends m) (λ m. (adds_new_term (blank (bracket at))).extends m))))

-- The IRI of a node stands in the environment's bytes, which no write changes.
front_part : (work work' : Text) (start end : ℕ) → take work_size work' ≡ take work_size work → start ≤ end → end ≤ work_size → take (end - start) (drop start work') ≡ take (end - start) (drop start work)
unfolding cell
front_part work work' start end e h l =
    let m : ℕ = end - start in
    let q : cell work' start m m ≡ cell work start m m = front_cell work work' start m m e (omega arith) in
    rw (most_small m m (omega arith)) at q

module _ (n : Node) (work work' back text tag : Text) (e : take work_size work' ≡ take work_size work) (f : NodeFits n work back text tag) where
  iri_same : node_iri n work' back ≡ node_iri n work back
  iri_same = ap (λ (x : Text). joined x n.form back) (front_part work work' n.start n.end e f.order f.front)

  node_same : (at : ℕ) → node_write n work' back text tag at ≡ node_write n work back text tag at
  unfolding node_write
  node_same at = rw iri_same

  node_fits : NodeFits n work' back text tag
  node_fits = record {
    low = f.low;
    high = f.high;
    order = f.order;
    front = f.front;
    back_right = f.back_right;
    text_right = f.text_right;
    label_text = f.label_text;
    short = rw iri_same f.short;
    text_short = f.text_short;
    tag_short = f.tag_short;
    text_slice = f.text_slice;
  }

-- ---- A cell by the last one

module _ (s : Spot) where
  pub cells_none : s.last ≡ 0 → cells_of s.last ≡ no_cell
  cells_none e = rw e

  pub cells_some : 0 < s.last → cells_of s.last ≡ cells 0 s.last
  cells_some h = go s.last h
    where
      go : (n : ℕ) → 0 < n → cells_of n ≡ cells 0 n
      go zero h = absurd (omega arith)
      go (suc n) h = refl

-- The same write over other cells.
pub ready_cells : {A : Type 0} (f : Cells → Write A) (a b : Cells) (work : Text) (t : Tables) (st : List ℕ) → a ≡ b → Ready (f a) work t st → Ready (f b) work t st
ready_cells f a b work t st e r = subst (λ (c : Cells). Ready (f c) work t st) e r

pub writes_cells : {A : Type 0} (f : Cells → Write A) (a b : Cells) (r : A) (work work' : Text) (t t' : Tables) (st st' : List ℕ) → a ≡ b → Writes (f b) r work work' t t' st st' → Writes (f a) r work work' t t' st st'
writes_cells f a b r work work' t t' st st' e x = subst (λ (c : Cells). Writes (f c) r work work' t t' st st') (sym e) x

-- ---- A token's writes

begin_list : (s : Spot) → s.list ≡ true → begin s ≡ new_element s
unfolding begin
begin_list s e = rw e

begin_alone : (s : Spot) → s.list ≡ false → begin s ≡ return (place_of s.x s.y)
unfolding begin
begin_alone s e = rw e

module _ (s : Spot) where
  abbrev cell_write : Write ℕ
  cell_write = new_cell (place_of s.x s.y) s.opened (cells_of s.last) s.at

  -- A node at its place.
  module _ (w : Write ℕ) where
    abbrev then_put : ℕ → Write ℕ
    then_put c = put_at (element_of c) s.at w

    placed_list : s.list ≡ true → placed s w ≡ (cell_write >>= then_put)
    unfolding placed
    placed_list e = ap (λ (b : Write Place). b >>= (λ p. put_at p s.at w)) (begin_list s e)

    placed_alone : s.list ≡ false → placed s w ≡ put_at (place_of s.x s.y) s.at w
    unfolding placed
    placed_alone e = ap (λ (b : Write Place). b >>= (λ p. put_at p s.at w)) (begin_alone s e)

  -- A place is no node yet.
  abbrev no_node : ℕ
  no_node = 0

  opened_list : s.list ≡ true → opened_at s ≡ (cell_write >>= (λ c. return no_node))
  unfolding opened_at
  opened_list e = ap (λ (b : Write Place). b >>= (λ p. return no_node)) (begin_list s e)

  opened_alone : s.list ≡ false → opened_at s ≡ return no_node
  unfolding opened_at
  opened_alone e = ap (λ (b : Write Place). b >>= (λ p. return no_node)) (begin_alone s e)

  module _ (work : Text) (t : Tables) (st : List ℕ) where
    abbrev Result : Write ℕ → Text → Tables → List ℕ → Type 0
    Result w work' t' st' = Wrote w work work' t t' st st' × (Stays st st' × (length st' ≡ length st))

    result_as : (w z : Write ℕ) (work' : Text) (t' : Tables) (st' : List ℕ) → w ≡ z → Result z work' t' st' → Result w work' t' st'
    result_as w z work' t' st' e x = subst (λ (v : Write ℕ). Result v work' t' st') (sym e) x

    -- A node at its place.
    module _ (n : Node) (back text tag : Text) (f : NodeFits n work back text tag) (fits : SpotFits s) where
      abbrev w : Write ℕ
      w = node_write n work back text tag s.at

      module _ (r : Ready (placed s w) work t st) where
        module _ (e : s.list ≡ true) where
          listed : Ready (cell_write >>= then_put w) work t st
          listed = subst (λ (v : Write ℕ). Ready v work t st) (placed_list w e) r

          pub placed_cell : Ready cell_write work t st
          placed_cell = ready_first cell_write (then_put w) listed (λ c. grows_put (element_of c) s.at w (grows_node n work back text tag s.at))

          module _ (c : ℕ) (work' : Text) (t' : Tables) (st' : List ℕ) (W : NumberWrites cell_write c work work' t t' st st') where
            abbrev w' : Write ℕ
            w' = node_write n work' back text tag s.at

            same_put : then_put w c ≡ put_at (place_of c 0) s.at w'
            same_put =
                ap (λ (p : Place). put_at p s.at w) (sym (place_element c 0 W.0.0 refl))
                ∙ ap (λ (v : Write ℕ). put_at (place_of c 0) s.at v) (sym (node_same n work work' back text tag W.1.kept.front f s.at))

            pub listed_put : PutReady c 0 s.at w' work' t' st' × NodeFits n work' back text tag
            listed_put = (
              record {
                ready = subst (λ (v : Write ℕ). Ready v work' t' st') same_put (ready_next cell_write (then_put w) listed W.1);
                first = W.0.1;
                second = omega arith;
                position = fits.at;
              },
              node_fits n work work' back text tag W.1.kept.front f,
            )

            pub listed_wrote : (k : ℕ) (work'' : Text) (t'' : Tables) (st'' : List ℕ) → NumberWrites (put_at (place_of c 0) s.at w') k work' work'' t' t'' st' st'' → Result (placed s w) work'' t'' (set st'' node_word k)
            listed_wrote k work'' t'' st'' (i, Z) =
                result_as (placed s w) (cell_write >>= then_put w) work'' t'' (set st'' node_word k) (placed_list w e)
                (wrote (cell_write >>= then_put w) k work work'' t t'' st st'' (set st'' node_word k)
                (writes_bind cell_write (then_put w) W.1 (subst (λ (v : Write ℕ). Writes v k work' work'' t' t'' st' st'') (sym same_put) Z)) i.1 r.represents.usable.words refl)

        module _ (e : s.list ≡ false) where
          pub alone_put : PutReady s.x s.y s.at w work t st
          alone_put = record { ready = subst (λ (v : Write ℕ). Ready v work t st) (placed_alone w e) r; first = fits.x; second = fits.y; position = fits.at }

          pub alone_wrote : (k : ℕ) (work' : Text) (t' : Tables) (st' : List ℕ) → NumberWrites (put_at (place_of s.x s.y) s.at w) k work work' t t' st st' → Result (placed s w) work' t' (set st' node_word k)
          alone_wrote k work' t' st' (i, Z) =
              result_as (placed s w) (put_at (place_of s.x s.y) s.at w) work' t' (set st' node_word k) (placed_alone w e)
              (wrote (put_at (place_of s.x s.y) s.at w) k work work' t t' st st' (set st' node_word k) Z i.1 r.represents.usable.words refl)

        -- Either way.
        module _ (x y : ℕ) (work' : Text) (t' : Tables) (st' : List ℕ) (b : Below s x work work' t t' st st') (ey : y ≡ cond s.list 0 s.y) where
          pub below_put : PutReady x y s.at (node_write n work' back text tag s.at) work' t' st' × NodeFits n work' back text tag
          below_put =
              by s.list (λ e. let ez : y ≡ 0 = ey ∙ rw e in rw ez (listed_put e x work' t' st' (b.listed e)))
              (λ e. let ez : y ≡ s.y = ey ∙ rw e in let a = b.alone e in rw (ez, a.0, a.1.0, a.1.1.0, a.1.1.1) (alone_put e, f))

          pub below_wrote : (k : ℕ) (work'' : Text) (t'' : Tables) (st'' : List ℕ) → NumberWrites (put_at (place_of x y) s.at (node_write n work' back text tag s.at)) k work' work'' t' t'' st' st''
              → Result (placed s w) work'' t'' (set st'' node_word k)
          below_wrote k work'' t'' st'' Z =
              by s.list (λ e. let ez : y ≡ 0 = ey ∙ rw e in listed_wrote e x work' t' st' (b.listed e) k work'' t'' st'' (rw ez at Z))
              (λ e. let ez : y ≡ s.y = ey ∙ rw e in let a = b.alone e in alone_wrote e k work'' t'' st'' (rw (ez, a.0, a.1.0, a.1.1.0, a.1.1.1) at Z))

    -- A place alone.
    module _ (r : Ready (opened_at s) work t st) where
      module _ (e : s.list ≡ true) where
        pub opened_cell : Ready cell_write work t st
        opened_cell = ready_first cell_write (λ c. return no_node) (subst (λ (v : Write ℕ). Ready v work t st) (opened_list e) r) (λ c. grows_return no_node)

        pub opened_wrote : (c : ℕ) (work' : Text) (t' : Tables) (st' : List ℕ) → NumberWrites cell_write c work work' t t' st st' → Result (opened_at s) work' t' (set st' node_word 0)
        opened_wrote c work' t' st' (i, W) =
            result_as (opened_at s) (cell_write >>= (λ c. return no_node)) work' t' (set st' node_word 0) (opened_list e)
            (wrote (cell_write >>= (λ c. return no_node)) no_node work work' t t' st st' (set st' node_word 0) (writes_then_return cell_write no_node W) (omega arith) r.represents.usable.words refl)

      pub opened_nothing : s.list ≡ false → Result (opened_at s) work t (set st node_word 0)
      opened_nothing e =
          result_as (opened_at s) (return no_node) work t (set st node_word 0) (opened_alone e)
          (wrote (return no_node) no_node work work t t st st (set st node_word 0) (writes_return no_node work t st) (omega arith) r.represents.usable.words refl)

    -- The end of a list.
    module _ (r : Ready (closed s) work t st) where
      abbrev list_end : Cells → Write ℕ
      list_end cs = end_list (place_of s.x s.y) s.opened cs s.at

      pub closed_ready : (cs : Cells) → cells_of s.last ≡ cs → Ready (list_end cs) work t st
      unfolding closed
      closed_ready cs e = ready_cells list_end (cells_of s.last) cs work t st e r

      pub closed_wrote : (cs : Cells) → cells_of s.last ≡ cs → (k : ℕ) (work' : Text) (t' : Tables) (st' : List ℕ) → k < word_limit → Writes (list_end cs) k work work' t t' st st' → Result (closed s) work' t' (set st' node_word k)
      unfolding closed
      closed_wrote cs e k work' t' st' h W =
          wrote (closed s) k work work' t t' st st' (set st' node_word k) (writes_cells list_end (cells_of s.last) cs k work work' t t' st st' e W) h r.represents.usable.words refl
