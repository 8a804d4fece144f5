-- What the tests of the code come to.
use mathlib.Core.Path.{◌≡◌, refl, sym, ap, ◌∙◌}
use mathlib.Core.List.{List, [], ◌∷◌}
use mathlib.Core.Bool.{Bool, true, false}
use Prim.Native.Nat.{ℕ, zero, suc, ◌+◌, ◌-◌, ◌≤◌, ◌<◌}
use native.Mathlib.Omega.{arith}
use lib.ListN.{length, take, drop, length-drop}
use lib.Seq.{length-take-le}
use borrow.Author.Tests.{eq-eqb, ne_eqb, lt-ltb, le-ltb}
use Rattle.text.specs.Text.{Text, same_text}
use Rattle.text.proofs.Compare.{by}
use Rattle.spelling.specs.Form.{undo}
use Rattle.spelling.proofs.Forms.{joined_length}
use Rattle.dataset.specs.Terms.{Term, iri, blank, literal, tagged, label}
use Rattle.table.specs.Tables.{number, or_zero, term_bytes}
use Rattle.table.specs.Layout.{iri_kind, blank_kind, literal_kind, tagged_kind}
use Rattle.terms.specs.Keeps.{findable}
use Rattle.machine.specs.Frame.{Place, top, subject_before, object_of, element_of, Cells, no_cell, cells}
use Rattle.machine.specs.Step.{Room}
use Rattle.state.specs.declared.Spot.{Spot}
use Rattle.state.specs.declared.Node.{Node}
use Rattle.state.specs.Writes.{place_of, cells_of, node_iri}
use Rattle.std.specs.Prelude.{Option as Maybe, Some, None, unwrap_or, is_some, IfSome}
use Rattle.std.specs.Option.{option_eq}
use Rattle.state.specs.contracts.SuppliedPartialEq.TheImpl.{eq-value}
use Rattle.state.specs.declared.Supplied.{Supplied}
use Rattle.state.specs.declared.Supplied.TheVariants.{First, Rest, Nil}
use Rattle.state.specs.Supplies.{supplied as supplied_text}
use Rattle.room.specs.Supply.{number_of}
use Rattle.room.specs.declared.Tally.{Tally}
use Rattle.room.specs.Asks.{supplied, place_iri, place_rows, cell_iri, cell_rows, end_iri, last_iri, spot_place, before_iri, before_rows, behind_iri, behind_rows, close_rows}
use Rattle.room.specs.Counting.{tally, more, count_term, count_supply, is_supplied, count_iri, count_node, has_iri, asks_first, count_behind, count_before, count_place, count_close, Named, refusal_of}
use Rattle.room.proofs.Bounds.{iri_bytes}

-- ---- Places

pub rows_some : (x y : ℕ) → (x ≡ 0 → ⊥) → 1 ≡ place_rows (place_of x y)
rows_some zero y h = absurd (h refl)
rows_some (suc x) zero h = refl
rows_some (suc x) (suc y) h = refl

place_rows_few : (p : Place) → place_rows p ≤ 1
place_rows_few top = omega arith
place_rows_few (subject_before e) = omega arith
place_rows_few (object_of s p) = omega arith
place_rows_few (element_of c) = omega arith

cell_rows_few : (p : Place) (cs : Cells) → cell_rows p cs ≤ 1
cell_rows_few p no_cell = place_rows_few p
cell_rows_few p (cells h l) = omega arith

module _ (s : Spot) where
  pub close_first : (r : ℕ) → s.last ≡ 0 → r ≡ place_rows (spot_place s) → r ≡ close_rows s
  unfolding close_rows
  close_first r e h = rw e h

  later_rows : (n : ℕ) → (n ≡ 0 → ⊥) → 1 ≡ cell_rows (spot_place s) (cells_of n)
  later_rows zero h = absurd (h refl)
  later_rows (suc n) h = refl

  pub close_later : (s.last ≡ 0 → ⊥) → 1 ≡ close_rows s
  unfolding close_rows
  close_later h = later_rows s.last h

  pub before_rows_list : (r : ℕ) → s.list ≡ true → r ≡ close_rows s → r ≡ before_rows s
  unfolding before_rows close_rows
  before_rows_list r e h = rw e h

  pub before_rows_none : s.list ≡ false → 0 ≡ before_rows s
  unfolding before_rows
  before_rows_none e = rw e

  pub before_iri_first : (r : ℕ) → s.list ≡ true → s.last ≡ 0 → r ≡ place_iri (spot_place s) → r ≡ before_iri s
  unfolding before_iri
  before_iri_first r e f h = rw (e, f) h

  later_iri : (n : ℕ) → (n ≡ 0 → ⊥) → 2 ≡ cell_iri (spot_place s) (cells_of n)
  later_iri zero h = absurd (h refl)
  later_iri (suc n) h = refl

  pub before_iri_later : s.list ≡ true → (s.last ≡ 0 → ⊥) → 2 ≡ before_iri s
  unfolding before_iri
  before_iri_later e h = rw e (later_iri s.last h)

  pub before_iri_none : s.list ≡ false → 0 ≡ before_iri s
  unfolding before_iri
  before_iri_none e = rw e

  pub behind_rows_list : s.list ≡ true → 1 ≡ behind_rows s
  unfolding behind_rows
  behind_rows_list e = rw e

  pub behind_rows_none : (r : ℕ) → s.list ≡ false → r ≡ place_rows (spot_place s) → r ≡ behind_rows s
  unfolding behind_rows
  behind_rows_none r e h = rw e h

  pub behind_iri_list : s.list ≡ true → 1 ≡ behind_iri s
  unfolding behind_iri
  behind_iri_list e = rw e

  pub behind_iri_none : (r : ℕ) → s.list ≡ false → r ≡ place_iri (spot_place s) → r ≡ behind_iri s
  unfolding behind_iri
  behind_iri_none r e h = rw e h

  -- What stands before the node, and the end of a list.
  pub before_list : (ts : List Term) (c d r : Tally) (p : ℕ) → s.list ≡ true → p ≡ before_iri s → d ≡ more c 0 0 → r ≡ count_supply ts p d → r ≡ count_before ts s c
  unfolding count_before before_iri
  before_list ts c d r p e h k g = g ∙ (rw (h, k, e))

  pub before_none : (ts : List Term) (c : Tally) → s.list ≡ false → c ≡ count_before ts s c
  unfolding count_before
  before_none ts c e = rw e

  pub end_empty : (ts : List Term) (c d r : Tally) (p : ℕ) → s.last ≡ 0 → d ≡ count_supply ts 3 c → p ≡ place_iri (spot_place s) → r ≡ count_supply ts p d → r ≡ count_close ts s c
  unfolding count_close
  end_empty ts c d r p e h k g = g ∙ rw (k, h, e)

  end_cells : (ts : List Term) (c : Tally) (n : ℕ) → (n ≡ 0 → ⊥) → count_supply ts 3 (count_supply ts 2 c) ≡ count_supply ts (last_iri (spot_place s) (cells_of n)) (count_supply ts (end_iri (cells_of n)) c)
  end_cells ts c zero h = absurd (h refl)
  end_cells ts c (suc n) h = refl

  pub end_full : (ts : List Term) (c d r : Tally) → (s.last ≡ 0 → ⊥) → d ≡ count_supply ts 2 c → r ≡ count_supply ts 3 d → r ≡ count_close ts s c
  unfolding count_close
  end_full ts c d r h k g = g ∙ (ap (count_supply ts 3) k ∙ end_cells ts c s.last h)

-- ---- Supplied IRIs

pub supplied_is : (w : Supplied) → supplied_text w ≡ supplied (number_of (Some w))
unfolding supplied
supplied_is First = refl
supplied_is Rest = refl
supplied_is Nil = refl

pub some_number : (w : Supplied) → number_of (Some w) ≡ 0 → ⊥
some_number First e = omega arith
some_number Rest e = omega arith
some_number Nil e = omega arith

pub named_is : (w : Supplied) (x : Text) → (w ≡ Nil → ⊥) → same_text x (supplied (number_of (Some w))) ≡ is_supplied (number_of (Some w)) x
unfolding is_supplied
named_is First x h = refl
named_is Rest x h = refl
named_is Nil x h = absurd (h refl)

pub none_number : (q : Maybe Supplied) → is_some q ≡ false → number_of q ≡ 0
none_number None e = refl
none_number (Some w) e = cc

pub some_supplied : (q : Maybe Supplied) → is_some q ≡ true → number_of q ≡ 0 → ⊥
some_supplied None h e = cc
some_supplied (Some w) h e = some_number w e

abbrev is_first : Maybe Supplied → Bool
is_first p = option_eq eq-value.it p (Some First)

pub first_number : (p : Maybe Supplied) → is_first p ≡ true → number_of p ≡ 1
first_number None e = cc
first_number (Some First) e = refl
first_number (Some Rest) e = cc
first_number (Some Nil) e = cc

pub not_first : (p : Maybe Supplied) → is_first p ≡ false → number_of p ≡ 1 → ⊥
not_first None h e = omega arith
not_first (Some First) h e = cc
not_first (Some Rest) h e = omega arith
not_first (Some Nil) h e = omega arith

-- ---- Counting

pub more_new : (t : Tally) (n size : ℕ) → n ≡ 0 → tally (t.terms + 1) (t.bytes + size) ≡ more t n size
unfolding more
more_new t n size e = rw e

pub more_old : (t : Tally) (n size : ℕ) → (n ≡ 0 → ⊥) → t ≡ more t n size
unfolding more
more_old t n size h = rw (ne_eqb n 0 h)

pub more_known : (t : Tally) (o : Maybe ℕ) (n size : ℕ) → o ≡ Some n → IfSome o (λ n. 0 < n) → t ≡ more t (unwrap_or o 0) size
more_known t o n size e h =
    let k : 0 < n = rw e at h in
    rw e (more_old t n size (λ z. omega arith))

pub one_counted : (ts : List Term) (t : Term) (c r : Tally) (n size : ℕ) → r ≡ more c n size → n ≡ or_zero (number t ts) → size ≡ length (term_bytes t) → r ≡ count_term ts t c
unfolding count_term
one_counted ts t c r n size e h k = e ∙ rw (h, k)

pub no_supply : (ts : List Term) (p : ℕ) (c : Tally) → p ≡ 0 → c ≡ count_supply ts p c
unfolding count_supply
no_supply ts p c e = rw e

pub some_supply : (ts : List Term) (p : ℕ) (c r : Tally) (n size : ℕ) → (p ≡ 0 → ⊥) → r ≡ more c n size → n ≡ or_zero (number (iri (supplied p)) ts) → size ≡ length (supplied p) → r ≡ count_supply ts p c
unfolding count_supply
some_supply ts p c r n size h e k l = one_counted ts (iri (supplied p)) c r n size e k (l ∙ sym (iri_bytes (supplied p))) ∙ rw (ne_eqb p 0 h)

pub no_iri : (ts : List Term) (p : ℕ) (x : Text) (c : Tally) (b : Bool) → b ≡ is_supplied p x → b ≡ true → c ≡ count_iri ts p x c
unfolding count_iri
no_iri ts p x c b e h = rw (sym e ∙ h)

pub some_iri : (ts : List Term) (p : ℕ) (x : Text) (c r : Tally) (b : Bool) (n size : ℕ) → b ≡ is_supplied p x → b ≡ false → r ≡ more c n size → n ≡ or_zero (number (iri x) ts)
    → size ≡ length x → r ≡ count_iri ts p x c
unfolding count_iri
some_iri ts p x c r b n size e h k l m = one_counted ts (iri x) c r n size k l (m ∙ sym (iri_bytes x)) ∙ rw (sym e ∙ h)

pub label_findable : (s : Text) → 0 < length s → findable (blank (label s)) ≡ true
label_findable [] h = absurd (omega arith)
label_findable (b ∷ s) h = refl

-- The length of the node's IRI.
pub name_length : (n : Node) (work back : Text) (u : ℕ) → Named n work back → u ≡ length (undo n.form back) → n.end - n.start + u ≡ length (node_iri n work back)
name_length n work back u N e =
    let part = take (n.end - n.start) (drop n.start work) in
    let size : length part ≡ n.end - n.start = length-take-le (n.end - n.start) (drop n.start work) (omega (arith, length-drop n.start work, N.inside)) in
    omega (arith, joined_length part n.form back)

-- The kinds of node.
module _ (ts : List Term) (p : ℕ) (n : Node) (work back text tag : Text) (c r : Tally) where
  pub node_iri_is : n.kind ≡ iri_kind → r ≡ count_iri ts p (node_iri n work back) c → r ≡ count_node ts p n work back text tag c
  unfolding count_node
  node_iri_is e h = rw (eq-eqb n.kind iri_kind e) h

  pub node_label_is : n.kind ≡ blank_kind → r ≡ count_term ts (blank (label text)) c → r ≡ count_node ts p n work back text tag c
  unfolding count_node
  node_label_is e h = rw (ne_eqb n.kind iri_kind (λ f. omega arith), eq-eqb n.kind blank_kind e) h

  pub node_typed_is : n.kind ≡ literal_kind → r ≡ count_term ts (literal (undo n.text text) (node_iri n work back)) (count_iri ts p (node_iri n work back) c) → r ≡ count_node ts p n work back text tag c
  unfolding count_node
  node_typed_is e h = rw (ne_eqb n.kind iri_kind (λ f. omega arith), ne_eqb n.kind blank_kind (λ f. omega arith), eq-eqb n.kind literal_kind e) h

  pub node_tagged_is : n.kind ≡ tagged_kind → r ≡ count_term ts (tagged (undo n.text text) tag) c → r ≡ count_node ts p n work back text tag c
  unfolding count_node
  node_tagged_is e h = rw (ne_eqb n.kind iri_kind (λ f. omega arith), ne_eqb n.kind blank_kind (λ f. omega arith), ne_eqb n.kind literal_kind (λ f. omega arith), eq-eqb n.kind tagged_kind e) h

  pub node_new_is : (n.kind ≡ iri_kind → ⊥) → (n.kind ≡ blank_kind → ⊥) → (n.kind ≡ literal_kind → ⊥) → (n.kind ≡ tagged_kind → ⊥) → r ≡ more c 0 0 → r ≡ count_node ts p n work back text tag c
  unfolding count_node
  node_new_is a b d e h = rw (ne_eqb n.kind iri_kind a, ne_eqb n.kind blank_kind b, ne_eqb n.kind literal_kind d, ne_eqb n.kind tagged_kind e) h

module _ (n : Node) (work back : Text) (r : Bool) where
  pub first_iri : n.kind ≡ iri_kind → r ≡ is_supplied 1 (node_iri n work back) → r ≡ asks_first n work back
  unfolding asks_first has_iri
  first_iri e h = rw (eq-eqb n.kind iri_kind e) h

  pub first_type : n.kind ≡ literal_kind → r ≡ is_supplied 1 (node_iri n work back) → r ≡ asks_first n work back
  unfolding asks_first has_iri
  first_type e h = rw (ne_eqb n.kind iri_kind (λ f. omega arith), eq-eqb n.kind literal_kind e) h

pub first_none : (n : Node) (work back : Text) → (n.kind ≡ iri_kind → ⊥) → (n.kind ≡ literal_kind → ⊥) → false ≡ asks_first n work back
unfolding asks_first has_iri
first_none n work back h g = rw (ne_eqb n.kind iri_kind h, ne_eqb n.kind literal_kind g)

module _ (ts : List Term) (p q : ℕ) (n : Node) (work back : Text) (c : Tally) where
  pub behind_nothing : q ≡ 0 → c ≡ count_behind ts p q n work back c
  unfolding count_behind
  behind_nothing e = rw e

  pub behind_first : (q ≡ 0 → ⊥) → p ≡ 1 → c ≡ count_behind ts p q n work back c
  unfolding count_behind
  behind_first h e = rw (ne_eqb q 0 h, eq-eqb p 1 e)

  pub behind_named : (b : Bool) → (q ≡ 0 → ⊥) → (p ≡ 1 → ⊥) → b ≡ asks_first n work back → b ≡ true → c ≡ count_behind ts p q n work back c
  unfolding count_behind
  behind_named b h g e k = rw (ne_eqb q 0 h, ne_eqb p 1 g, sym e ∙ k)

  pub behind_supply : (b : Bool) (r : Tally) → (q ≡ 0 → ⊥) → (p ≡ 1 → ⊥) → b ≡ asks_first n work back → b ≡ false → r ≡ count_supply ts 1 c → r ≡ count_behind ts p q n work back c
  unfolding count_behind
  behind_supply b r h g e k l = rw (ne_eqb q 0 h, ne_eqb p 1 g, sym e ∙ k) l

-- All parts of a node at its place.
pub all_parts : (ts : List Term) (s : Spot) (n : Node) (work back text tag : Text) (c b d r : Tally) (p q : ℕ) → p ≡ before_iri s → q ≡ behind_iri s → b ≡ count_before ts s c
    → d ≡ count_node ts p n work back text tag b → r ≡ count_behind ts p q n work back d → r ≡ count_place ts s n work back text tag c
unfolding count_place
all_parts ts s n work back text tag c b d r p q e f g h k = k ∙ rw (h, g, e, f)

-- ---- Room

module _ (room : Room) (n : ℕ) (c : Tally) (a b d : ℕ) where
  pub no_rows : a ≡ room.rows → a < n → 14 ≡ refusal_of room n c
  unfolding refusal_of
  no_rows e h = rw (lt-ltb room.rows n (omega arith))

  pub no_terms : a ≡ room.rows → n ≤ a → b ≡ room.terms → b < c.terms → 15 ≡ refusal_of room n c
  unfolding refusal_of
  no_terms e h f g = rw (le-ltb room.rows n (omega arith), lt-ltb room.terms c.terms (omega arith))

  pub no_bytes : a ≡ room.rows → n ≤ a → b ≡ room.terms → c.terms ≤ b → d ≡ room.store → d < c.bytes → 16 ≡ refusal_of room n c
  unfolding refusal_of
  no_bytes e h f g k l = rw (le-ltb room.rows n (omega arith), le-ltb room.terms c.terms (omega arith), lt-ltb room.store c.bytes (omega arith))

  pub enough : a ≡ room.rows → n ≤ a → b ≡ room.terms → c.terms ≤ b → d ≡ room.store → c.bytes ≤ d → 0 ≡ refusal_of room n c
  unfolding refusal_of
  enough e h f g k l = rw (le-ltb room.rows n (omega arith), le-ltb room.terms c.terms (omega arith), le-ltb room.store c.bytes (omega arith))

-- At most two rows.
pub few_rows : (s : Spot) → (before_rows s ≤ 1) × (behind_rows s ≤ 1)
unfolding before_rows behind_rows
few_rows s = (
  by s.list (λ e. rw e (cell_rows_few (spot_place s) (cells_of s.last))) (λ e. rw e (omega arith)),
  by s.list (λ e. rw e (omega arith)) (λ e. rw e (place_rows_few (spot_place s))),
)

pub few_end_rows : (s : Spot) → close_rows s ≤ 1
unfolding close_rows
few_end_rows s = cell_rows_few (spot_place s) (cells_of s.last)
