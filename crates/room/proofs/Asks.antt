-- What a write asks for.
use mathlib.Core.Path.{◌≡◌, refl, sym, ap, ◌∙◌}
use mathlib.Core.List.{List, [], ◌∷◌, ◌++◌}
use mathlib.Core.Bool.{Bool, true, false}
use mathlib.Core.Option.{Option, none, some}
use Prim.Native.Nat.{ℕ, ◌+◌}
use native.Mathlib.Omega.{arith}
use lib.Dec.{eqb}
use lib.ListN.{length, length-append}
use Rattle.text.specs.Text.{Text, cond}
use Rattle.spelling.specs.Form.{undo}
use Rattle.dataset.specs.Terms.{Term, iri, blank, literal, tagged, label, bracket, cell, rdf_first, rdf_rest, rdf_nil}
use Rattle.table.specs.Tables.{number}
use Rattle.machine.specs.Memory.{Memory, Write, return, ◌>>=◌, done, term_by, term, new_term, row}
use Rattle.machine.specs.Frame.{Place, top, subject_before, object_of, element_of, Cells, no_cell, cells}
use Rattle.machine.specs.Rules.{hold, new_cell, end_list}
use Rattle.state.specs.declared.Spot.{Spot}
use Rattle.state.specs.declared.Node.{Node}
use Rattle.state.specs.Writes.{cells_of, node_iri, node_write, begin, placed, opened_at, closed}
use Rattle.room.specs.Asks.{Ask, fresh, shared, with_by, asked, supplied, supply, place_iri, place_rows, cell_iri, cell_rows, end_iri, last_iri, spot_place, before_rows, before_node, behind_iri, behind_rows, for_node, to_place, to_close, close_rows}

pub asked_append : (ts : List Term) (xs ys : List Ask) → asked ts (xs ++ ys) ≡ asked (asked ts xs) ys
unfolding asked
asked_append ts [] ys = refl
asked_append ts (fresh t ∷ xs) ys = asked_append (ts ++ t ∷ []) xs ys
asked_append ts (shared t ∷ xs) ys = asked_append (with_by (number t ts) t ts) xs ys

-- The write asks for these terms and makes so many rows.
pub record Asks {A : Type 0} (w : Write A) (asks : List Ask) (n : ℕ) : Type 0 where
  pub terms : (m : Memory) → (w m).1.terms ≡ asked m.terms asks
  pub rows : (m : Memory) → length (w m).1.rows ≡ length m.rows + n

nothing : {A : Type 0} (a : A) → Asks (return a) [] 0
unfolding asked
nothing a = record { terms = λ m. refl; rows = λ m. omega arith }

after : {A B : Type 0} (w : Write A) (f : A → Write B) (xs ys : List Ask) (n k : ℕ) → Asks w xs n → ((a : A) → Asks (f a) ys k) → Asks (w >>= f) (xs ++ ys) (n + k)
after w f xs ys n k W F = record {
  terms = λ m. (F (w m).0).terms (w m).1 ∙ (ap (λ ts. asked ts ys) (W.terms m) ∙ sym (asked_append m.terms xs ys));
  rows = λ m. omega (arith, (F (w m).0).rows (w m).1, W.rows m);
}

by_terms : (o : Option ℕ) (t : Term) (m : Memory) → (term_by o t m).1.terms ≡ with_by o t m.terms
by_terms none t m = refl
by_terms (some n) t m = refl

by_rows : (o : Option ℕ) (t : Term) (m : Memory) → (term_by o t m).1.rows ≡ m.rows
by_rows none t m = refl
by_rows (some n) t m = refl

one_term : (t : Term) → Asks (term t) (shared t ∷ []) 0
unfolding asked
one_term t = record { terms = λ m. by_terms (number t m.terms) t m; rows = λ m. omega (arith, ap length (by_rows (number t m.terms) t m)) }

one_new : (t : Term) → Asks (new_term t) (fresh t ∷ []) 0
unfolding asked
one_new t = record { terms = λ m. refl; rows = λ m. omega arith }

one_row : (s p o at : ℕ) → Asks (row s p o at) [] 1
unfolding asked
one_row s p o at = record { terms = λ m. refl; rows = λ m. length-append m.rows (record { graph = m.graph; subject = s; predicate = p; object = o; position = at } ∷ []) }

rest_asks : Asks (term (iri rdf_rest)) (supply 2) 0
unfolding supply supplied
rest_asks = one_term (iri rdf_rest)

nil_asks : Asks (term (iri rdf_nil)) (supply 3) 0
unfolding supply supplied
nil_asks = one_term (iri rdf_nil)

-- The same write with another result, and with its rows counted otherwise.
mapped : {A B : Type 0} (f : A → B) {w : Write A} {xs : List Ask} {n : ℕ} → Asks w xs n → Asks (w >>= (λ a. return (f a))) xs n
mapped f W = record { terms = W.terms; rows = W.rows }

counted_as : {A : Type 0} {w : Write A} {xs : List Ask} (n k : ℕ) → n ≡ k → Asks w xs n → Asks w xs k
counted_as n k e W = record { terms = W.terms; rows = λ m. omega (arith, W.rows m) }

-- ---- Rows of lists

hold_asks : (p : Place) (n at : ℕ) → Asks (hold p n at) (supply (place_iri p)) (place_rows p)
unfolding supply supplied
hold_asks top n at = nothing done
hold_asks (subject_before e) n at = nothing done
hold_asks (object_of s p) n at = one_row s p n at
hold_asks (element_of c) n at = after (term (iri rdf_first)) (λ first. row c first n at) (shared (iri rdf_first) ∷ []) [] 0 1 (one_term (iri rdf_first)) (λ first. one_row c first n at)

rest_row : (last c at : ℕ) → Asks (term (iri rdf_rest) >>= (λ rest. row last rest c at)) (supply 2) 1
unfolding supply supplied
rest_row last c at = after (term (iri rdf_rest)) (λ rest. row last rest c at) (shared (iri rdf_rest) ∷ []) [] 0 1 (one_term (iri rdf_rest)) (λ rest. one_row last rest c at)

new_cell_asks : (p : Place) (opened : ℕ) (cs : Cells) (at : ℕ) → Asks (new_cell p opened cs at) (fresh (blank (cell at)) ∷ supply (cell_iri p cs)) (cell_rows p cs)
new_cell_asks p opened no_cell at =
    counted_as (0 + place_rows p) (place_rows p) (omega arith)
    (after (new_term (blank (cell at))) (λ c m. (c, (hold p c opened m).1)) (fresh (blank (cell at)) ∷ []) (supply (place_iri p)) 0 (place_rows p)
    (one_new (blank (cell at))) (λ c. mapped (λ _. c) (hold_asks p c opened)))
new_cell_asks p opened (cells head last) at =
    after (new_term (blank (cell at))) (λ c m. (let r = term (iri rdf_rest) m in (c, (row last r.0 c at r.1).1))) (fresh (blank (cell at)) ∷ []) (supply 2) 0 1
    (one_new (blank (cell at)))
    (λ c. mapped (λ _. c) (rest_row last c at))

nil_row : (last at : ℕ) → Asks (term (iri rdf_rest)) (supply 2) 0 → Asks (term (iri rdf_nil)) (supply 3) 0
    → Asks (term (iri rdf_rest) >>= (λ rest. term (iri rdf_nil) >>= (λ nil. row last rest nil at))) (supply 2 ++ supply 3) 1
unfolding supply
nil_row last at R N =
    after (term (iri rdf_rest)) (λ rest. term (iri rdf_nil) >>= (λ nil. row last rest nil at)) (supply 2) (supply 3) 0 1 R
    (λ rest. after (term (iri rdf_nil)) (λ nil. row last rest nil at) (supply 3) [] 0 1 N (λ nil. one_row last rest nil at))

end_list_asks : (p : Place) (opened : ℕ) (cs : Cells) (at : ℕ) → Asks (end_list p opened cs at) (supply (end_iri cs) ++ supply (last_iri p cs)) (cell_rows p cs)
end_list_asks p opened no_cell at =
    counted_as (0 + place_rows p) (place_rows p) (omega arith)
    (after (term (iri rdf_nil)) (λ c m. (c, (hold p c opened m).1)) (supply 3) (supply (place_iri p)) 0 (place_rows p) nil_asks (λ c. mapped (λ _. c) (hold_asks p c opened)))
end_list_asks p opened (cells head last) at = mapped (λ _. head) (nil_row last at rest_asks nil_asks)

-- ---- A token's writes

cond_asks : {A : Type 0} (b : Bool) {w v : Write A} {xs ys : List Ask} {n : ℕ} → Asks w xs n → Asks v ys n → Asks (cond b w v) (cond b xs ys) n
cond_asks true W X = W
cond_asks false W X = X

node_asks : (n : Node) (work back text tag : Text) (at : ℕ) → Asks (node_write n work back text tag at) (for_node n work back text tag at) 0
unfolding node_write for_node
node_asks n work back text tag at =
    cond_asks (eqb n.kind 1) (one_term (iri (node_iri n work back)))
    (cond_asks (eqb n.kind 2) (one_term (blank (label text)))
    (cond_asks (eqb n.kind 3) (after (term (iri (node_iri n work back))) (λ _. term (literal (undo n.text text) (node_iri n work back))) (shared (iri (node_iri n work back)) ∷ []) (shared (literal (undo n.text text) (node_iri n work back)) ∷ []) 0 0
    (one_term (iri (node_iri n work back))) (λ _. one_term (literal (undo n.text text) (node_iri n work back))))
    (cond_asks (eqb n.kind 4) (one_term (tagged (undo n.text text) tag))
    (one_new (blank (bracket at))))))

module _ (s : Spot) where
  abbrev cell_write : Write ℕ
  cell_write = new_cell (spot_place s) s.opened (cells_of s.last) s.at

  cell_asks : Asks cell_write (fresh (blank (cell s.at)) ∷ supply (cell_iri (spot_place s) (cells_of s.last))) (cell_rows (spot_place s) (cells_of s.last))
  cell_asks = new_cell_asks (spot_place s) s.opened (cells_of s.last) s.at

  opened_by : (b : Bool)
      → Asks {A = ℕ} (cond b (cell_write >>= (λ c. return (element_of c))) (return (spot_place s)) >>= (λ p. return 0))
      (cond b (fresh (blank (cell s.at)) ∷ supply (cell_iri (spot_place s) (cells_of s.last))) []) (cond b (cell_rows (spot_place s) (cells_of s.last)) 0)
  opened_by true = mapped (λ _. 0) cell_asks
  opened_by false = nothing 0

  pub opened_asks : Asks (opened_at s) (before_node s) (before_rows s)
  unfolding opened_at begin before_node before_rows
  opened_asks = opened_by s.list

  pub closed_asks : Asks (closed s) (to_close s) (close_rows s)
  unfolding closed to_close close_rows
  closed_asks = end_list_asks (spot_place s) s.opened (cells_of s.last) s.at

  module _ (w : Write ℕ) (xs : List Ask) (W : Asks w xs 0) where
    node_held : (p : Place) → Asks (w >>= (λ n. hold p n s.at >>= (λ _. return n))) (xs ++ supply (place_iri p)) (place_rows p)
    node_held p =
        counted_as (0 + place_rows p) (place_rows p) (omega arith)
        (after w (λ n. hold p n s.at >>= (λ _. return n)) xs (supply (place_iri p)) 0 (place_rows p) W (λ n. mapped (λ _. n) (hold_asks p n s.at)))

    placed_by : (b : Bool)
        → Asks (cond b (cell_write >>= (λ c. return (element_of c))) (return (spot_place s)) >>= (λ p. w >>= (λ n. hold p n s.at >>= (λ _. return n))))
        (cond b (fresh (blank (cell s.at)) ∷ supply (cell_iri (spot_place s) (cells_of s.last))) [] ++ (xs ++ supply (cond b 1 (place_iri (spot_place s)))))
        (cond b (cell_rows (spot_place s) (cells_of s.last)) 0 + cond b 1 (place_rows (spot_place s)))
    placed_by true =
        after cell_write (λ c. w >>= (λ n. hold (element_of c) n s.at >>= (λ _. return n)))
        (fresh (blank (cell s.at)) ∷ supply (cell_iri (spot_place s) (cells_of s.last))) (xs ++ supply 1) (cell_rows (spot_place s) (cells_of s.last)) 1 cell_asks (λ c. node_held (element_of c))
    placed_by false = counted_as (place_rows (spot_place s)) (0 + place_rows (spot_place s)) (omega arith) (node_held (spot_place s))

pub placed_asks : (s : Spot) (n : Node) (work back text tag : Text)
    → Asks (placed s (node_write n work back text tag s.at)) (to_place s n work back text tag) (before_rows s + behind_rows s)
unfolding placed begin to_place before_node before_rows behind_iri behind_rows
placed_asks s n work back text tag =
    placed_by s (node_write n work back text tag s.at) (for_node n work back text tag s.at) (node_asks n work back text tag s.at) s.list
