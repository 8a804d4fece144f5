-- What is counted is what is asked for.
use mathlib.Core.Path.{◌≡◌, refl, sym, ap, subst, ◌∙◌}
use mathlib.Core.List.{List, [], ◌∷◌, ◌++◌}
use mathlib.Core.Bool.{Bool, true, false}
use mathlib.Core.Option.{Option, none, some}
use Prim.Native.Nat.{ℕ, zero, suc, ◌+◌, ◌≤◌}
use native.Mathlib.Omega.{arith}
use lib.Dec.{eqb}
use lib.ListN.{length, length-append}
use borrow.Author.Tests.{eqb-true, ne_eqb}
use Rattle.text.specs.Text.{Text, cond, same_text, is_none}
use Rattle.text.proofs.Compare.{by, contrary, same_eq, same_refl}
use Rattle.spelling.specs.Form.{undo}
use Rattle.dataset.specs.Terms.{Term, iri, blank, literal, tagged, label, cell, bracket}
use Rattle.table.specs.Tables.{same_blank, same_term, number, or_zero, term_bytes, store_size}
use Rattle.table.proofs.Finding.{number_positive}
use Rattle.table.proofs.Store.{last_size}
use Rattle.machine.specs.Frame.{Place, top, subject_before, object_of, element_of, Cells, no_cell, cells}
use Rattle.state.specs.declared.Spot.{Spot}
use Rattle.state.specs.declared.Node.{Node}
use Rattle.state.specs.Writes.{cells_of, node_iri}
use Rattle.room.specs.declared.Tally.{Tally}
use Rattle.room.specs.Asks.{Ask, fresh, shared, with_term, asked, supplied, supply, place_iri, cell_iri, end_iri, last_iri, spot_place, before_iri, before_node, behind_iri, for_node, to_place, to_close}
use Rattle.room.specs.Counting.{tally, more, count_term, count_supply, is_supplied, count_iri, count_node, has_iri, asks_first, count_behind, count_before, count_place, count_close}
use Rattle.room.proofs.Asks.{asked_append}
use Rattle.room.proofs.Among.{Same, Has, none_of, same_more, same_with, with_has, has_itself, asked_has}

-- The tally of these terms.
pub record Counted (c : Tally) (us : List Term) : Type 0 where
  pub terms : c.terms ≡ length us
  pub bytes : c.bytes ≡ store_size us

counted_more : (c : Tally) (us : List Term) (t : Term) → Counted c us → Counted (tally (c.terms + 1) (c.bytes + length (term_bytes t))) (us ++ t ∷ [])
counted_more c us t C = record { terms = omega (arith, length-append us (t ∷ []), C.terms); bytes = omega (arith, last_size us t, C.bytes) }

-- A blank node that is new.
pub counted_fresh : (c : Tally) (us : List Term) (t : Term) → length (term_bytes t) ≡ 0 → Counted c us → Counted (more c 0 0) (us ++ t ∷ [])
unfolding more
counted_fresh c us t z C = let D = counted_more c us t C in record { terms = D.terms; bytes = omega (arith, D.bytes) }

-- A term that is shared.
module _ (ts us : List Term) (t : Term) (S : Same ts us t) (c : Tally) (C : Counted c us) where
  counted_by : (o : Option ℕ) → number t ts ≡ o → Counted (more c (or_zero o) (length (term_bytes t))) (with_term t us)
  unfolding more
  counted_by none e = rw (none_of (number t us) (S ∙ ap is_none e)) (counted_more c us t C)
  counted_by (some n) e = rw (with_has us t (S ∙ ap is_none e), ne_eqb n 0 (λ z. omega (arith, number_positive t ts n e))) C

  pub counted_term : Counted (count_term ts t c) (with_term t us)
  unfolding count_term
  counted_term = counted_by (number t ts) refl

-- ---- The IRIs that lists supply

not_cell : (x : Text) (at : ℕ) → same_term (iri x) (blank (cell at)) ≡ false
unfolding same_term
not_cell x at = refl

first_rest : same_term (iri (supplied 1)) (iri (supplied 2)) ≡ false
unfolding same_term same_text supplied
first_rest = refl

first_nil : same_term (iri (supplied 1)) (iri (supplied 3)) ≡ false
unfolding same_term same_text supplied
first_nil = refl

nil_rest : same_term (iri (supplied 3)) (iri (supplied 2)) ≡ false
unfolding same_term same_text supplied
nil_rest = refl

-- A supplied IRI among the terms us, where it may be none.
module _ (p : ℕ) (ts us : List Term) where
  asked_supply : eqb p 0 ≡ false → asked us (supply p) ≡ with_term (iri (supplied p)) us
  unfolding asked supply
  asked_supply e = rw e

  asked_none : eqb p 0 ≡ true → asked us (supply p) ≡ us
  unfolding asked supply
  asked_none e = rw e

  pub supply_counted : (c : Tally) → Counted c us → (eqb p 0 ≡ false → Same ts us (iri (supplied p))) → Counted (count_supply ts p c) (asked us (supply p))
  unfolding count_supply
  supply_counted c C S =
      by (eqb p 0) (λ e. rw (asked_none e, e) C) (λ e. rw (asked_supply e, e) (counted_term ts us (iri (supplied p)) (S e) c C))

  pub supply_same : (t : Term) → Same ts us t → (eqb p 0 ≡ false → same_term t (iri (supplied p)) ≡ false) → Same ts (asked us (supply p)) t
  supply_same t S f = by (eqb p 0) (λ e. rw (asked_none e) S) (λ e. rw (asked_supply e) (same_with ts us t (iri (supplied p)) S (f e)))

  pub supply_has : eqb p 0 ≡ false → Has (asked us (supply p)) (iri (supplied p))
  supply_has e = rw (asked_supply e) (has_itself us (iri (supplied p)))

-- The IRI x is the supplied one, or another.
supplied_is : (p : ℕ) (x : Text) → p ≤ 2 → is_supplied p x ≡ true → (eqb p 0 ≡ false) × (x ≡ supplied p)
unfolding is_supplied
supplied_is zero x h e = contrary (sym e)
supplied_is (suc zero) x h e = (refl, same_eq x (supplied 1) e)
supplied_is (suc (suc zero)) x h e = (refl, same_eq x (supplied 2) e)
supplied_is (suc (suc (suc p))) x h e = absurd (omega arith)

supplied_other : (p : ℕ) (x : Text) → p ≤ 2 → is_supplied p x ≡ false → eqb p 0 ≡ false → same_term (iri x) (iri (supplied p)) ≡ false
unfolding is_supplied same_term
supplied_other zero x h e n = contrary n
supplied_other (suc zero) x h e n = e
supplied_other (suc (suc zero)) x h e n = e
supplied_other (suc (suc (suc p))) x h e n = absurd (omega arith)

-- ---- The node

-- The terms us are the terms ts, perhaps a cell, and the IRI p if it was supplied.
pub record Begun (ts us : List Term) (p at : ℕ) : Type 0 where
  pub small : p ≤ 2
  pub same : (t : Term) → same_term t (blank (cell at)) ≡ false → (eqb p 0 ≡ false → same_term t (iri (supplied p)) ≡ false) → Same ts us t
  pub has : eqb p 0 ≡ false → Has us (iri (supplied p))

module _ (ts us : List Term) (p at : ℕ) (B : Begun ts us p at) (c : Tally) (C : Counted c us) where
  iri_counted : (x : Text) → Counted (count_iri ts p x c) (with_term (iri x) us)
  unfolding count_iri same_term
  iri_counted x =
      by (is_supplied p x)
      (λ e. let (n, i) = supplied_is p x B.small e in rw (e, with_has us (iri x) (rw i (B.has n))) C)
      (λ e. rw e (counted_term ts us (iri x) (B.same (iri x) refl (supplied_other p x B.small e)) c C))

  label_counted : (s : Text) → Counted (count_term ts (blank (label s)) c) (with_term (blank (label s)) us)
  unfolding same_term same_blank
  label_counted s = counted_term ts us (blank (label s)) (B.same (blank (label s)) refl (λ _. refl)) c C

  tagged_counted : (s g : Text) → Counted (count_term ts (tagged s g) c) (with_term (tagged s g) us)
  unfolding same_term
  tagged_counted s g = counted_term ts us (tagged s g) (B.same (tagged s g) refl (λ _. refl)) c C

  literal_counted : (s d : Text) → Counted (count_term ts (literal s d) (count_iri ts p d c)) (with_term (literal s d) (with_term (iri d) us))
  unfolding same_term
  literal_counted s d =
      counted_term ts (with_term (iri d) us) (literal s d) (same_with ts us (literal s d) (iri d) (B.same (literal s d) refl (λ _. refl)) refl) (count_iri ts p d c) (iri_counted d)

  cond_counted : (b : Bool) (x y : Tally) (xs ys : List Ask) → Counted x (asked us xs) → Counted y (asked us ys) → Counted (cond b x y) (asked us (cond b xs ys))
  cond_counted true x y xs ys X Y = X
  cond_counted false x y xs ys X Y = Y

  pub node_counted : (n : Node) (work back text tag : Text) (a : ℕ) → Counted (count_node ts p n work back text tag c) (asked us (for_node n work back text tag a))
  unfolding count_node for_node asked
  node_counted n work back text tag a =
      cond_counted (eqb n.kind 1) _ _ (shared (iri (node_iri n work back)) ∷ []) _ (iri_counted (node_iri n work back))
      (cond_counted (eqb n.kind 2) _ _ (shared (blank (label text)) ∷ []) _ (label_counted text)
      (cond_counted (eqb n.kind 3) _ _ (shared (iri (node_iri n work back)) ∷ shared (literal (undo n.text text) (node_iri n work back)) ∷ []) _ (literal_counted (undo n.text text) (node_iri n work back))
      (cond_counted (eqb n.kind 4) _ _ (shared (tagged (undo n.text text) tag) ∷ []) (fresh (blank (bracket a)) ∷ []) (tagged_counted (undo n.text text) tag)
      (counted_fresh c us (blank (bracket a)) refl C))))

-- ---- The IRI of the node's row

turned : (s t : Text) → same_text s t ≡ false → same_text t s ≡ false
turned s t e = by (same_text t s) (λ k. contrary (sym (same_refl s) ∙ (ap (same_text s) (sym (same_eq t s k)) ∙ e))) (λ k. k)

-- The node asks for rdf:first, or not.
module _ (ts us : List Term) (n : Node) (work back text tag : Text) (a : ℕ) where
  abbrev after_node : List Term
  after_node = asked us (for_node n work back text tag a)

  abbrev first : Term
  first = iri (supplied 1)

  cond_same : (b : Bool) (xs ys : List Ask) → (b ≡ true → Same ts (asked us xs) first) → (b ≡ false → Same ts (asked us ys) first) → Same ts (asked us (cond b xs ys)) first
  cond_same true xs ys X Y = X refl
  cond_same false xs ys X Y = Y refl

  other_iri : asks_first n work back ≡ false → has_iri n ≡ true → same_term first (iri (node_iri n work back)) ≡ false
  unfolding asks_first same_term is_supplied
  other_iri e h = turned (node_iri n work back) (supplied 1) (rw h at e)

  node_same : Same ts us first → asks_first n work back ≡ false → Same ts after_node first
  unfolding for_node asked same_term has_iri
  node_same S e =
      cond_same (eqb n.kind 1) (shared (iri (node_iri n work back)) ∷ []) _ (λ k. same_with ts us first (iri (node_iri n work back)) S (other_iri e (rw k)))
      (λ o. cond_same (eqb n.kind 2) (shared (blank (label text)) ∷ []) _ (λ _. same_with ts us first (blank (label text)) S refl)
      (λ _. cond_same (eqb n.kind 3) (shared (iri (node_iri n work back)) ∷ shared (literal (undo n.text text) (node_iri n work back)) ∷ []) _
      (λ k. same_with ts (with_term (iri (node_iri n work back)) us) first (literal (undo n.text text) (node_iri n work back))
      (same_with ts us first (iri (node_iri n work back)) S (other_iri e (rw (o, k)))) refl)
      (λ _. cond_same (eqb n.kind 4) (shared (tagged (undo n.text text) tag) ∷ []) (fresh (blank (bracket a)) ∷ []) (λ _. same_with ts us first (tagged (undo n.text text) tag) S refl)
      (λ _. same_more ts us first (blank (bracket a)) S refl))))

  cond_has : (b : Bool) (xs ys : List Ask) → (b ≡ true → Has (asked us xs) first) → (b ≡ false → Has (asked us ys) first) → Has (asked us (cond b xs ys)) first
  cond_has true xs ys X Y = X refl
  cond_has false xs ys X Y = Y refl

  this_iri : asks_first n work back ≡ true → (has_iri n ≡ true) × (node_iri n work back ≡ supplied 1)
  unfolding asks_first
  this_iri e = by (has_iri n) (λ h. (h, (supplied_is 1 (node_iri n work back) (omega arith) (rw h at e)).1)) (λ h. contrary (sym (rw h at e)))

  -- An IRI, or none that it could be.
  node_has : has_iri n ≡ true → node_iri n work back ≡ supplied 1 → Has after_node first
  unfolding for_node asked has_iri
  node_has h i =
      cond_has (eqb n.kind 1) (shared (iri (node_iri n work back)) ∷ []) _ (λ _. rw i (has_itself us first))
      (λ o. cond_has (eqb n.kind 2) (shared (blank (label text)) ∷ []) _ (λ k. absurd (omega (arith, eqb-true n.kind 2 k, eqb-true n.kind 3 (rw o at h))))
      (λ _. cond_has (eqb n.kind 3) (shared (iri (node_iri n work back)) ∷ shared (literal (undo n.text text) (node_iri n work back)) ∷ []) _
      (λ _. rw i (asked_has (with_term first us) first (shared (literal (undo n.text text) (supplied 1)) ∷ []) (has_itself us first)))
      (λ k. contrary (sym (rw o at h) ∙ k))))

  -- The row's IRI q, behind the node, where p was supplied before it.
  pub behind_counted : (p q at : ℕ) → Begun ts us p at → q ≤ 1 → (c : Tally) → Counted c after_node → Counted (count_behind ts p q n work back c) (asked after_node (supply q))
  unfolding count_behind
  behind_counted p zero at B h c C = rw (asked_none 0 ts after_node refl) C
  behind_counted p (suc zero) at B h c C =
      by (eqb p 1)
      (λ e. rw e (already (asked_has us first (for_node n work back text tag a) (subst (λ k. Has us (iri (supplied k))) (eqb-true p 1 e) (B.has (ne_eqb p 0 (λ z. omega (arith, eqb-true p 1 e))))))))
      (λ e. by (asks_first n work back)
      (λ f. rw (e, f) (already (node_has (this_iri f).0 (this_iri f).1)))
      (λ f. rw (e, f) (supply_counted 1 ts after_node c C (λ _. node_same (B.same first first_cell (other p B.small e)) f))))
    where
      already : Has after_node first → Counted c (asked after_node (supply 1))
      already H = subst (Counted c) (sym (asked_supply 1 ts after_node refl ∙ with_has after_node first H)) C

      first_cell : same_term first (blank (cell at)) ≡ false
      first_cell = not_cell (supplied 1) at

      other : (p : ℕ) → p ≤ 2 → eqb p 1 ≡ false → eqb p 0 ≡ false → same_term first (iri (supplied p)) ≡ false
      other zero l e z = contrary z
      other (suc zero) l e z = contrary e
      other (suc (suc zero)) l e z = first_rest
      other (suc (suc (suc p))) l e z = absurd (omega arith)
  behind_counted p (suc (suc q)) at B h c C = absurd (omega arith)

-- ---- All that a token asks for

place_iri_small : (p : Place) → place_iri p ≤ 1
place_iri_small top = omega arith
place_iri_small (subject_before e) = omega arith
place_iri_small (object_of s p) = omega arith
place_iri_small (element_of c) = omega arith

cell_iri_small : (p : Place) (cs : Cells) → cell_iri p cs ≤ 2
cell_iri_small p no_cell = omega (arith, place_iri_small p)
cell_iri_small p (cells h l) = omega arith

module _ (ts : List Term) (s : Spot) (c : Tally) (C : Counted c ts) where
  abbrev cell_node : Term
  cell_node = blank (cell s.at)

  pub record Started (us : List Term) (p : ℕ) (d : Tally) : Type 0 where
    pub begun : Begun ts us p s.at
    pub counted : Counted d us

  started_cell : (p : ℕ) → p ≤ 2 → Started (asked ts (fresh cell_node ∷ supply p)) p (count_supply ts p (more c 0 0))
  unfolding asked
  started_cell p h = record {
    begun = record {
      small = h;
      same = λ t e f. supply_same p ts (ts ++ cell_node ∷ []) t (same_more ts ts t cell_node refl e) f;
      has = supply_has p ts (ts ++ cell_node ∷ []);
    };
    counted = supply_counted p ts (ts ++ cell_node ∷ []) (more c 0 0) (counted_fresh c ts cell_node refl C)
        (λ _. same_more ts ts (iri (supplied p)) cell_node refl (not_cell (supplied p) s.at));
  }

  started_by : (b : Bool) → Started (asked ts (cond b (fresh cell_node ∷ supply (cell_iri (spot_place s) (cells_of s.last))) [])) (cond b (cell_iri (spot_place s) (cells_of s.last)) 0)
      (cond b (count_supply ts (cell_iri (spot_place s) (cells_of s.last)) (more c 0 0)) c)
  unfolding asked
  started_by true = started_cell (cell_iri (spot_place s) (cells_of s.last)) (cell_iri_small (spot_place s) (cells_of s.last))
  started_by false = record { begun = record { small = omega arith; same = λ t e f. refl; has = λ e. contrary e }; counted = C }

  started : Started (asked ts (before_node s)) (before_iri s) (count_before ts s c)
  unfolding before_node before_iri count_before
  started = started_by s.list

  pub opening_counted : Counted (count_before ts s c) (asked ts (before_node s))
  opening_counted = started.counted

  behind_small : behind_iri s ≤ 1
  unfolding behind_iri
  behind_small = by s.list (λ e. rw e (omega arith)) (λ e. rw e (place_iri_small (spot_place s)))

  pub place_counted : (n : Node) (work back text tag : Text) → Counted (count_place ts s n work back text tag c) (asked ts (to_place s n work back text tag))
  unfolding count_place to_place
  place_counted n work back text tag =
      let us = asked ts (before_node s) in
      let p = before_iri s in
      subst (Counted (count_behind ts p (behind_iri s) n work back (count_node ts p n work back text tag (count_before ts s c))))
      (sym (asked_append ts (before_node s) (for_node n work back text tag s.at ++ supply (behind_iri s)) ∙ asked_append us (for_node n work back text tag s.at) (supply (behind_iri s))))
      (behind_counted ts us n work back text tag s.at p (behind_iri s) s.at started.begun behind_small (count_node ts p n work back text tag (count_before ts s c))
      (node_counted ts us p s.at started.begun (count_before ts s c) started.counted n work back text tag s.at))

  -- The two IRIs at the end of a list differ.
  ends_differ : (p : Place) (cs : Cells) → eqb (last_iri p cs) 0 ≡ false → same_term (iri (supplied (last_iri p cs))) (iri (supplied (end_iri cs))) ≡ false
  ends_differ top no_cell e = contrary e
  ends_differ (subject_before f) no_cell e = contrary e
  ends_differ (object_of a b) no_cell e = contrary e
  ends_differ (element_of a) no_cell e = first_nil
  ends_differ p (cells h l) e = nil_rest

  pub close_counted : Counted (count_close ts s c) (asked ts (to_close s))
  unfolding count_close to_close
  close_counted =
      let p = end_iri (cells_of s.last) in
      let q = last_iri (spot_place s) (cells_of s.last) in
      subst (Counted (count_supply ts q (count_supply ts p c))) (sym (asked_append ts (supply p) (supply q)))
      (supply_counted q ts (asked ts (supply p)) (count_supply ts p c) (supply_counted p ts ts c C (λ _. refl))
      (λ e. supply_same p ts ts (iri (supplied q)) refl (λ _. ends_differ (spot_place s) (cells_of s.last) e)))
