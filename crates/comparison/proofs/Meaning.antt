-- What the tests say, in the request's words: what the pairing carries to what, which pairings are legal, and that these carry to one at most.
use mathlib.Core.Path.{◌≡◌, refl, sym, ap, ◌∙◌, subst}
use mathlib.Core.Bool.{Bool, true, not, ◌&&◌}
use mathlib.Core.List.{List}
use mathlib.Core.Option.{Option, none, some}
use Prim.Native.Nat.{ℕ, zero, suc, ◌+◌, ◌*◌, ◌<◌}
use native.Mathlib.Nat.{zero-add, add-zero, suc-add, add-suc}
use native.Mathlib.Omega.{arith}
use borrow.Author.Tests.{eq-eqb, eqb-true, ltb-true, ltb-false, not-true}
use lib.Dec.{eqb, ltb}
use lib.ListN.{length}
use Rattle.text.specs.Text.{Text}
use Rattle.text.proofs.Compare.{by, contrary, and_left, and_right}
use Rattle.dataset.specs.Terms.{numbered, Term, iri, blank, literal, tagged, Quad}
use Rattle.table.specs.Layout.{Slices, row_at, iri_kind, blank_kind, literal_kind}
use Rattle.table.specs.Tables.{same_term}
use Rattle.table.specs.Usable.{each, the, text, tag, has_kind, term, graph}
use Rattle.table.proofs.Numbers.{same_term_eq}
use Rattle.table.proofs.Finding.{same_term_refl}
use Rattle.usable.proofs.Facts.{each_at}
use Rattle.comparison.specs.Comparison.{any, pairs, left_of, right_of, paired, node, alike_by, alike, alike_graph, carries, statement, has_node, known, once, legal}
use Rattle.comparison.proofs.Any.{any_none, any_one, any_found}
use Rattle.comparison.proofs.Alike.{quad_turned, Single, node_numbered, four, of_four, quad_single}

-- ---- The pairing

-- Some pair has this left and this right number.
pub record Paired (p : List ℕ) (m n : ℕ) : Type 0 where
  pub at : ℕ
  pub below : at < pairs p
  pub left : left_of p at ≡ m
  pub right : right_of p at ≡ n

module _ (p : List ℕ) (m n : ℕ) where
  abbrev pair : ℕ → Bool
  pair i = eqb (left_of p i) m && eqb (right_of p i) n

  pub is_paired : paired p m n ≡ true → Paired p m n
  unfolding paired
  is_paired e =
      let f = any_found pair (pairs p) e in
      record {
        at = f.at;
        below = f.below;
        left = eqb-true (left_of p f.at) m (and_left (eqb (left_of p f.at) m) (eqb (right_of p f.at) n) f.passes);
        right = eqb-true (right_of p f.at) n (and_right (eqb (left_of p f.at) m) (eqb (right_of p f.at) n) f.passes);
      }

  pub paired_is : Paired p m n → paired p m n ≡ true
  unfolding paired
  paired_is f = any_one pair (pairs p) f.at f.below (rw (eq-eqb (left_of p f.at) m f.left, eq-eqb (right_of p f.at) n f.right))

-- ---- "the pairing carries one to the other"

-- IRIs by text, literals by text and datatype, tagged ones by text and tag, blank nodes by the pairing alone.
pub data Carried (p : List ℕ) : Term → Term → Type 0 where
  iris : (s : Text) → Carried p (iri s) (iri s)
  literals : (s datatype : Text) → Carried p (literal s datatype) (literal s datatype)
  tags : (s t : Text) → Carried p (tagged s t) (tagged s t)
  nodes : (m n : ℕ) → Paired p m n → Carried p (blank (numbered m)) (blank (numbered n))

module _ (p : List ℕ) where
  -- A term of a table that is no blank node is carried to itself.
  to_itself : (s : Slices) (n : ℕ) → node (term s n) ≡ none → Carried p (term s n) (term s n)
  to_itself s n =
      by (has_kind s iri_kind n) (λ a. rw a (λ e. iris (text s n)))
      (λ a. by (has_kind s blank_kind n) (λ b. rw (a, b) (λ e. absurd (let z : ◌≡◌ {A = ℕ} 0 1 = cc in omega arith)))
      (λ b. by (has_kind s literal_kind n) (λ c. rw (a, b, c) (λ e. literals (text s n) (text s (the s n).fourth))) (λ c. rw (a, b, c) (λ e. tags (text s n) (tag s n)))))

  pub alike_carried : (l r : Slices) (m n : ℕ) → alike (paired p) (term l m) (term r n) ≡ true → Carried p (term l m) (term r n)
  unfolding alike
  alike_carried l r m n = by_node (node (term l m)) (node (term r n)) refl refl
    where
      by_node : (a b : Option ℕ) → node (term l m) ≡ a → node (term r n) ≡ b → alike_by (paired p) (same_term (term l m) (term r n)) a b ≡ true → Carried p (term l m) (term r n)
      by_node none none x y e = rw (← same_term_eq (term l m) (term r n) (rw e tt)) (to_itself l m x)
      by_node none (some k) x y e = contrary (sym e)
      by_node (some j) none x y e = contrary (sym e)
      by_node (some j) (some k) x y e = rw (node_numbered (term l m) j x, node_numbered (term r n) k y) (nodes j k (is_paired p j k e))

  pub carried_alike : (t u : Term) → Carried p t u → alike (paired p) t u ≡ true
  unfolding alike
  carried_alike t u (iris s) = same_term_refl (iri s)
  carried_alike t u (literals s d) = same_term_refl (literal s d)
  carried_alike t u (tags s g) = same_term_refl (tagged s g)
  carried_alike t u (nodes m n h) = paired_is p m n h

-- Graphs: the default graph is carried to itself alone.
pub data Labelled (p : List ℕ) : Option Term → Option Term → Type 0 where
  default : Labelled p none none
  labels : (t u : Term) → Carried p t u → Labelled p (some t) (some u)

pub record Stated (p : List ℕ) (q r : Quad) : Type 0 where
  pub graph : Labelled p q.graph r.graph
  pub subject : Carried p q.triple.subject r.triple.subject
  pub predicate : Carried p q.triple.predicate r.triple.predicate
  pub object : Carried p q.triple.object r.triple.object

module _ (p : List ℕ) where
  alike_labelled : (l r : Slices) (m n : ℕ) → alike_graph (paired p) (graph l m) (graph r n) ≡ true → Labelled p (graph l m) (graph r n)
  unfolding alike_graph
  alike_labelled l r zero zero e = default
  alike_labelled l r zero (suc n) e = contrary (sym e)
  alike_labelled l r (suc m) zero e = contrary (sym e)
  alike_labelled l r (suc m) (suc n) e = labels (term l (suc m)) (term r (suc n)) (alike_carried p l r (suc m) (suc n) e)

  labelled_alike : (g h : Option Term) → Labelled p g h → alike_graph (paired p) g h ≡ true
  unfolding alike_graph
  labelled_alike g h default = refl
  labelled_alike g h (labels t u c) = carried_alike p t u c

  -- What the test says of statements of two tables.
  pub carries_stated : (l r : Slices) (i j : ℕ) → carries p (statement l i) (statement r j) ≡ true → Stated p (statement l i) (statement r j)
  carries_stated l r i j e =
      let h = four (paired p) (statement l i) (statement r j) e in
      let a = row_at l.rows i in
      let b = row_at r.rows j in
      record {
        graph = alike_labelled l r a.graph b.graph h.graph;
        subject = alike_carried p l r a.subject b.subject h.subject;
        predicate = alike_carried p l r a.predicate b.predicate h.predicate;
        object = alike_carried p l r a.object b.object h.object;
      }

  pub stated_carries : (q r : Quad) → Stated p q r → carries p q r ≡ true
  stated_carries q r h =
      of_four (paired p) q r
      (record {
        graph = labelled_alike q.graph r.graph h.graph;
        subject = carried_alike p q.triple.subject r.triple.subject h.subject;
        predicate = carried_alike p q.triple.predicate r.triple.predicate h.predicate;
        object = carried_alike p q.triple.object r.triple.object h.object;
      })

-- ---- Not: "an odd word, a blank number missing from its table or paired twice"

-- A term of the table, up to its count, is the blank node of this number. Terms are numbered from 1.
pub record Node (s : Slices) (n : ℕ) : Type 0 where
  pub at : ℕ
  pub below : at < s.term_count
  pub kind : (the s (suc at)).kind ≡ blank_kind
  pub number : (the s (suc at)).fourth ≡ n

-- No number stands twice.
abbrev pub Once : (ℕ → ℕ) → ℕ → Type 0
Once of n = (i j : ℕ) → i < n → j < n → of i ≡ of j → i ≡ j

pub record Legal (l r : Slices) (p : List ℕ) : Type 0 where
  pub even : 2 * pairs p ≡ length p
  pub left_there : (i : ℕ) → i < pairs p → Node l (left_of p i)
  pub right_there : (i : ℕ) → i < pairs p → Node r (right_of p i)
  pub left_once : Once (left_of p) (pairs p)
  pub right_once : Once (right_of p) (pairs p)

module _ (p : ℕ → Bool) where
  each_below : (n : ℕ) → each p 0 n ≡ true → (i : ℕ) → i < n → p i ≡ true
  each_below n e i h = rw (zero-add i) at (each_at p 0 n e i h)

  each_from : (from n : ℕ) → ((i : ℕ) → i < n → p (from + i) ≡ true) → each p from n ≡ true
  unfolding each
  each_from from zero f = refl
  each_from from (suc n) f =
      let now : p from ≡ true = rw (add-zero from) at (f 0 (omega arith)) in
      rw (now, each_from (suc from) n (λ i h. subst (λ (m : ℕ). p m ≡ true) (add-suc from i ∙ sym (suc-add from i)) (f (suc i) (omega arith))))

  below_each : (n : ℕ) → ((i : ℕ) → i < n → p i ≡ true) → each p 0 n ≡ true
  below_each n f = each_from 0 n (λ i h. rw (zero-add i) (f i h))

module _ (s : Slices) where
  has_there : (n : ℕ) → has_node s n ≡ true → Node s n
  unfolding has_node
  has_there n e =
      let f = any_found (λ k. has_kind s blank_kind (suc k) && eqb (the s (suc k)).fourth n) s.term_count e in
      let k = the s (suc f.at) in
      record {
        at = f.at;
        below = f.below;
        kind = eqb-true k.kind blank_kind (and_left (eqb k.kind blank_kind) (eqb k.fourth n) f.passes);
        number = eqb-true k.fourth n (and_right (eqb k.kind blank_kind) (eqb k.fourth n) f.passes);
      }

  there_has : (n : ℕ) → Node s n → has_node s n ≡ true
  unfolding has_node
  there_has n h =
      any_one (λ k. has_kind s blank_kind (suc k) && eqb (the s (suc k)).fourth n) s.term_count h.at h.below
      (rw (eq-eqb (the s (suc h.at)).kind blank_kind h.kind, eq-eqb (the s (suc h.at)).fourth n h.number))

  known_there : (of : ℕ → ℕ) (n : ℕ) → known s of n ≡ true → (i : ℕ) → i < n → Node s (of i)
  unfolding known
  known_there of n e i h = has_there (of i) (each_below (λ i. has_node s (of i)) n e i h)

  there_known : (of : ℕ → ℕ) (n : ℕ) → ((i : ℕ) → i < n → Node s (of i)) → known s of n ≡ true
  unfolding known
  there_known of n f = below_each (λ i. has_node s (of i)) n (λ i h. there_has (of i) (f i h))

module _ (of : ℕ → ℕ) (n : ℕ) where
  abbrev before : ℕ → ℕ → Bool
  before i j = eqb (of j) (of i)

  is_once : once of n ≡ true → Once of n
  unfolding once
  is_once e i j h k q =
      by (ltb i j) (λ t. absurd (apart j i k (ltb-true i j t) q))
      (λ t. by (ltb j i) (λ u. absurd (apart i j h (ltb-true j i u) (sym q))) (λ u. let a = ltb-false i j t in let b = ltb-false j i u in omega arith))
    where
      apart : (i j : ℕ) → i < n → j < i → of j ≡ of i → ⊥
      apart i j h k q =
          contrary (sym (eq-eqb (of j) (of i) q) ∙ any_none (before i) i (not-true (any (before i) i) (each_below (λ i. not (any (before i) i)) n e i h)) j k)

  once_is : Once of n → once of n ≡ true
  unfolding once
  once_is o =
      below_each (λ i. not (any (before i) i)) n
      (λ i h. by (any (before i) i)
      (λ t.
      let f = any_found (before i) i t in
      let b = f.below in
      absurd (let z = o f.at i (omega arith) h (eqb-true (of f.at) (of i) f.passes) in omega arith))
      (λ t. rw t))

module _ (l r : Slices) (p : List ℕ) where
  pub is_legal : legal l r p ≡ true → Legal l r p
  unfolding legal
  is_legal e =
      let n = pairs p in
      let even = eqb (2 * n) (length p) in
      let a = once (left_of p) n in
      let b = once (right_of p) n in
      let c = known l (left_of p) n in
      let d = known r (right_of p) n in
      let first = and_left (even && (a && b)) (c && d) e in
      let onces = and_right even (a && b) first in
      let knowns = and_right (even && (a && b)) (c && d) e in
      record {
        even = eqb-true (2 * n) (length p) (and_left even (a && b) first);
        left_there = known_there l (left_of p) n (and_left c d knowns);
        right_there = known_there r (right_of p) n (and_right c d knowns);
        left_once = is_once (left_of p) n (and_left a b onces);
        right_once = is_once (right_of p) n (and_right a b onces);
      }

  pub legal_is : Legal l r p → legal l r p ≡ true
  unfolding legal
  legal_is g =
      let n = pairs p in
      rw (
        eq-eqb (2 * n) (length p) g.even,
        once_is (left_of p) n g.left_once,
        once_is (right_of p) n g.right_once,
        there_known l (left_of p) n g.left_there,
        there_known r (right_of p) n g.right_there,
      )

-- ---- A legal pairing carries a statement to one at most, and one at most to it

module _ (l r : Slices) (p : List ℕ) (g : Legal l r p) (q s t : Quad) where
  pub carried_once : carries p q s ≡ true → carries p q t ≡ true → s ≡ t
  carried_once = quad_single (paired p) right_single q s t
    where
      right_single : Single (paired p)
      right_single m n k d e =
          let a = is_paired p m n d in
          let b = is_paired p m k e in
          let z = g.left_once a.at b.at a.below b.below (a.left ∙ sym b.left) in
          sym a.right ∙ ap (right_of p) z ∙ b.right

  pub carrier_once : carries p s q ≡ true → carries p t q ≡ true → s ≡ t
  carrier_once d e = quad_single (λ m n. paired p n m) left_single q s t (sym (quad_turned (paired p) s q) ∙ d) (sym (quad_turned (paired p) t q) ∙ e)
    where
      left_single : Single (λ m n. paired p n m)
      left_single m n k d e =
          let a = is_paired p n m d in
          let b = is_paired p k m e in
          let z = g.right_once a.at b.at a.below b.below (a.right ∙ sym b.right) in
          sym a.left ∙ ap (left_of p) z ∙ b.left
