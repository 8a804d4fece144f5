-- Statements of two editions that are alike: seen from the other edition, to one at most, and within one edition equal.
use mathlib.Core.Path.{◌≡◌, refl, sym, ap, ap₂, ◌∙◌}
use mathlib.Core.Bool.{Bool, true, ◌&&◌}
use mathlib.Core.Option.{Option, none, some}
use Prim.Native.Nat.{ℕ}
use borrow.Author.Tests.{eq-eqb, eqb-true}
use lib.Dec.{T, eqb}
use Rattle.text.proofs.Booleans.{same_bool}
use Rattle.text.proofs.Compare.{contrary, and_left, and_right}
use Rattle.dataset.specs.Terms.{label, bracket, cell, numbered, Term, iri, blank, literal, tagged, Quad}
use Rattle.table.specs.Tables.{same_term}
use Rattle.table.proofs.Numbers.{same_term_eq}
use Rattle.table.proofs.Finding.{same_term_refl}
use Rattle.comparison.specs.Comparison.{node, alike_by, alike, alike_graph, alike_quad, same}

-- ---- Seen from the other edition

same_turned : (t u : Term) → same_term t u ≡ same_term u t
same_turned t u = same_bool (same_term t u) (same_term u t) (turned t u) (turned u t)
  where
    turned : (x y : Term) → T (same_term x y) → T (same_term y x)
    turned x y h = rw (same_term_eq x y h, same_term_refl y) tt

by_turned : (f : ℕ → ℕ → Bool) (equal : Bool) (a b : Option ℕ) → alike_by f equal a b ≡ alike_by (λ m n. f n m) equal b a
by_turned f equal none none = refl
by_turned f equal none (some n) = refl
by_turned f equal (some m) none = refl
by_turned f equal (some m) (some n) = refl

pub alike_turned : (f : ℕ → ℕ → Bool) (t u : Term) → alike f t u ≡ alike (λ m n. f n m) u t
unfolding alike
alike_turned f t u = rw (same_turned t u) (by_turned f (same_term u t) (node t) (node u))

pub graph_turned : (f : ℕ → ℕ → Bool) (g h : Option Term) → alike_graph f g h ≡ alike_graph (λ m n. f n m) h g
unfolding alike_graph
graph_turned f none none = refl
graph_turned f none (some u) = refl
graph_turned f (some t) none = refl
graph_turned f (some t) (some u) = alike_turned f t u

pub quad_turned : (f : ℕ → ℕ → Bool) (q r : Quad) → alike_quad f q r ≡ alike_quad (λ m n. f n m) r q
unfolding alike_quad
quad_turned f q r =
    ap₂ ◌&&◌
    (ap₂ ◌&&◌ (ap₂ ◌&&◌ (graph_turned f q.graph r.graph) (alike_turned f q.triple.subject r.triple.subject)) (alike_turned f q.triple.predicate r.triple.predicate))
    (alike_turned f q.triple.object r.triple.object)

-- ---- To one at most

-- f takes each number to one at most.
abbrev pub Single : (ℕ → ℕ → Bool) → Type 0
Single f = (m n k : ℕ) → f m n ≡ true → f m k ≡ true → n ≡ k

pub node_numbered : (t : Term) (m : ℕ) → node t ≡ some m → t ≡ blank (numbered m)
node_numbered (iri s) m e = cc
node_numbered (blank (label s)) m e = cc
node_numbered (blank (bracket p)) m e = cc
node_numbered (blank (cell p)) m e = cc
node_numbered (blank (numbered n)) m e = cc
node_numbered (literal s d) m e = cc
node_numbered (tagged s g) m e = cc

-- What is asked of the four parts of two statements.
pub record Four (f : ℕ → ℕ → Bool) (q r : Quad) : Type 0 where
  pub graph : alike_graph f q.graph r.graph ≡ true
  pub subject : alike f q.triple.subject r.triple.subject ≡ true
  pub predicate : alike f q.triple.predicate r.triple.predicate ≡ true
  pub object : alike f q.triple.object r.triple.object ≡ true

pub four : (f : ℕ → ℕ → Bool) (q r : Quad) → alike_quad f q r ≡ true → Four f q r
unfolding alike_quad
four f q r e =
    let g = alike_graph f q.graph r.graph in
    let s = alike f q.triple.subject r.triple.subject in
    let p = alike f q.triple.predicate r.triple.predicate in
    let o = alike f q.triple.object r.triple.object in
    let gsp = and_left (g && s && p) o e in
    let gs = and_left (g && s) p gsp in
    record { graph = and_left g s gs; subject = and_right g s gs; predicate = and_right (g && s) p gsp; object = and_right (g && s && p) o e }

pub of_four : (f : ℕ → ℕ → Bool) (q r : Quad) → Four f q r → alike_quad f q r ≡ true
unfolding alike_quad
of_four f q r h = rw (h.graph, h.subject, h.predicate, h.object)

module _ (f : ℕ → ℕ → Bool) (single : Single f) where
  alike_single : (t u v : Term) → alike f t u ≡ true → alike f t v ≡ true → u ≡ v
  unfolding alike
  alike_single t u v = by_nodes (node t) (node u) (node v) refl refl
    where
      by_nodes : (a b c : Option ℕ) → node u ≡ b → node v ≡ c → alike_by f (same_term t u) a b ≡ true → alike_by f (same_term t v) a c ≡ true → u ≡ v
      by_nodes none none none x y d e = sym (same_term_eq t u (rw d tt)) ∙ same_term_eq t v (rw e tt)
      by_nodes none none (some k) x y d e = contrary (sym e)
      by_nodes none (some n) c x y d e = contrary (sym d)
      by_nodes (some m) none c x y d e = contrary (sym d)
      by_nodes (some m) (some n) none x y d e = contrary (sym e)
      by_nodes (some m) (some n) (some k) x y d e = node_numbered u n x ∙ ap (λ i. blank (numbered i)) (single m n k d e) ∙ sym (node_numbered v k y)

  graph_single : (g h i : Option Term) → alike_graph f g h ≡ true → alike_graph f g i ≡ true → h ≡ i
  unfolding alike_graph
  graph_single none none none d e = refl
  graph_single none none (some v) d e = contrary (sym e)
  graph_single none (some u) i d e = contrary (sym d)
  graph_single (some t) none i d e = contrary (sym d)
  graph_single (some t) (some u) none d e = contrary (sym e)
  graph_single (some t) (some u) (some v) d e = ap some (alike_single t u v d e)

  pub quad_single : (q r s : Quad) → alike_quad f q r ≡ true → alike_quad f q s ≡ true → r ≡ s
  quad_single q r s d e =
      let x = four f q r d in
      let y = four f q s e in
      let g = graph_single q.graph r.graph s.graph x.graph y.graph in
      let a = alike_single q.triple.subject r.triple.subject s.triple.subject x.subject y.subject in
      let b = alike_single q.triple.predicate r.triple.predicate s.triple.predicate x.predicate y.predicate in
      let c = alike_single q.triple.object r.triple.object s.triple.object x.object y.object in
      let made : Option Term → Term → Term → Term → Quad = λ g a b c. record { graph = g; triple = record { subject = a; predicate = b; object = c } } in
      let equal : made r.graph r.triple.subject r.triple.predicate r.triple.object ≡ made s.graph s.triple.subject s.triple.predicate s.triple.object = rw (g, a, b, c) in
      equal

-- ---- Within one edition: one value, so that one may stand for the other on either side of any relation

pub alike_refl : (t : Term) → alike eqb t t ≡ true
unfolding alike
alike_refl t = by_node (node t)
  where
    by_node : (a : Option ℕ) → alike_by eqb (same_term t t) a a ≡ true
    by_node none = same_term_refl t
    by_node (some m) = eq-eqb m m refl

eqb_single : Single eqb
eqb_single m n k d e = sym (eqb-true m n d) ∙ eqb-true m k e

pub alike_equal : (t u : Term) → alike eqb t u ≡ true → t ≡ u
alike_equal t u = alike_single eqb eqb_single t t u (alike_refl t)

graph_refl : (g : Option Term) → alike_graph eqb g g ≡ true
unfolding alike_graph
graph_refl none = refl
graph_refl (some t) = alike_refl t

pub same_refl : (q : Quad) → same q q ≡ true
same_refl q =
    of_four eqb q q (record { graph = graph_refl q.graph; subject = alike_refl q.triple.subject; predicate = alike_refl q.triple.predicate; object = alike_refl q.triple.object })

pub same_equal : (q r : Quad) → same q r ≡ true → q ≡ r
same_equal q r = quad_single eqb eqb_single q q r (same_refl q)
