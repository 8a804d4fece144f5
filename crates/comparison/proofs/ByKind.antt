-- Terms compared kind by kind, as they stand in tables.
use mathlib.Core.Path.{◌≡◌, refl, sym, ap, ◌∙◌}
use mathlib.Core.Bool.{Bool, true, false, ◌&&◌}
use mathlib.Core.Option.{Option, none, some}
use Prim.Native.Nat.{ℕ, zero, suc, ◌≤◌}
use native.Mathlib.Omega.{arith}
use borrow.Author.Tests.{ne_eqb, eqb-true, eqb-false}
use lib.Dec.{eqb}
use Rattle.text.specs.Text.{same_text}
use Rattle.text.proofs.Compare.{by, and_false}
use Rattle.dataset.specs.Terms.{numbered, Term, iri, blank, literal, tagged, Quad}
use Rattle.table.specs.Layout.{Slices, iri_kind, blank_kind, literal_kind, tagged_kind}
use Rattle.table.specs.Tables.{same_term, text_of}
use Rattle.table.specs.Usable.{the, text, tag, term, graph}
use Rattle.usable.specs.Lent.{Sound}
use Rattle.usable.proofs.Words.{and_true}
use Rattle.comparison.specs.Comparison.{node, alike_by, alike, alike_graph, alike_quad}
use Rattle.comparison.specs.Code.{more}

-- ---- A term by its kind

pub fourth_kind : (k : ℕ) → 1 ≤ k → k ≤ 4 → (k ≡ 1 → ⊥) → (k ≡ 2 → ⊥) → (k ≡ 3 → ⊥) → k ≡ 4
fourth_kind zero a b x y z = absurd (omega arith)
fourth_kind (suc zero) a b x y z = absurd (x refl)
fourth_kind (suc (suc zero)) a b x y z = absurd (y refl)
fourth_kind (suc (suc (suc zero))) a b x y z = absurd (z refl)
fourth_kind (suc (suc (suc (suc k)))) a b x y z = omega arith

pub kind_of : Term → ℕ
kind_of (iri s) = 1
kind_of (blank b) = 2
kind_of (literal s d) = 3
kind_of (tagged s g) = 4

module _ (s : Slices) (n : ℕ) where
  pub term_iri : (the s n).kind ≡ iri_kind → term s n ≡ iri (text s n)
  term_iri e = rw e

  pub term_blank : (the s n).kind ≡ blank_kind → term s n ≡ blank (numbered (the s n).fourth)
  term_blank e = rw e

  term_literal : (the s n).kind ≡ literal_kind → term s n ≡ literal (text s n) (text s (the s n).fourth)
  term_literal e = rw e

  term_tagged : (the s n).kind ≡ tagged_kind → term s n ≡ tagged (text s n) (tag s n)
  term_tagged e = rw e

  module _ (h : Sound s n) where
    kind_is : kind_of (term s n) ≡ (the s n).kind
    unfolding kind_of
    kind_is =
        by (eqb (the s n).kind 1) (λ a. rw a (sym (eqb-true (the s n).kind 1 a)))
        (λ a.
        by (eqb (the s n).kind 2) (λ b. rw (a, b) (sym (eqb-true (the s n).kind 2 b)))
        (λ b.
        by (eqb (the s n).kind 3) (λ d. rw (a, b, d) (sym (eqb-true (the s n).kind 3 d)))
        (λ d. rw (a, b, d) (sym (fourth_kind (the s n).kind h.low h.high (eqb-false (the s n).kind 1 a) (eqb-false (the s n).kind 2 b) (eqb-false (the s n).kind 3 d))))))

    -- Three kinds are left for what is no blank node.
    pub by_kind : {X : Type 0} → ((the s n).kind ≡ 2 → ⊥) → ((the s n).kind ≡ 1 → X) → ((the s n).kind ≡ 3 → X) → ((the s n).kind ≡ 4 → X) → X
    by_kind b f g t =
        by (eqb (the s n).kind 1) (λ a. f (eqb-true (the s n).kind 1 a))
        (λ a.
        by (eqb (the s n).kind 3) (λ d. g (eqb-true (the s n).kind 3 d))
        (λ d. t (fourth_kind (the s n).kind h.low h.high (eqb-false (the s n).kind 1 a) b (eqb-false (the s n).kind 3 d))))

    pub text_is : ((the s n).kind ≡ 2 → ⊥) → text_of (term s n) ≡ text s n
    text_is b = by_kind b (λ e. ap text_of (term_iri e)) (λ e. ap text_of (term_literal e)) (λ e. ap text_of (term_tagged e))

    pub no_number : ((the s n).kind ≡ 2 → ⊥) → node (term s n) ≡ none
    no_number b = by_kind b (λ e. ap node (term_iri e)) (λ e. ap node (term_literal e)) (λ e. ap node (term_tagged e))

-- ---- Terms that are alike have one kind

by_left : (f : ℕ → ℕ → Bool) (o : Option ℕ) → alike_by f false o none ≡ false
by_left f none = refl
by_left f (some m) = refl

by_right : (f : ℕ → ℕ → Bool) (o : Option ℕ) → alike_by f false none o ≡ false
by_right f none = refl
by_right f (some m) = refl

alike_kind : (f : ℕ → ℕ → Bool) (t u : Term) → (kind_of t ≡ kind_of u → ⊥) → alike f t u ≡ false
unfolding alike same_term kind_of
alike_kind f (iri s) (iri t) h = absurd (h refl)
alike_kind f (iri s) (blank c) h = by_right f (node (blank c))
alike_kind f (iri s) (literal t e) h = refl
alike_kind f (iri s) (tagged t g) h = refl
alike_kind f (blank b) (iri t) h = by_left f (node (blank b))
alike_kind f (blank b) (blank c) h = absurd (h refl)
alike_kind f (blank b) (literal t e) h = by_left f (node (blank b))
alike_kind f (blank b) (tagged t g) h = by_left f (node (blank b))
alike_kind f (literal s d) (iri t) h = refl
alike_kind f (literal s d) (blank c) h = by_right f (node (blank c))
alike_kind f (literal s d) (literal t e) h = absurd (h refl)
alike_kind f (literal s d) (tagged t g) h = refl
alike_kind f (tagged s d) (iri t) h = refl
alike_kind f (tagged s d) (blank c) h = by_right f (node (blank c))
alike_kind f (tagged s d) (literal t e) h = refl
alike_kind f (tagged s d) (tagged t g) h = absurd (h refl)

module _ (f : ℕ → ℕ → Bool) (l : Slices) (n : ℕ) (r : Slices) (m : ℕ) (hl : Sound l n) (hr : Sound r m) where
  pub other_kind : ((the r m).kind ≡ (the l n).kind → ⊥) → false ≡ alike f (term l n) (term r m)
  other_kind e = sym (alike_kind f (term l n) (term r m) (λ q. e (sym (sym (kind_is l n hl) ∙ (q ∙ kind_is r m hr)))))

  module _ (e : (the r m).kind ≡ (the l n).kind) where
    pub both_blank : (the l n).kind ≡ 2 → f (the l n).fourth (the r m).fourth ≡ alike f (term l n) (term r m)
    unfolding alike
    both_blank b = sym (rw (term_blank l n b, term_blank r m (e ∙ b)))

    pub both_iri : (the l n).kind ≡ 1 → same_text (text l n) (text r m) ≡ true → true ≡ alike f (term l n) (term r m)
    unfolding alike same_term
    both_iri i t = sym (rw (term_iri l n i, term_iri r m (e ∙ i)) t)

    module _ (b : (the l n).kind ≡ 2 → ⊥) where
      pub other_text : same_text (text l n) (text r m) ≡ false → false ≡ alike f (term l n) (term r m)
      unfolding alike same_term
      other_text t =
          by_kind l n hl b (λ k. sym (rw (term_iri l n k, term_iri r m (e ∙ k)) t))
          (λ k. sym (rw (term_literal l n k, term_literal r m (e ∙ k), t)))
          (λ k. sym (rw (term_tagged l n k, term_tagged r m (e ∙ k), t)))

      pub rest : ((the l n).kind ≡ 1 → ⊥) → same_text (text l n) (text r m) ≡ true → same_text (more l n) (more r m) ≡ alike f (term l n) (term r m)
      unfolding alike same_term
      rest i t =
          by_kind l n hl b (λ k. absurd (i k))
          (λ k. let q : (the r m).kind ≡ 3 = e ∙ k in sym (rw (term_literal l n k, term_literal r m q, t, k, q)))
          (λ k. let q : (the r m).kind ≡ 4 = e ∙ k in sym (rw (term_tagged l n k, term_tagged r m q, t, k, q)))

-- ---- A literal's datatype or its tag

module _ (s : Slices) (n : ℕ) where
  pub more_type : (the s n).kind ≡ 3 → text s (the s n).fourth ≡ more s n
  more_type e = rw e

  pub more_tag : (the s n).kind ≡ 4 → tag s n ≡ more s n
  more_tag e = rw e

-- ---- Graphs and statements

module _ (f : ℕ → ℕ → Bool) (l r : Slices) where
  pub default_graph : (n m : ℕ) → n ≡ 0 → eqb m 0 ≡ alike_graph f (graph l n) (graph r m)
  unfolding alike_graph
  default_graph zero zero e = refl
  default_graph zero (suc m) e = ne_eqb (suc m) 0 (λ q. absurd (omega (arith, q)))
  default_graph (suc n) m e = absurd (omega arith)

  pub one_graph : (n m : ℕ) → (n ≡ 0 → ⊥) → m ≡ 0 → false ≡ alike_graph f (graph l n) (graph r m)
  unfolding alike_graph
  one_graph zero m a e = absurd (a refl)
  one_graph (suc n) zero a e = refl
  one_graph (suc n) (suc m) a e = absurd (omega arith)

  pub two_graphs : (n m : ℕ) → (n ≡ 0 → ⊥) → (m ≡ 0 → ⊥) → alike f (term l n) (term r m) ≡ alike_graph f (graph l n) (graph r m)
  unfolding alike_graph
  two_graphs zero m a b = absurd (a refl)
  two_graphs (suc n) zero a b = absurd (b refl)
  two_graphs (suc n) (suc m) a b = refl

module _ (f : ℕ → ℕ → Bool) (q r : Quad) where
  pub other_object : alike f q.triple.object r.triple.object ≡ false → false ≡ alike_quad f q r
  unfolding alike_quad
  other_object o =
      rw (o, and_false (alike_graph f q.graph r.graph && alike f q.triple.subject r.triple.subject && alike f q.triple.predicate r.triple.predicate))

  module _ (o : alike f q.triple.object r.triple.object ≡ true) where
    pub other_subject : alike f q.triple.subject r.triple.subject ≡ false → false ≡ alike_quad f q r
    unfolding alike_quad
    other_subject s = rw (s, and_false (alike_graph f q.graph r.graph))

    module _ (s : alike f q.triple.subject r.triple.subject ≡ true) where
      pub other_predicate : alike f q.triple.predicate r.triple.predicate ≡ false → false ≡ alike_quad f q r
      unfolding alike_quad
      other_predicate p = rw (p, s, and_true (alike_graph f q.graph r.graph), and_false (alike_graph f q.graph r.graph))

      pub same_triple : alike f q.triple.predicate r.triple.predicate ≡ true → alike_graph f q.graph r.graph ≡ alike_quad f q r
      unfolding alike_quad
      same_triple p = rw (p, s, o, and_true (alike_graph f q.graph r.graph), and_true (alike_graph f q.graph r.graph), and_true (alike_graph f q.graph r.graph))
