-- Statements that are alike have one key.
use mathlib.Core.Path.{◌≡◌, refl, sym, ap, ◌∙◌}
use mathlib.Core.Bool.{Bool, true}
use mathlib.Core.List.{List}
use mathlib.Core.Option.{Option, none, some}
use Prim.Native.Nat.{ℕ, zero, suc, ◌+◌, ◌%◌}
use native.Mathlib.Numerals.{add-one}
use native.Mathlib.Omega.{arith}
use borrow.Author.Tests.{ne_eqb, eqb-true}
use Rattle.std.specs.Option.{unwrap_or}
use Rattle.std.proofs.Common.{Option as StdOption, Some, None}
use Rattle.text.specs.Text.{cond}
use lib.Dec.{eqb}
use Rattle.text.proofs.Compare.{contrary}
use Rattle.chains.specs.Chains.{behind}
use Rattle.dataset.specs.Terms.{Term, Quad}
use Rattle.spelling.specs.Hash.{first_multiplier, stir, hash_from}
use Rattle.table.specs.Layout.{Slices, word_limit}
use Rattle.table.specs.Tables.{same_term, text_of}
use Rattle.table.specs.Usable.{the, text, term, graph}
use Rattle.table.proofs.Numbers.{same_term_eq}
use Rattle.usable.specs.Lent.{Sound}
use Rattle.comparison.specs.Comparison.{paired, node, alike_by, alike, alike_graph, alike_quad}
use Rattle.comparison.specs.Partners.{partner, Matched}
use Rattle.comparison.specs.Code.{nodes, number_key, key_by, term_key, graph_key, quad_key}
use Rattle.comparison.specs.declared.edition.Edition.{Edition}
use Rattle.comparison.specs.declared.edition.Edition.TheVariants.{Left, Right}
use Rattle.comparison.proofs.Alike.{four}
use Rattle.comparison.proofs.ByKind.{term_blank, text_is, no_number}

-- ---- Of numbers

paired_key : (p : List ℕ) → Matched p → (m n : ℕ) → paired p m n ≡ true → number_key Left p m ≡ number_key Right p n
unfolding number_key
paired_key p h m n e =
    let q = eqb-true (partner p m) (suc n) (sym (h m n) ∙ e) in
    rw (q, ne_eqb (suc n) 0 (λ z. omega arith)) (ap (λ (k : ℕ). k % word_limit) (sym (add-one n)))

pub node_keys : (a b : Edition) (p : List ℕ) → Matched p → (m n : ℕ) → nodes a b p m n ≡ true → number_key a p m ≡ number_key b p n
node_keys Left Left p h m n e = ap (number_key Left p) (eqb-true m n e)
node_keys Right Right p h m n e = ap (number_key Right p) (eqb-true m n e)
node_keys Left Right p h m n e = paired_key p h m n e
node_keys Right Left p h m n e = sym (paired_key p h n m e)

-- ---- Of terms and statements

module _ (f : ℕ → ℕ → Bool) (k k' : ℕ → ℕ) (h : (m n : ℕ) → f m n ≡ true → k m ≡ k' n) where
  term_keys : (t u : Term) → alike f t u ≡ true → term_key k t ≡ term_key k' u
  unfolding alike term_key
  term_keys t u = keys_by (node t) (node u)
    where
      keys_by : (a b : Option ℕ) → alike_by f (same_term t u) a b ≡ true → key_by k (hash_from first_multiplier 0 (text_of t)) a ≡ key_by k' (hash_from first_multiplier 0 (text_of u)) b
      keys_by none none e = ap (λ (x : Term). hash_from first_multiplier 0 (text_of x)) (same_term_eq t u (rw e tt))
      keys_by none (some n) e = contrary (sym e)
      keys_by (some m) none e = contrary (sym e)
      keys_by (some m) (some n) e = h m n e

  graph_keys : (g j : Option Term) → alike_graph f g j ≡ true → graph_key k g ≡ graph_key k' j
  unfolding alike_graph
  graph_keys none none e = refl
  graph_keys none (some u) e = contrary (sym e)
  graph_keys (some t) none e = contrary (sym e)
  graph_keys (some t) (some u) e = term_keys t u e

  pub quad_keys : (q r : Quad) → alike_quad f q r ≡ true → quad_key k q ≡ quad_key k' r
  unfolding quad_key
  quad_keys q r e =
      let x = four f q r e in
      rw (graph_keys q.graph r.graph x.graph, term_keys q.triple.subject r.triple.subject x.subject, term_keys q.triple.predicate r.triple.predicate x.predicate, term_keys q.triple.object r.triple.object x.object)

-- ---- As the routines compute them

module _ (k : ℕ → ℕ) (s : Slices) (n : ℕ) where
  pub blank_key : (the s n).kind ≡ 2 → k (the s n).fourth ≡ term_key k (term s n)
  unfolding term_key
  blank_key e = sym (rw (term_blank s n e))

  pub text_key : Sound s n → ((the s n).kind ≡ 2 → ⊥) → hash_from first_multiplier 0 (text s n) ≡ term_key k (term s n)
  unfolding term_key
  text_key h e = sym (rw (no_number s n h e, text_is s n h e))

pub no_graph : (k : ℕ → ℕ) (s : Slices) (n : ℕ) → n ≡ 0 → 0 ≡ graph_key k (graph s n)
no_graph k s n e = sym (rw e)

pub a_graph : (k : ℕ → ℕ) (s : Slices) (n : ℕ) → (n ≡ 0 → ⊥) → term_key k (term s n) ≡ graph_key k (graph s n)
a_graph k s zero h = absurd (h refl)
a_graph k s (suc n) h = refl

-- The key of a blank number, by its partner.
by_partner : (r : StdOption ℕ) (m q : ℕ) → behind r ≡ q → (unwrap_or r m + 1) % word_limit ≡ cond (eqb q 0) (m + 1) q % word_limit
by_partner None m q e = rw (← e)
by_partner (Some j) m q e = rw (← e, ne_eqb (suc j) 0 (λ z. omega arith), add-one j)

module _ (edition : Edition) (p : List ℕ) (m : ℕ) (r : StdOption ℕ) (u : ℕ) (is : u ≡ unwrap_or r m) where
  pub left_key : edition ≡ Left → behind r ≡ partner p m → (u + 1) % word_limit ≡ number_key edition p m
  unfolding number_key
  left_key l e = rw (l, is) (by_partner r m (partner p m) e)

  pub right_key : edition ≡ Right → r ≡ None → (u + 1) % word_limit ≡ number_key edition p m
  unfolding number_key
  right_key l e = rw (l, is, e)

pub stirred : (k : ℕ → ℕ) (q : Quad) (g s p o a b c : ℕ)
    → g ≡ graph_key k q.graph → s ≡ term_key k q.triple.subject → p ≡ term_key k q.triple.predicate → o ≡ term_key k q.triple.object
    → a ≡ stir first_multiplier g s → b ≡ stir first_multiplier a p → c ≡ stir first_multiplier b o → c ≡ quad_key k q
unfolding quad_key
stirred k q g s p o a b c hg hs hp ho ha hb hc = rw (hc, hb, ha, hg, hs, hp, ho)
