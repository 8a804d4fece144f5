use mathlib.Core.Path.{◌≡◌, sym, ◌∙◌, subst}
use Prim.Native.Nat.{ℕ, suc}
use native.Mathlib.Numerals.{add-one}
use native.Mathlib.Omega.{arith}
use lib.ListN.{length}
use Rattle.std.proofs.Common.{rules, Option}
use Rattle.table.specs.Layout.{term_size}
use Rattle.chains.specs.Chains.{behind, heads, near, word_at, Before, Chained}
use Rattle.chains.specs.declared.Links.{Links}
use Rattle.chains.proofs.Chains.{At, near_key, falling, place_low, at_first, at_below, at_next}
use Rattle.comparison.specs.Comparison.{has_node}
use Rattle.comparison.specs.Code.{with_terms, is_node}
use Rattle.comparison.proofs.Search.{any_at, none_at}
use Rattle.comparison.proofs.Partners.{node_word}
use Rattle.comparison.proofs.pairs.has_node.Goals as goal

pub along-k-items-requires : goal.along-k-items-requires
along-k-items-requires c =
    let l = c.args.links.now in
    let f = word_at c.args.tables.now.terms.now 3 term_size in
    let h = subst (λ (m : ℕ). Chained l.words.now m f) (sym c.requires.1.0) c.requires.1.1 in
    (place_low (near (heads (length l.words.now) l.count) f c.args.n) l.count (behind c.first.result) (c.first.ensures f h), falling _ _ _ h)

pub loop-k-init : goal.loop-k-init
loop-k-init c =
    let t = c.args.tables.now in
    let f = word_at t.terms.now 3 term_size in
    let z : c.into_iter-k-iterator.result.links ≡ c.args.links.now = search rules in
    let q : c.into_iter-k-iterator.result.at ≡ c.first.result = search rules in (
      z,
      subst (λ (o : Option ℕ). At (heads (length c.args.links.now.words.now) c.args.count) f c.args.n (λ k. is_node (with_terms t c.args.count) c.args.n (suc k)) c.args.count o) (sym q)
          (at_first (heads (length c.args.links.now.words.now) c.args.count) f c.args.n (λ k. is_node (with_terms t c.args.count) c.args.n (suc k)) c.args.count c.first.result (λ j k e. near_key _ f c.args.n j (node_word (with_terms t c.args.count) c.args.n j e)) ((rw c.requires.1.0 at c.first.ensures) f c.requires.1.1)),
    )

pub is_node-requires : goal.is_node-requires
is_node-requires c = (omega arith, omega (arith, at_below _ _ c.args.n _ _ c.loop-k.k-iterator.at c.in-Some.k (sym c.next.ensures.steps.1.0 ∙ c.in-Some.is) c.loop-k.invariant.1, c.requires.0))

pub returns-then-is_node : goal.returns-then-is_node
unfolding has_node
returns-then-is_node c = any_at _ _ c.args.n _ _ c.loop-k.k-iterator.at c.loop-k.invariant.1 c.in-Some.k (sym c.next.ensures.steps.1.0 ∙ c.in-Some.is) (rw (sym (add-one c.in-Some.k)) (sym c.is_node.ensures ∙ c.if-is_node.true))

pub loop-k-preserved : goal.loop-k-preserved
loop-k-preserved c =
    let t = c.args.tables.now in
    let f = word_at t.terms.now 3 term_size in
    let e = sym c.next.ensures.steps.1.0 ∙ c.in-Some.is in
    let b = subst (λ (l : Links). Before l.words.now l.count c.in-Some.k c.next.new.self.at) c.loop-k.invariant.0 (c.next.ensures.steps.1.1 c.in-Some.k e) in (
      c.next.ensures.steps.0 ∙ c.loop-k.invariant.0,
      at_next _ _ c.args.n _ _ c.loop-k.k-iterator.at c.in-Some.k e c.loop-k.invariant.1 c.next.new.self.at ((rw c.requires.1.0 at b) f c.requires.1.1) (λ j k h. near_key _ f c.args.n j (node_word (with_terms t c.args.count) c.args.n j h)) (rw (sym (add-one c.in-Some.k)) (sym c.is_node.ensures ∙ c.if-is_node.false)),
    )

pub returns : goal.returns
unfolding has_node
returns c = none_at _ _ c.args.n _ _ c.loop-k.k-iterator.at c.loop-k.invariant.1 (sym c.next.ensures.steps.1.0 ∙ c.in-None.is)
